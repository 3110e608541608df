use Rattle.std.proofs.Common.{Bool, List, All, subst, sym, ap, ◌∙◌}
use Rattle.vod_types.specs.declared.paths.Leaf.{Leaf}
use Rattle.list_model.specs.Pack.{pack}
use Rattle.origin_model.specs.Answers.{leaf_answer}
use Rattle.flat_lists.specs.Asked.{asking_view, setup_of}
use Rattle.vod_source.proofs.CallLemmas.{told_all, told_with_other}
use Rattle.list_model.specs.Names.{IsLeafOf}
use Rattle.mp4_flat.specs.Packed.{IsPackedAs, is_description}
use Rattle.mp4_flat.proofs.PackedPaths.{packed_failed, packed_names}
use Rattle.mp4_flat.proofs.packs.pack_names.Goals as goal

pub put_names-requires : goal.put_names-requires
put_names-requires g c =
    let named = subst (λ (dash : Bool). All (IsLeafOf dash) c.in-Ok.names.items) (sym c.is_description-dash.ensures) c.in-Ok.ensures.each in
    record { leaves = subst (All (IsLeafOf c.is_description-dash.result)) (sym c.deref.ensures.value) named }

pub returns-in-Ok-clause-told : goal.returns-in-Ok-clause-told
returns-in-Ok-clause-told g c =
    told_with_other (g.S.Store.content c.args.files.now) _ _ _ _ c.in-Ok.ensures.content c.in-Ok.ensures.told c.put_names.ensures.told
    (λ known named put. packed_names (setup_of c.args.settings.now c.args.root.now known) (asking_view c.args.asking.now) c.args.leaf _ c.in-Ok.names.items _ c.put_names.result _ _ c.is_description-dash.ensures named c.deref.ensures.value put)

pub returns-in-Err-clause-told : goal.returns-in-Err-clause-told
returns-in-Err-clause-told g c = told_all (g.S.Store.content c.args.files.now) _ (λ known. packed_failed _ c.in-Err.refusal _ c.in-Err.ensures.failed)
