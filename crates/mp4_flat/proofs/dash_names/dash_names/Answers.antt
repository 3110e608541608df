use Rattle.std.proofs.Common.{true, All, refl, sym, subst, ◌∙◌}
use Rattle.std.proofs.lemmas.List.Elements.{All-nil}
use Rattle.flat_lists.specs.Asked.{asking_view, setup_of}
use Rattle.vod_source.proofs.CallLemmas.{told_with_all}
use Rattle.list_model.specs.Names.{IsLeafOf}
use Rattle.mp4_flat.proofs.PackedPaths.{dash_put}
use Rattle.mp4_flat.proofs.dash_names.dash_names.Goals as goal

pub returns-in-Ok-push_described-clause-told : goal.returns-in-Ok-push_described-clause-told
returns-in-Ok-push_described-clause-told g c =
    told_with_all (g.S.Store.content c.args.files.now) _ _ c.in-Ok.ensures.told
    (λ known found. dash_put (setup_of c.args.settings.now c.args.root.now known) (asking_view c.args.asking.now) c.sequences.result c.in-Ok.periods.items _ _ _ _ c.deref.ensures.value c.sequences.ensures.count found c.new-names.ensures.items c.in-Ok-push.ensures.names c.in-Ok-push_described.ensures.names)

pub returns-in-Ok-push_described-clause-each : goal.returns-in-Ok-push_described-clause-each
returns-in-Ok-push_described-clause-each g c =
    c.in-Ok-push_described.ensures.each (c.in-Ok-push.ensures.each true refl (subst (All (IsLeafOf true)) (sym c.new-names.ensures.items) (All-nil (IsLeafOf true))))
