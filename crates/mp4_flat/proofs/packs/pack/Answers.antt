use Rattle.std.proofs.Common.{[], sym, ◌∙◌}
use Rattle.flat_lists.specs.Asked.{setup_of}
use Rattle.vod_source.proofs.CallLemmas.{told_all, told_with_all}
use Rattle.mp4_flat.proofs.AnsweredPaths.{few_names, leaf_in-range}
use Rattle.mp4_flat.proofs.PackedPaths.{other_refused, packed_is_read, path_packed, path_refused}
use Rattle.mp4_flat.proofs.packs.pack.Goals as goal

pub returns-in-Err-clause-told : goal.returns-in-Err-clause-told
returns-in-Err-clause-told g c =
    told_all (g.S.Store.content c.args.files.now) _ (λ known. path_refused c.args.path.now (setup_of c.args.settings.now c.args.root.now known) c.in-Err.refusal _ c.in-Err.ensures)

pub returns-then-not-is_packed-clause-told : goal.returns-then-not-is_packed-clause-told
returns-then-not-is_packed-clause-told g c =
    told_all (g.S.Store.content c.args.files.now) _ (λ known. other_refused c.args.path.now (setup_of c.args.settings.now c.args.root.now known) c.in-Ok.ask _ c.in-Ok.ensures (sym c.is_packed.ensures ∙ c.if-not-is_packed.true))

pub pack_ask-requires-clause-packed : goal.pack_ask-requires-clause-packed
pack_ask-requires-clause-packed g c = sym c.is_packed.ensures ∙ c.if-not-is_packed.false

pub pack_ask-requires-clause-leaf : goal.pack_ask-requires-clause-leaf
pack_ask-requires-clause-leaf g c = leaf_in-range c.args.path.now c.in-Ok.ask c.in-Ok.ensures

pub pack_ask-requires-clause-names : goal.pack_ask-requires-clause-names
pack_ask-requires-clause-names g c = few_names (setup_of c.args.settings.now c.args.root.now []) c.args.path.now c.in-Ok.ask c.in-Ok.ensures

pub returns-clause-told : goal.returns-clause-told
returns-clause-told g c =
    told_with_all (g.S.Store.content c.args.files.now) _ _ c.pack_ask.ensures.told
    (λ known put. path_packed c.args.path.now (setup_of c.args.settings.now c.args.root.now known) c.in-Ok.ask c.pack_ask.result _ _ c.in-Ok.ensures (sym c.is_packed.ensures ∙ c.if-not-is_packed.false) put)

pub returns-clause-unread : goal.returns-clause-unread
returns-clause-unread g c = λ err. absurd (packed_is_read c.args.path.now c.in-Ok.ask c.in-Ok.ensures (sym c.is_packed.ensures ∙ c.if-not-is_packed.false) err)

pub returns-clause-unused : goal.returns-clause-unused
returns-clause-unused g c = λ err. absurd (packed_is_read c.args.path.now c.in-Ok.ask c.in-Ok.ensures (sym c.is_packed.ensures ∙ c.if-not-is_packed.false) err)
