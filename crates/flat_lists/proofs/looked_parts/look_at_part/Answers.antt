use Rattle.std.proofs.Common.{◌≡◌, ◌∷◌, List, length, [], refl, subst, arith, All}
use Rattle.std.proofs.lemmas.List.Elements.{All-tail}
use Rattle.clip_model.specs.declared.Piece.{Piece}
use Rattle.clip_model.specs.IsTimeline.{IsPiece}
use Rattle.vod_source.proofs.CallLemmas.{told_all, told_with_all, told_with_other}
use Rattle.flat_lists.specs.PartTracks.{part_seen}
use Rattle.flat_lists.proofs.ListedTimelines.{ok_all}
use Rattle.flat_lists.proofs.LookedLemmas.{part_empty, part_of_none, part_of_some, part_refused, part_taken}
use Rattle.flat_lists.proofs.looked_parts.look_at_part.Goals as goal

no_length : (ps : List Piece) → length ps ≡ 0 → ps ≡ []
no_length [] e = refl
no_length (p ∷ ps) e = absurd (omega (arith, e))

pub returns-in_default-clause-told : goal.returns-in_default-clause-told
returns-in_default-clause-told g c =
    told_all (g.S.Store.content c.args.files.now) _
    (λ known. λ trues. part_empty known c.args.looking.edits c.args.looking.mapping.now c.args.looking.sequence c.args.pieces.now c.none.result c.args.movies.now _ (no_length c.args.pieces.now c.in_default.ensures.cases) c.none.ensures.seen trues)

pub returns-in_default-clause-of : goal.returns-in_default-clause-of
returns-in_default-clause-of g c = part_of_none c.args.looking.mapping.now c.args.looking.sequence c.args.pieces.now c.none.result (no_length c.args.pieces.now c.in_default.ensures.cases) c.none.ensures.seen

pub look_at_later-requires-clause-pieces : goal.look_at_later-requires-clause-pieces
look_at_later-requires-clause-pieces g c =
    All-tail IsPiece c.in-Some.first.now c.in-Some.later.now (subst (λ (ps : List Piece). All IsPiece ps) c.in-Some.ensures.cases.0 c.requires.pieces)

pub returns-in-Ok-clause-told : goal.returns-in-Ok-clause-told
returns-in-Ok-clause-told g c =
    told_with_other (g.S.Store.content c.args.files.now) _ _ _ _ c.in-Ok.ensures.content c.in-Ok.ensures.told c.look_at_later.ensures.told
    (λ known t u trues. part_taken known c.args.looking.edits c.args.looking.mapping.now c.args.looking.sequence c.args.pieces.now c.in-Some.first.now c.in-Some.later.now c.in-Some.ensures.cases.0 _ _ _ _ _ _
    (c.in-Ok.asked, c.in-Ok.part) c.look_at_later.result (t trues) (u (t trues).true_now))

pub returns-in-Ok-clause-of : goal.returns-in-Ok-clause-of
returns-in-Ok-clause-of g c =
    ok_all c.look_at_later.result _ _ c.look_at_later.ensures.of
    (λ p with. part_of_some c.args.looking.mapping.now c.args.looking.sequence c.args.pieces.now c.in-Some.first.now c.in-Some.later.now (part_seen c.in-Ok.part) (part_seen p) c.in-Some.ensures.cases.0 c.in-Ok.ensures.of with)

pub returns-in-Err-clause-told : goal.returns-in-Err-clause-told
returns-in-Err-clause-told g c =
    told_with_all (g.S.Store.content c.args.files.now) _ _ c.in-Err.ensures.told
    (λ known t trues. part_refused known c.args.looking.edits c.args.looking.mapping.now c.args.looking.sequence c.args.pieces.now c.in-Some.first.now c.in-Some.later.now c.in-Some.ensures.cases.0 _ _ c.args.movies.now _ _
    (g.S.Store.log c.args.files.now) c.in-Err.refusal (t trues))
