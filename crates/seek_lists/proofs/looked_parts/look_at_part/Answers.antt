-- No piece, or a first one and those behind it.
use Rattle.std.proofs.Common.{◌≡◌, ◌∷◌, List, length, [], refl, subst, arith, All, sym, ap, ◌+◌}
use Rattle.std.proofs.lemmas.List.Elements.{All-tail}
use Rattle.clip_model.specs.declared.Piece.{Piece}
use Rattle.clip_model.specs.IsTimeline.{IsPiece}
use Rattle.vod_source.proofs.CallLemmas.{told_all, told_with_all, told_with_other}
use Rattle.seek_lists.specs.PartTracks.{part_seen}
use Rattle.flat_lists.proofs.ListedTimelines.{ok_all}
use Rattle.flat_lists.proofs.LookedLemmas as plain
use Rattle.vod_meta.specs.Held.{names_held}
use Rattle.seek_lists.proofs.PartLemmas.{few_placed}
use Rattle.seek_lists.proofs.LookedLemmas.{part_empty, part_refused, part_taken}
use Rattle.seek_lists.proofs.looked_parts.look_at_part.Goals as goal

no_length : (ps : List Piece) → length ps ≡ 0 → ps ≡ []
no_length [] e = refl
no_length (p ∷ ps) e = absurd (omega (arith, e))

pub returns-in_default-clause-told : goal.returns-in_default-clause-told
returns-in_default-clause-told g c =
    told_all (g.S.Store.content c.args.store.now) _
    (λ known. part_empty known c.args.looking.edits c.args.looking.mapping.now c.args.looking.sequence c.args.pieces.now c.none.result (names_held c.args.metas.now) _ (no_length c.args.pieces.now c.in_default.ensures.cases) c.none.ensures.seen)

pub returns-in_default-clause-of : goal.returns-in_default-clause-of
returns-in_default-clause-of g c = record { checked = []; of = sym (no_length c.args.pieces.now c.in_default.ensures.cases); seen = c.none.ensures.seen }

pub look_at_later-requires-clause-pieces : goal.look_at_later-requires-clause-pieces
look_at_later-requires-clause-pieces g c =
    All-tail IsPiece c.in-Some.first.now c.in-Some.later.now (subst (λ (ps : List Piece). All IsPiece ps) c.in-Some.ensures.cases.0 c.requires.pieces)

pub returns-in-Ok-clause-told : goal.returns-in-Ok-clause-told
returns-in-Ok-clause-told g c =
    told_with_other (g.S.Store.content c.args.store.now) _ _ _ _ c.in-Ok.ensures.content c.in-Ok.ensures.told c.look_at_later.ensures.told
    (λ known t u. part_taken known c.args.looking.edits c.args.looking.mapping.now c.args.looking.sequence c.args.pieces.now c.in-Some.first.now c.in-Some.later.now c.in-Some.ensures.cases.0 _ _ _ _ _ _
    (c.in-Ok.asked, c.in-Ok.part) c.look_at_later.result t u)

pub returns-in-Ok-clause-of : goal.returns-in-Ok-clause-of
returns-in-Ok-clause-of g c =
    ok_all c.look_at_later.result _ _ c.look_at_later.ensures.of
    (λ p with. plain.part_of_some c.args.looking.mapping.now c.args.looking.sequence c.args.pieces.now c.in-Some.first.now c.in-Some.later.now (part_seen c.in-Ok.part) (part_seen p) c.in-Some.ensures.cases.0 c.in-Ok.ensures.of with)

pub returns-in-Err-clause-told : goal.returns-in-Err-clause-told
returns-in-Err-clause-told g c =
    told_with_all (g.S.Store.content c.args.store.now) _ _ c.in-Err.ensures.told
    (λ known t. part_refused known c.args.looking.edits c.args.looking.mapping.now c.args.looking.sequence c.args.pieces.now c.in-Some.first.now c.in-Some.later.now c.in-Some.ensures.cases.0 _ _ (names_held c.args.metas.now) _ _
    (g.S.Store.log c.args.store.now) c.in-Err.refusal t)

pub returns-in_default-clause-placed : goal.returns-in_default-clause-placed
returns-in_default-clause-placed g c = few_placed 0 c.none.result (omega arith) c.none.ensures.placed

pub returns-in-Ok-clause-placed : goal.returns-in-Ok-clause-placed
returns-in-Ok-clause-placed g c =
    let many = ap (λ (ps : List Piece). length ps) c.in-Some.ensures.cases.0 in
    ok_all c.look_at_later.result _ _ c.look_at_later.ensures.placed (λ p placed. few_placed (1 + length c.in-Some.later.now) p (omega (arith, many, c.requires.few)) placed)
