use Rattle.std.proofs.Common.{◌≡◌, ◌<◌, Err, length, slice_get, refl, ap, sym, ◌∙◌, arith}
use Rattle.std.proofs.lemmas.Option.{slice_get_read}
use Rattle.vod_types.specs.declared.refusal.Refusal.TheVariants.{NoPart}
use Rattle.vod_types.specs.Lists.{nth_from_one}
use Rattle.mp4_flat.proofs.InitLemmas.{init_piece-none, init_piece-empty, init_piece-first}
use Rattle.flat_segments.proofs.Places.{part-within}
use Rattle.mp4_flat.proofs.init.first_piece.Goals as goal

pub returns-in_default-clause-piece : goal.returns-in_default-clause-piece
returns-in_default-clause-piece c =
    let have : length c.args.timeline.now.parts ≡ c.len.result = omega (arith, c.timeline.inside.parts.ok.0, ap (λ t. length t.parts) c.timeline.view_is, c.len.ensures) in
    init_piece-none c.args.timeline.now c.args.number c.in_default.ensures ∙ ap (λ n. Err (NoPart c.args.number n)) have

pub returns-then-part-eq0-clause-piece : goal.returns-then-part-eq0-clause-piece
returns-then-part-eq0-clause-piece c = init_piece-empty c.args.timeline.now c.args.number c.in-Some.part.now c.in-Some.ensures (omega arith)

pub index-requires : goal.index-requires
index-requires c =
    let part = c.in-Some.part.now in
    let pieces = c.timeline.inside.pieces in
    let named = c.in-Some.ensures ∙ ap (λ t. nth_from_one t.parts c.args.number) (sym c.timeline.view_is) in
    omega (arith, part-within c.timeline.inside.parts.items (length pieces.items) c.args.number part c.timeline.invariant.follow named, pieces.ok.0)

pub returns-clause-piece : goal.returns-clause-piece
returns-clause-piece c =
    let part = c.in-Some.part.now in
    let pieces = c.timeline.inside.pieces in
    let named = c.in-Some.ensures ∙ ap (λ t. nth_from_one t.parts c.args.number) (sym c.timeline.view_is) in
    let within : part.first < length pieces.items = omega (arith, part-within c.timeline.inside.parts.items (length pieces.items) c.args.number part c.timeline.invariant.follow named) in
    let first = ap (λ t. slice_get t.pieces part.first) (sym c.timeline.view_is) ∙ slice_get_read pieces.items (length pieces.items) part.first c.index.result.now refl within c.index.ensures in
    init_piece-first c.args.timeline.now c.args.number part c.index.result.now c.in-Some.ensures (omega arith) first
