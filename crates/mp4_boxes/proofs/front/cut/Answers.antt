use Rattle.std.proofs.Common.{ℕ, List, take, drop, ap, ◌∙◌, arith, length-take, length-drop}
use Rattle.mp4_model.specs.Boxes.{placed_box}
use Rattle.mp4_boxes.proofs.FrontLemmas.{header_bounds}
use Rattle.mp4_boxes.proofs.front.cut.Goals as goal

pub split_at-requires : goal.split_at-requires
split_at-requires c = let bounds = header_bounds _ _ _ c.requires.head in bounds.within

pub split_at-requires-2 : goal.split_at-requires-2
split_at-requires-2 c =
    let bounds = header_bounds _ _ _ c.requires.head in
    rw c.split_at.ensures.front (omega (arith, bounds, length-take c.args.head.size c.args.bytes.now))

pub invariant_of-first : goal.invariant_of-first
invariant_of-first c =
    let bounds = header_bounds _ _ _ c.requires.head in
    record { fits = rw (c.split_at-2.ensures.back, c.split_at.ensures.front) (omega (arith, bounds, length-drop c.args.head.head (take c.args.head.size c.args.bytes.now), length-take c.args.head.size c.args.bytes.now)) }

pub returns-clause-first : goal.returns-clause-first
unfolding placed_box
returns-clause-first c =
    ap (λ (body : List ℕ). record { at = c.args.at; kind = c.args.head.kind; head = c.args.head.head; body = body }) (c.split_at-2.ensures.back ∙ ap (drop c.args.head.head) c.split_at.ensures.front)
