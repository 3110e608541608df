use Rattle.std.proofs.Common.{length, ◌≡◌}
use Rattle.mp4_boxes.specs.Views.{bad_left}
use Rattle.mp4_boxes.proofs.list.Boxes.bad_place.Given as goal

abbrev pub invariant-loop : goal.invariant-loop
invariant-loop l = bad_left l.boxes ≡ bad_left l.fn.self

abbrev pub decreases-loop : goal.decreases-loop
decreases-loop l = length l.boxes.rest.now
