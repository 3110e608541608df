use Rattle.std.proofs.Common.{Ok, ap, ◌∙◌, sym}
use Rattle.mp4_boxes.proofs.FrontLemmas.{boxes-ok, boxes-err}
use Rattle.mp4_boxes.proofs.payload.children.Goals as goal

pub returns-in-None : goal.returns-in-None
returns-in-None c = boxes-ok _ 0 (sym c.new-boxes.ensures.bad ∙ sym c.bad_place.ensures ∙ c.in-None.is) ∙ ap Ok (sym c.new-boxes.ensures.boxes)

pub returns-in-Some : goal.returns-in-Some
returns-in-Some c = boxes-err _ 0 c.in-Some.place (sym c.new-boxes.ensures.bad ∙ sym c.bad_place.ensures ∙ c.in-Some.is)
