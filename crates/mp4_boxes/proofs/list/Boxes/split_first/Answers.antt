use Rattle.std.proofs.Common.{◌≡◌, ◌+◌, ◌-◌, length, refl, ap, ◌∙◌, arith, length-drop}
use Rattle.mp4_model.proofs.BoxesLemmas.{front_boxes-step, front_boxes-end, bad_place-step, bad_place-end}
use Rattle.mp4_boxes.proofs.FrontLemmas.{header_bounds}
use Rattle.mp4_boxes.proofs.list.Boxes.split_first.Goals as goal

pub returns-in_err-first : goal.returns-in_err-first
returns-in_err-first c = rw c.from_residual.ensures (refl, front_boxes-end _ _ c.in_err-first.ensures, bad_place-end _ _ c.in_err-first.ensures)

pub returns : goal.returns
returns c =
    let e = c.in_ok-first.ensures in
    let bounds = header_bounds _ _ _ e.1 in
    let shown = e.3 in
    let rest : length c.in_ok-first.rest.now ≡ length c.args.self.now.rest.now - e.0.size = ap length e.3 ∙ length-drop e.0.size c.args.self.now.rest.now in
    let next : c.args.self.now.at + (length c.args.self.now.rest.now - length c.in_ok-first.rest.now) ≡ c.args.self.now.at + e.0.size = omega (arith, rest, bounds) in (
      rw (next, e.2, e.3) (front_boxes-step _ _ e.0 e.1),
      rw (next, e.3) (bad_place-step _ _ e.0 e.1),
      omega (arith, rest, bounds),
    )
