-- The time of the lead row leads to the first row of the other kind.
use Rattle.std.proofs.Common.{◌≤◌, ◌≡◌, ℕ, subst}
use Rattle.vod_plan.specs.ListingCells.{part_rows}
use Rattle.vod_plan.specs.ListingReach.{place_of}
use Rattle.vod_plan.proofs.ListingSteps.{other_at}
use Rattle.vod_plan.proofs.listed_part.ListedPart.begin.Goals as goal

pub returns-clause-other : goal.returns-clause-other
returns-clause-other g c =
    let rows = part_rows c.args.self.now in
    subst (λ (due : ℕ). c.args.earlier.other.before ≤ due → place_of c.first_other-other.result ≡ due)
    (other_at rows (place_of c.first_lead-lead.result) c.reached_time-time.result c.reached_time-time.ensures.time) c.first_other-other.ensures.row
