-- No row is behind all times.
use Rattle.std.proofs.Common.{ℤ, Option, length, map, sym, ap, ◌∙◌}
use Rattle.vod_types.specs.declared.tracks.Kind.{Kind}
use Rattle.vod_plan.specs.ListingCells.{first_after}
use Rattle.vod_plan.specs.Narrowed.{other_kind}
use Rattle.vod_plan.specs.Ranges.{planned_of}
use Rattle.vod_plan.specs.Spans.{piece_view}
use Rattle.vod_plan.proofs.ListingSteps.{after_none}
use Rattle.vod_plan.proofs.listed_part.ListedPart.first_other.Goals as goal

pub returns-in-None-clause-row : goal.returns-in-None-clause-row
returns-in-None-clause-row g c = λ le.
    let p = c.args.self.now in
    let rows = planned_of (other_kind p.leads) (map piece_view p.pieces.now) in
    c.reach_end.ensures.place ∙ ap (λ (kind : Kind). length (planned_of kind (map piece_view p.pieces.now))) c.other_kind-kind.ensures
    ∙ after_none rows ∙ ap (λ (o : Option ℤ). first_after o rows) (sym c.in-None.is)
