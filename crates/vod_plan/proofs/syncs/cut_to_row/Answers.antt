-- The row alone is the range of its place.
use Rattle.std.proofs.Common.{map, ◌∙◌}
use Rattle.vod_plan.specs.Ranges.{planned_of}
use Rattle.vod_plan.specs.Spans.{piece_view}
use Rattle.vod_plan.proofs.SyncLemmas.{row_alone}
use Rattle.vod_plan.proofs.syncs.cut_to_row.Goals as goal

pub returns-clause-row : goal.returns-clause-row
returns-clause-row c = λ row at. c.cut_by_number.ensures.rows ∙ row_alone (planned_of c.args.kind (map piece_view c.args.pieces.now)) c.args.place row at
