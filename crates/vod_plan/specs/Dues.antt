-- A row that is due in a walk; this project's own.
use Rattle.std.specs.Prelude.{◌≤◌, ◌^◌, unsigned_abs}
use Rattle.vod_types.specs.declared.segments.Form.{Form}
use Rattle.vod_types.specs.declared.segments.Row.{Row}
use Rattle.segment_model.specs.Rows.{TimedRow, written_row}
use Rattle.segment_model.specs.Timeline.{placed}
use Rattle.vod_plan.specs.declared.samples.DueRow.{DueRow}
use Rattle.vod_plan.specs.Cuts.{timed_view, AreSmall}

abbrev pub due_view : DueRow → TimedRow
due_view d = placed d.file d.base (timed_view d.sample)

-- as a form shows it
abbrev pub shown : Form → DueRow → Row
shown form d = written_row form (due_view d)

-- with times that can be added
pub record IsDue (d : DueRow) : Type 0 where
  pub small : AreSmall d.sample
  pub base : unsigned_abs d.base ≤ 2 ^ 41
