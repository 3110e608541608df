-- What the plan of a segment comes to; this project's own.
use Rattle.std.specs.Prelude.{ℕ, ◌+◌, ◌≤◌, List, Option, Result, nat_lt, Bool}
use Rattle.std.specs.List.{list_any}
use Rattle.vod_types.specs.declared.refusal.Refusal.{Refusal}
use Rattle.vod_types.specs.declared.tracks.Asked.{Asked}
use Rattle.vod_types.specs.declared.tracks.Kind.{Kind}
use Rattle.clip_model.specs.Timeline.{Timeline}
use Rattle.vod_source.specs.Calls.{AnswersUnlessFailed}
use Rattle.vod_source.specs.Stored.{Read}
use Rattle.origin_model.specs.Plans.{Cutting, segment_looks}
use Rattle.origin_model.specs.Reads.{Cache}
use Rattle.vod_plan.specs.declared.lone.Wanted.{Wanted}
use Rattle.vod_plan.specs.declared.spans.PlanPiece.{PlanPiece}
use Rattle.vod_plan.specs.Looks.{names_of, segment_bound}
use Rattle.vod_plan.specs.Planned.{Planned, plan_view}
use Rattle.vod_plan.specs.Spans.{piece_view, rows_in}
use Rattle.vod_plan.specs.Turned.{AreTurns}
use Rattle.vod_plan.specs.Wanted.{planned_wanted}

-- a piece has a row of a kind
abbrev pub has_rows : Kind → List PlanPiece → Bool
has_rows kind pieces = list_any (λ p. nat_lt 0 (rows_in kind (piece_view p))) pieces

-- The plan of what is wanted of the segment of a number, or its first refusal, with the turns for it and so many looks.
pub record IsPlannedBy (c : Cutting) (asked : Asked) (t : Timeline) (number : ℕ) (wanted : Wanted) (result : Result Planned Refusal) (held held_now : Cache) (log log_now : Option (List Read)) (steps steps_now : ℕ) : Type 0 where
  pub answered : AnswersUnlessFailed plan_view result (planned_wanted c asked t number wanted)
  pub turned : AreTurns c.files (names_of (segment_looks c asked t number)) result held held_now log log_now
  pub looks : steps_now ≤ steps + segment_bound c asked t number
