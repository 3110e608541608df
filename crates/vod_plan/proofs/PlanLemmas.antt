-- A plan as the writers see it.
use Rattle.std.proofs.Common.{◌≡◌, ℕ, map, refl}
use Rattle.std.specs.Prelude.{option_and_then}
use Rattle.std.specs.Rc.{rc_value}
use Rattle.vod_types.specs.declared.tracks.Kind.{Kind}
use Rattle.vod_types.specs.declared.tracks.Kind.TheVariants.{Video, Audio}
use Rattle.vod_types.specs.SegmentRows.{rows_of}
use Rattle.segment_model.specs.Rows.{written_row}
use Rattle.vod_plan.specs.declared.spans.PlanPiece.{PlanPiece}
use Rattle.vod_plan.specs.Planned.{Planned, plan_rows}
use Rattle.vod_plan.specs.Ranges.{planned_config, planned_name, planned_of, range_of}
use Rattle.vod_plan.specs.Spans.{piece_view, range_in, span_of}

pub rows_are : (kind : Kind) (p : Planned) → rows_of kind (plan_rows p) ≡ map (written_row p.form) (planned_of kind p.pieces)
unfolding plan_rows
rows_are Video p = refl
rows_are Audio p = refl

pub name_is : (p : Planned) (file : ℕ) → (plan_rows p).name file ≡ planned_name p.pieces file
unfolding plan_rows
name_is p file = refl

pub config_is : (p : Planned) (file : ℕ) (kind : Kind) → (plan_rows p).config file kind ≡ planned_config p.pieces file kind
unfolding plan_rows
config_is p file kind = refl

-- the rows hang on the form and the pieces alone
pub same_plan : (p q : Planned) → p.form ≡ q.form → p.pieces ≡ q.pieces → plan_rows p ≡ plan_rows q
unfolding plan_rows
same_plan p q form pieces = rw (form, pieces) refl

-- the range of a span
pub range_by : (kind : Kind) (p : PlanPiece) → range_of kind (piece_view p) ≡ option_and_then (range_in (rc_value p.meta).movie) (span_of kind p)
range_by Video p = refl
range_by Audio p = refl
