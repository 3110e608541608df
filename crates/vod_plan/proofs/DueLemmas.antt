-- Rows that are due.
use Rattle.std.proofs.Common.{◌≡◌, ◌+ℤ◌, int_lt, refl}
use Rattle.vod_types.specs.declared.segments.Form.{Form}
use Rattle.vod_types.specs.declared.segments.Form.TheVariants.{Ts}
use Rattle.vod_types.specs.declared.tracks.Kind.{Kind}
use Rattle.segment_model.specs.Rows.{decode_time_of, written_row}
use Rattle.media_model.specs.WritingOrder.{of_track}
use Rattle.origin_model.specs.Samples.{is_backward}
use Rattle.vod_plan.specs.declared.samples.DueRow.{DueRow}
use Rattle.vod_plan.specs.Dues.{due_view, shown}

pub shown_dts : (form : Form) (d : DueRow) → decode_time_of form (due_view d) ≡ (shown form d).sample.dts
unfolding written_row
shown_dts form d = refl

pub shown_pts : (form : Form) (d : DueRow) → (due_view d).presentation ≡ (shown form d).sample.pts
unfolding written_row
shown_pts form d = refl

pub shown_size : (form : Form) (d : DueRow) → d.sample.size ≡ (shown form d).sample.size
unfolding written_row
shown_size form d = refl

pub shown_at : (form : Form) (d : DueRow) → d.sample.offset ≡ (shown form d).sample.at
unfolding written_row
shown_at form d = refl

pub shown_file : (form : Form) (d : DueRow) → d.file ≡ (shown form d).file
unfolding written_row
shown_file form d = refl

pub shown_number : (form : Form) (d : DueRow) → d.sample.number ≡ (shown form d).number
unfolding written_row
shown_number form d = refl

-- a stream can't show a sample before it is decoded
pub back_is : (d : DueRow) (kind : Kind) → int_lt (d.base +ℤ d.sample.presentation) (shown Ts d).sample.dts ≡ is_backward Ts (of_track kind (shown Ts d))
unfolding written_row
back_is d kind = refl
