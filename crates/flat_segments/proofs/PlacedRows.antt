-- Samples that are placed, and those of a stream that are decoded before a time.
use Rattle.std.proofs.Common.{◌≡◌, ℕ, ◌+◌, ◌<◌, Bool, cond, List, [], ◌∷◌, length, get_or, take, drop, map, All, ℤ, int_lt, refl, sym, ap, ◌∙◌, subst, arith}
use Rattle.std.specs.List.{prefix_len}
use Rattle.std.proofs.lemmas.List.{drop-map, get_or-map, length-map, take-map}
use Rattle.std.proofs.lemmas.List.Elements.{All-take, All-drop, All-filter}
use Rattle.vod_types.specs.declared.segments.Form.{Form}
use Rattle.vod_types.specs.declared.segments.Form.TheVariants.{Ts}
use Rattle.segment_model.specs.Grid.{PartGrid}
use Rattle.segment_model.specs.Lone.{lone_cell}
use Rattle.segment_model.specs.Rows.{TimedRow, decode_time_of, written_row}
use Rattle.segment_model.specs.Timeline.{TrackRows}
use Rattle.media_model.specs.WritingOrder.{is_before}
use Rattle.flat_samples.specs.declared.samples.TimedSample.{TimedSample}
use Rattle.flat_samples.specs.Rows.{timed_view, IsPlacedRow, ArePlacedRows}
use Rattle.flat_segments.specs.RowFaults.{rows_before, shown}
use Rattle.flat_segments.proofs.RowFaults.{no_sample}

-- ---- samples

module _ (samples : List TimedSample) (placed : All IsPlacedRow (map timed_view samples)) where
  pub placed_at : (i : ℕ) → i < length samples → IsPlacedRow (timed_view (get_or samples i no_sample))
  placed_at i within =
      subst IsPlacedRow (get_or-map timed_view samples i no_sample (timed_view no_sample) within)
      (placed i (timed_view no_sample) (let many = length-map samples timed_view in omega (arith, many, within)))

  pub placed_front : (n : ℕ) → All IsPlacedRow (map timed_view (take n samples))
  placed_front n = subst (All IsPlacedRow) (take-map timed_view n samples) (All-take IsPlacedRow n (map timed_view samples) placed)

  pub placed_later : (n : ℕ) → All IsPlacedRow (map timed_view (drop n samples))
  placed_later n = subst (All IsPlacedRow) (drop-map timed_view n samples) (All-drop IsPlacedRow n (map timed_view samples) placed)

-- the rows of a cell are placed as those of its part
pub placed_cell : (g : PartGrid) (rows : TrackRows) (k : ℕ) → ArePlacedRows rows → ArePlacedRows (lone_cell g rows k)
unfolding lone_cell
placed_cell g rows k h = record {
  lead = All-take IsPlacedRow _ _ (All-drop IsPlacedRow _ rows.lead h.lead);
  other = All-filter _ IsPlacedRow rows.other h.other;
}

-- ---- those that are decoded before a time

abbrev early : ℤ → TimedRow → Bool
early time r = int_lt (decode_time_of Ts r) time

before_is : (video : TimedSample) (left : List TimedSample) → prefix_len (early (decode_time_of Ts (timed_view video))) (map timed_view left) ≡ prefix_len (is_before (shown Ts video)) (map (shown Ts) left)
unfolding written_row
before_is video [] = refl
before_is video (s ∷ left) = ap (λ (n : ℕ). cond (early (decode_time_of Ts (timed_view video)) (timed_view s)) (1 + n) 0) (before_is video left)

-- they are those that a stream writes before a video sample
pub rows_before_is : (form : Form) (video : TimedSample) (left : List TimedSample) (time : ℤ) (count : ℕ) → form ≡ Ts → time ≡ decode_time_of form (timed_view video)
    → count ≡ prefix_len (early time) (map timed_view left) → count ≡ rows_before form (shown form video) (map (shown form) left)
rows_before_is form video left time count is at counted =
    counted ∙ ap (λ (time : ℤ). prefix_len (early time) (map timed_view left)) (at ∙ ap (λ (form : Form). decode_time_of form (timed_view video)) is)
    ∙ before_is video left ∙ sym (ap (λ (form : Form). rows_before form (shown form video) (map (shown form) left)) is)
