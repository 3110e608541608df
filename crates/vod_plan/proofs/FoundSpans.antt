-- Spans of tracks that a check found.
use Rattle.std.proofs.Common.{◌≡◌, ℕ, ◌≤◌, max, Option, Some, None, IfSome, Result, Ok, Err, sym, ap, subst, ◌∙◌, arith}
use Rattle.std.specs.Prelude.{option_map}
use Rattle.std.specs.Result.{result_ok}
use Rattle.std.proofs.lemmas.Int.{ints}
use Rattle.mp4_model.specs.declared.TrackFault.{TrackFault}
use Rattle.mp4_model.specs.Fitting.{IsUsable}
use Rattle.mp4_model.specs.GoodTracks.{GoodTrack, track_view}
use Rattle.mp4_model.specs.Movie.{Movie}
use Rattle.mp4_model.specs.Samples.{sample_count}
use Rattle.mp4_tracks.specs.Edits.{edit_of_view}
use Rattle.vod_plan.specs.declared.spans.RowSpan.{RowSpan}
use Rattle.vod_plan.specs.declared.tracks.AskedTrack.{AskedTrack}
use Rattle.vod_plan.specs.Ranges.{RowRange}
use Rattle.vod_plan.specs.Seeks.{rows_from, whole_range}
use Rattle.vod_plan.specs.Selected.{IsFound}
use Rattle.vod_plan.specs.Spans.{range_in, range_with, IsRange, IsRangeIn}
use Rattle.vod_plan.specs.Tracks.{edit_in, track_in}

module _ (m : Movie) where
  -- a track without a fault; no edit is longer than an edit may be
  pub is-found : (a : AskedTrack) (g : GoodTrack) → track_view m.tracks a.track ≡ Ok g → IsUsable g → IsFound m a
  is-found a g is usable = record {
    good = g;
    is = is;
    usable = usable;
    delay = omega (arith, ints, a.edit.delay_units.low, a.edit.delay_units.high);
    skip = omega (arith, ints, a.edit.skip_units.low, a.edit.skip_units.high);
  }

  -- ---- all rows of a track

  abbrev whole_span : AskedTrack → ℕ → RowSpan
  whole_span a to = record { track = a.track; delay = a.edit.delay; skip = a.edit.skip; from = 0; to = to }

  whole-view : (a : AskedTrack) (found : IsFound m a) (to : ℕ) → to ≡ sample_count found.good.tables → range_in m (whole_span a to) ≡ Some (whole_range (edit_of_view a.edit) found.good)
  whole-view a found to e =
      ap (λ (v : Result GoodTrack TrackFault). option_map (range_with (whole_span a to)) (result_ok v)) found.is
      ∙ ap (λ (n : ℕ). Some (range_with (whole_span a n) found.good)) e

  pub whole-is : (a : AskedTrack) (found : IsFound m a) (to : ℕ) → to ≡ sample_count found.good.tables → range_in m (whole_span a to) ≡ option_map (whole_range (edit_in (Some a))) (track_in m (Some a))
  whole-is a found to e = whole-view a found to e ∙ sym (ap (λ (v : Result GoodTrack TrackFault). option_map (whole_range (edit_of_view a.edit)) (result_ok v)) found.is)

  pub whole-in : (a : AskedTrack) (found : IsFound m a) (to : ℕ) → to ≡ sample_count found.good.tables → IsRangeIn m (whole_span a to)
  whole-in a found to e = record {
    range = whole_range (edit_of_view a.edit) found.good;
    is = whole-view a found to e;
    good = record { usable = found.usable; from = omega arith; to = omega arith; delay = found.delay; skip = found.skip };
  }

  pub found-usable : (o : Option AskedTrack) → IfSome o (IsFound m) → IfSome (track_in m o) IsUsable
  found-usable None found = tt
  found-usable (Some a) found = subst (λ (v : Result GoodTrack TrackFault). IfSome (result_ok v) IsUsable) (sym found.is) found.usable

  -- ---- rows from one number on and before another

  abbrev moved : RowSpan → ℕ → ℕ → RowSpan
  moved s from to = record { track = s.track; delay = s.delay; skip = s.skip; from = from; to = to }

  moved-view : (s : RowSpan) (r : RowRange) (from to : ℕ) → range_in m s ≡ Some r → range_in m (moved s from (max to from)) ≡ Some (rows_from r from to)
  moved-view s r from to e = go (track_view m.tracks s.track) e
    where
      go : (v : Result GoodTrack TrackFault) → option_map (range_with s) (result_ok v) ≡ Some r → option_map (range_with (moved s from (max to from))) (result_ok v) ≡ Some (rows_from r from to)
      go (Ok t) e = let same : range_with s t ≡ r = cc e in ap (λ (q : RowRange). Some (rows_from q from to)) same
      go (Err fault) e = absurd cc

  pub rows-in : (s : RowSpan) (r : RowRange) (from to top : ℕ) → range_in m s ≡ Some r → IsRange r → from ≤ sample_count r.track.tables → to ≤ sample_count r.track.tables → top ≡ max to from → IsRangeIn m (moved s from top)
  rows-in s r from to top e good a b is = subst (λ (n : ℕ). IsRangeIn m (moved s from n)) (sym is) (record {
    range = rows_from r from to;
    is = moved-view s r from to e;
    good = record { usable = good.usable; from = omega arith; to = omega (arith, a, b); delay = good.delay; skip = good.skip };
  })

  -- where they end
  pub range_to : (s : RowSpan) (r : RowRange) → range_in m s ≡ Some r → s.to ≡ r.to
  range_to s r e = go (track_view m.tracks s.track) e
    where
      go : (v : Result GoodTrack TrackFault) → option_map (range_with s) (result_ok v) ≡ Some r → s.to ≡ r.to
      go (Ok t) e = let same : range_with s t ≡ r = cc e in ap (λ (q : RowRange). q.to) same
      go (Err fault) e = absurd cc
