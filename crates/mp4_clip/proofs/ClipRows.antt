-- The rows of a clip are those of which the front of a clip is written.
use Rattle.std.proofs.Common.{◌≡◌, ℕ, ◌+◌, ◌-◌, ◌<◌, ◌≤◌, ◌^◌, List, [], ◌∷◌, length, map, All, ℤ, ◌+ℤ◌, ◌-ℤ◌, unsigned_abs, FitsSigned, Option, Some, None, IfSome, refl, sym, ap, ◌∙◌, subst, arith}
use Rattle.std.specs.Prelude.{option_map}
use Rattle.std.specs.Int.{w32}
use Rattle.std.specs.List.{AllByRecursion, range_with_len}
use Rattle.std.specs.Option.{option_map_or}
use Rattle.std.proofs.lemmas.Int.{ints}
use Rattle.std.proofs.lemmas.List.Elements.{All-nil}
use Rattle.std.proofs.lemmas.List.FromFn.{get_or-map-range_with_len, length-map-range_with_len}
use Rattle.vod_types.specs.declared.segments.Form.TheVariants.{Fmp4}
use Rattle.vod_types.specs.declared.segments.Row.{Row}
use Rattle.vod_types.specs.declared.tracks.Kind.{Kind}
use Rattle.vod_types.specs.declared.tracks.Kind.TheVariants.{Video, Audio}
use Rattle.mp4_model.specs.Edits.{Edit}
use Rattle.mp4_model.specs.Samples.{flat_row, flat_rows, sample_count}
use Rattle.mp4_model.proofs.OffsetLemmas.{shown_near}
use Rattle.segment_model.specs.Rows.{TimedRow, lead_in_of, timed_row, timed_rows, written_row}
use Rattle.segment_model.proofs.Offsets.{OffsetFits, IsNear, timed_rows-fit}
use Rattle.segment_model.proofs.RowNumbers.{first_kept, number_row, timed_rows_by_number}
use Rattle.segment_model.proofs.Timelines.{to_units_rises}
use Rattle.media_model.specs.Clip.{ClipTrack, IfRows}
use Rattle.media_model.specs.InitSegment.{IsEntry}
use Rattle.origin_model.specs.Clips.{clip_track}
use Rattle.vod_plan.specs.declared.spans.PlanPiece.{PlanPiece}
use Rattle.vod_plan.specs.Ranges.{RowRange, range_of, range_rows}
use Rattle.vod_plan.specs.Selected.{IsKept, IsKeptIn}
use Rattle.vod_plan.specs.Spans.{piece_view, IsPlanPiece, IsRange}
use Rattle.vod_plan.proofs.RangeLemmas.{of_tables, source}
use Rattle.vod_plan.proofs.SpotLemmas.{good_range, timely}
use Rattle.flat_clip.specs.Tracks.{HasRoom, IsClipRow, IsSmallTrack}
use Rattle.flat_clip.proofs.EntryLemmas.{has_reference}
use Rattle.mp4_clip.specs.Kept.{kept_rows, track_with_rows, AreFew}
use Rattle.mp4_clip.proofs.KeptRows.{kept-are, kept-length, kept_row}
use Rattle.mp4_clip.proofs.StartLemmas.{track-rows}

-- ---- a row

made_all : {X Y : Type 0} (P : Y → Type 0) (f : X → Y) → ((x : X) → P (f x)) → (xs : List X) → AllByRecursion P (map f xs)
made_all P f h [] = tt
made_all P f h (x ∷ xs) = (h x, made_all P f h xs)

kept_short : (kind : Kind) (edit : Edit) → lead_in_of kind edit ≤ 90000
kept_short Video edit = omega arith
kept_short Audio edit = omega arith

moved : (a b c : ℤ) → (a +ℤ b) -ℤ (a +ℤ c) ≡ b -ℤ c
moved a b c = omega (arith, ints)

module _ (kind : Kind) (p : PlanPiece) (r : RowRange) (e : range_of kind (piece_view p) ≡ Some r) (good : IsRange r) (kept : IsKept kind r) (base : unsigned_abs p.base ≤ 2 ^ 41) where
  abbrev row_in_file : ℕ → TimedRow
  row_in_file i = number_row (source kind r) r.track.tables i

  -- presentation minus decode time fits 32 bits
  offset-fits : (i : ℕ) → r.from ≤ i → i < r.to → OffsetFits (row_in_file i)
  unfolding flat_rows flat_row
  offset-fits i from to =
      let s = source kind r in
      let t = r.track.tables in
      let n : ℕ = sample_count t in
      let k : ℕ = first_kept s t in
      let near : AllByRecursion (IsNear s) s.rows = made_all (IsNear s) (flat_row t) (λ i. shown_near t r.track.timescale i good.usable.timescale good.usable.none_broken) (range_with_len 0 n) in
      let all : All OffsetFits (timed_rows s) = timed_rows-fit s (kept_short kind r.edit) near in
      let rows : All OffsetFits (map row_in_file (range_with_len k (n - k))) = subst (All OffsetFits) (timed_rows_by_number s t (of_tables kind r good)) all in
      let at : ℕ = i - k in
      let within : at < n - k = omega (arith, kept, from, to, good.to) in
      let d : TimedRow = row_in_file i in
      let many = length-map-range_with_len row_in_file k (n - k) in
      subst OffsetFits (get_or-map-range_with_len row_in_file k (n - k) at i d within (omega (arith, kept, from))) (rows at d (omega (arith, many, within)))

  clip-row : (i : ℕ) → r.from ≤ i → i < r.to → IsClipRow (kept_row kind p r e good i)
  unfolding written_row timed_row
  clip-row i from to =
      let row = flat_row r.track.tables i in
      let time = timely r i good to in
      let rises = to_units_rises r.track.timescale row.decode_time (row.decode_time + row.delta) (omega arith) in
      record {
        first = refl;
        time = omega (arith, ints, rises, time.short, good.delay, base);
        offset = subst (FitsSigned w32) (sym (moved p.base (row_in_file i).presentation (row_in_file i).place)) (offset-fits i from to);
      }

  pub clip-rows : All IsClipRow (kept_rows kind p)
  clip-rows =
      let n : ℕ = r.to - r.from in
      let f : ℕ → Row = kept_row kind p r e good in
      subst (All IsClipRow) (sym (kept-are kind p r e good))
      (λ i d within.
      let many = length-map-range_with_len f r.from n in
      subst IsClipRow (sym (get_or-map-range_with_len f r.from n i (r.from + i) d (omega (arith, many, within)) refl)) (clip-row (r.from + i) (omega arith) (omega (arith, many, within))))

-- ---- a track

any_rows : (rows : List Row) (P : Type 0) → P → IfRows rows P
any_rows [] P h = tt
any_rows (row ∷ rows) P h = h

module _ (kind : Kind) (p : PlanPiece) where
  -- there is none
  pub track-none : range_of kind (piece_view p) ≡ None → track_with_rows kind p ≡ record { entry = []; width = 0; height = 0; rows = [] }
  track-none e = ap (λ (o : Option RowRange). clip_track (option_map (λ r. r.track) o) (map (written_row Fmp4) (option_map_or (range_rows kind 0 p.base) o []))) e

  pub track-some : (r : RowRange) → range_of kind (piece_view p) ≡ Some r → track_with_rows kind p ≡ record { entry = r.track.entry; width = r.track.width; height = r.track.height; rows = kept_rows kind p }
  track-some r e = ap (λ (o : Option RowRange). clip_track (option_map (λ r. r.track) o) (kept_rows kind p)) e

  pub small-none : (t : ClipTrack) → range_of kind (piece_view p) ≡ None → t ≡ track_with_rows kind p → IsSmallTrack t
  small-none t e is = subst IsSmallTrack (sym (is ∙ track-none e)) (record { few = omega arith; short = omega arith; room = tt; rows = All-nil IsClipRow })

  -- the entry that it has is one that an init segment takes
  pub small-some : (t : ClipTrack) (r : RowRange) → range_of kind (piece_view p) ≡ Some r → IsPlanPiece p → IsKeptIn kind (piece_view p) → AreFew kind p → t ≡ track_with_rows kind p → IsEntry t.entry → IsSmallTrack t
  small-some t r e good kept few is entry =
      let rows : t.rows ≡ kept_rows kind p = ap (λ (t : ClipTrack). t.rows) is ∙ track-rows kind p in
      let range = good_range kind p r good e in
      let within = subst (λ (o : Option RowRange). IfSome o (IsKept kind)) e kept in
      record {
        few = omega (arith, ap (λ (rows : List Row). length rows) rows, kept-length kind p good, few);
        short = entry.few;
        room = any_rows t.rows (HasRoom t.entry) (has_reference t.entry entry);
        rows = subst (All IsClipRow) (sym rows) (clip-rows kind p r e range within good.base);
      }
