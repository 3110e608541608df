-- The ranges that seeks find are the selected rows of a piece.
use Rattle.std.proofs.Common.{◌≡◌, ℕ, ◌+◌, ◌-◌, ◌≤◌, max, ℤ, pos, Bool, true, false, List, [], ◌∷◌, drop, map, take, Option, Some, None, IfSome, inl, inr, refl, sym, ap, subst, ◌∙◌, arith}
use Rattle.std.specs.Prelude.{filter, int_le, is_some, nat_lt, option_map, ◌&&◌, slice_get, if◌then◌else◌}
use Rattle.std.specs.List.{range_with_len, enumerate_from}
use Rattle.std.specs.Option.{option_and, option_map_or}
use Rattle.std.proofs.lemmas.Bool.{cases_lt}
use Rattle.std.proofs.lemmas.Option.{slice_get-map}
use Rattle.vod_types.specs.declared.tracks.Kind.{Kind}
use Rattle.vod_types.specs.declared.tracks.Kind.TheVariants.{Video, Audio}
use Rattle.vod_types.specs.Lists.{from_first}
use Rattle.mp4_model.specs.Edits.{Edit}
use Rattle.mp4_model.specs.Fitting.{IsUsable}
use Rattle.mp4_model.specs.GoodTracks.{GoodTrack}
use Rattle.mp4_model.specs.Samples.{flat_row, sample_count}
use Rattle.clip_model.specs.declared.Piece.{Piece}
use Rattle.segment_model.specs.Numbered.{media_time, rows_between}
use Rattle.segment_model.specs.Rows.{SourceTrack, TimedRow, kept_from, timed_row, timed_rows}
use Rattle.segment_model.specs.Timeline.{SourcePiece, is_below, other_rows, rows_of, selected_from, selected_lead, selected_other}
use Rattle.segment_model.specs.Laws.{AreRanges}
use Rattle.segment_model.proofs.CellNumbers.{sync_begins, sync_within}
use Rattle.segment_model.proofs.Ranges.{are_ranges}
use Rattle.segment_model.proofs.RowNumbers.{IsOfTables, lead_begin, number_row, rows_between_are, selected_lead_by_number, selected_other_by_number}
use Rattle.segment_model.proofs.RowNumbers as numbers
use Rattle.origin_model.specs.Loaded.{CheckedPiece}
use Rattle.origin_model.specs.Sources.{source_piece, source_track}
use Rattle.origin_model.proofs.PieceOrder.{lead_rises, others_rise}
use Rattle.vod_plan.specs.Ranges.{PlannedPiece, RowRange}
use Rattle.vod_plan.specs.Seeks.{audio_range, first_kept, first_place, found_at, found_past, lead_range, other_range, place_at, source, video_range, whole_range}
use Rattle.vod_plan.specs.Selected.{IsKept, IsRangeIf, IsRangeOf, IsSelected}
use Rattle.vod_plan.proofs.RangeLemmas.{taken}
use Rattle.vod_plan.proofs.SeekLemmas.{first_within, past_within}

-- ---- rows by numbers

no_first : {X : Type 0} (xs : List X) → slice_get xs 0 ≡ None → xs ≡ []
no_first [] e = refl
no_first (x ∷ xs) e = absurd cc

-- an end that isn't above the beginning makes no row
wider : (s : SourceTrack) (from to : ℕ) → rows_between s from (max to from) ≡ rows_between s from to
unfolding rows_between
wider s from to = ap (λ (n : ℕ). map (timed_row s) (take n (drop from (enumerate_from 0 s.rows)))) (let e : max to from - from ≡ to - from = omega arith in e)

none_between : (s : SourceTrack) (from : ℕ) → rows_between s from from ≡ []
unfolding rows_between
none_between s from = ap (λ (n : ℕ). map (timed_row s) (take n (drop from (enumerate_from 0 s.rows)))) (let e : from - from ≡ 0 = omega arith in e)

past_same : (kind : Kind) (r : RowRange) (time : Option ℤ) → found_past kind r time ≡ numbers.found_past (source kind r) r.track.tables time
past_same kind r None = refl
past_same kind r (Some time) = refl

module _ (kind : Kind) (edit : Edit) (t : GoodTrack) (usable : IsUsable t) where
  abbrev s : SourceTrack
  s = source_track kind edit (Some t)

  abbrev all : RowRange
  all = whole_range edit t

  of_tables : IsOfTables s t.tables
  of_tables = record { rows = refl; timescale = usable.timescale }

  -- the first of some rows
  first_row : (from to : ℕ) → to ≤ sample_count t.tables → slice_get (rows_between s from to) 0 ≡ (if nat_lt from to then Some (number_row s t.tables from) else None)
  first_row from to within =
      let row : ℕ → TimedRow = number_row s t.tables in
      let later : List ℕ = range_with_len from (sample_count t.tables - from) in
      ap (λ (rows : List TimedRow). slice_get rows 0) (rows_between_are s t.tables from to of_tables)
      ∙ slice_get-map row (take (to - from) later) 0
      ∙ elim (cases_lt from to) [
        | inl lt ↦ ap (option_map row) (taken (to - from) from (sample_count t.tables - from) 0 (omega arith) (omega arith) ∙ ap Some (let e : from + 0 ≡ from = omega arith in e))
            ∙ sym (ap (λ (b : Bool). if b then Some (row from) else None) (let e : nat_lt from to ≡ true = grind arith in e))
        | inr ge ↦ ap (λ (n : ℕ). option_map row (slice_get (take n later) 0)) (let e : to - from ≡ 0 = omega arith in e)
            ∙ sym (ap (λ (b : Bool). if b then Some (row from) else None) (let e : nat_lt from to ≡ false = grind arith in e))
      ]

  place_of_first : (from to : ℕ) → to ≤ sample_count t.tables → first_place kind (record { track = t; edit = edit; from = from; to = to }) ≡ option_map (λ (r : TimedRow). r.place) (slice_get (rows_between s from to) 0)
  unfolding timed_row flat_row
  place_of_first from to within = go (nat_lt from to) (first_row from to within)
    where
      go : (b : Bool) → slice_get (rows_between s from to) 0 ≡ (if b then Some (number_row s t.tables from) else None)
          → (if b then Some (place_at kind all from) else None) ≡ option_map (λ (r : TimedRow). r.place) (slice_get (rows_between s from to) 0)
      go true e = sym (ap (option_map (λ (r : TimedRow). r.place)) e)
      go false e = sym (ap (option_map (λ (r : TimedRow). r.place)) e)

  -- ---- a lead track

  abbrev lead_of : Piece → Option SourceTrack → SourcePiece
  lead_of p other = record { base = p.base; lo = p.lo; hi = p.hi; lead = s; other = other }

  lead_rows : (p : Piece) (other : Option SourceTrack) → AreRanges (lead_of p other)
      → rows_between s (lead_range kind p.lo p.hi all).from (lead_range kind p.lo p.hi all).to ≡ selected_lead (lead_of p other)
  lead_rows p other are =
      let from : ℕ = lead_begin s t.tables p.lo in
      wider s from (found_past kind all p.hi)
      ∙ ap (rows_between s from) (past_same kind all p.hi)
      ∙ sym (selected_lead_by_number (lead_of p other) t.tables of_tables are)

  lead_kept : (p : Piece) → IsKept kind (lead_range kind p.lo p.hi all)
  lead_kept p =
      let first : ℕ = max (first_kept kind all) (found_at kind all p.lo) in
      let later = sync_begins t.tables first in
      omega (arith, later)

  lead_is : (p : Piece) (other : Option SourceTrack) → AreRanges (lead_of p other) → IsRangeOf kind edit t (selected_lead (lead_of p other)) (lead_range kind p.lo p.hi all)
  lead_is p other are = record { track = refl; edit = refl; rows = lead_rows p other are; kept = lead_kept p }

  -- where its first row stands
  lead_place : (p : Piece) (other : Option SourceTrack) → AreRanges (lead_of p other) → first_place kind (lead_range kind p.lo p.hi all) ≡ option_map (λ (r : TimedRow). r.place) (slice_get (selected_lead (lead_of p other)) 0)
  lead_place p other are =
      let r : RowRange = lead_range kind p.lo p.hi all in
      let past = past_within kind all p.hi in
      let begin = sync_within t.tables (max (first_kept kind all) (found_at kind all p.lo)) (omega (arith, first_within all (pos (kept_from s)), first_within all (media_time s p.lo))) in
      place_of_first r.from r.to (omega (arith, past, begin))
      ∙ ap (λ (rows : List TimedRow). option_map (λ (r : TimedRow). r.place) (slice_get rows 0)) (lead_rows p other are)

  -- ---- another track

  other_is : (p : SourcePiece) (o : Option TimedRow) → p.other ≡ Some s → AreRanges p → slice_get (selected_lead p) 0 ≡ o
      → IsRangeOf kind edit t (selected_other p) (other_range kind (option_map (λ (r : TimedRow). r.place) o) p.hi all)
  other_is p None other are at = record {
    track = refl;
    edit = refl;
    rows = ap (rows_between s (first_kept kind all)) (let k : ℕ = first_kept kind all in let e : max k k ≡ k = omega arith in e) ∙ none_between s (first_kept kind all) ∙ sym (are.none (no_first (selected_lead p) at));
    kept = omega arith;
  }
  other_is p (Some first) other are at =
      let from : ℕ = max (first_kept kind all) (found_at kind all first.place) in
      record {
        track = refl;
        edit = refl;
        rows = wider s from (found_past kind all p.hi) ∙ ap (rows_between s from) (past_same kind all p.hi) ∙ sym (selected_other_by_number p s t.tables first other of_tables are at);
        kept = let k : ℕ = first_kept kind all in let f : ℕ = found_at kind all first.place in let e : k ≤ max k f = omega arith in e;
      }

-- ---- a checked piece

module _ (c : CheckedPiece) where
  abbrev piece_by : Option GoodTrack → Option GoodTrack → SourcePiece
  piece_by v a = record {
    base = c.piece.base;
    lo = c.piece.lo;
    hi = c.piece.hi;
    lead = option_map_or (λ t. source_track Video c.video_edit (Some t)) v (source_track Audio c.audio_edit a);
    other = option_map (λ t. source_track Audio c.audio_edit (Some t)) (option_and v a);
  }

  abbrev rows_by : Option GoodTrack → Option GoodTrack → Kind → List TimedRow
  rows_by v a kind = rows_of (if is_some v then Video else Audio) kind (record { lead = selected_lead (piece_by v a); other = selected_other (piece_by v a) })

  abbrev usable : Option GoodTrack → Type 0
  usable o = IfSome o IsUsable

  rises : (v a : Option GoodTrack) → AreRanges (piece_by v a)
  rises v a = are_ranges (piece_by v a) (lead_rises v a c.video_edit c.audio_edit) (others_rise c.audio_edit (option_and v a))

  nothing_beside : (p : SourcePiece) → other_rows p.other ≡ [] → selected_other p ≡ []
  unfolding selected_other
  nothing_beside p e = ap (selected_from p.hi (selected_lead p)) e ∙ go (selected_lead p)
    where
      go : (lead : List TimedRow) → selected_from p.hi lead [] ≡ []
      go [] = refl
      go (r ∷ rs) = refl

  nothing_led : (a : Edit) (p : SourcePiece) → p.lead ≡ source_track Audio a None → selected_lead p ≡ []
  unfolding selected_lead timed_rows
  nothing_led a p e = ap (λ (s : SourceTrack). from_first (λ (r : TimedRow). r.sync) (filter (λ (r : TimedRow). int_le p.lo r.place && is_below r.place p.hi) (timed_rows s))) e

  video_is : (v a : Option GoodTrack) → usable v → IsRangeIf Video c.video_edit v (rows_by v a Video) (video_range c.piece (option_map (whole_range c.video_edit) v))
  video_is None a u = nothing_beside (piece_by None a) refl
  video_is (Some t) a u = lead_is Video c.video_edit t u c.piece (piece_by (Some t) a).other (rises (Some t) a)

  audio_is : (v a : Option GoodTrack) → usable v → usable a → IsRangeIf Audio c.audio_edit a (rows_by v a Audio) (audio_range c.piece (option_map (whole_range c.video_edit) v) (option_map (whole_range c.audio_edit) a))
  audio_is None None u w = nothing_led c.audio_edit (piece_by None None) refl
  audio_is (Some t) None u w = nothing_beside (piece_by (Some t) None) refl
  audio_is None (Some t) u w = lead_is Audio c.audio_edit t w c.piece None (rises None (Some t))
  audio_is (Some t) (Some x) u w =
      let p : SourcePiece = piece_by (Some t) (Some x) in
      let first = lead_place Video c.video_edit t u c.piece p.other (rises (Some t) (Some x)) in
      subst (λ (o : Option ℤ). IsRangeOf Audio c.audio_edit x (selected_other p) (other_range Audio o p.hi (whole_range c.audio_edit x))) (sym first)
      (other_is Audio c.audio_edit x w p (slice_get (selected_lead p) 0) refl (rises (Some t) (Some x)) refl)

  -- the ranges that seeks find of a piece
  pub are_selected : (p : PlannedPiece) → usable c.video → usable c.audio → p.name ≡ c.piece.name → p.base ≡ c.piece.base → p.video ≡ video_range c.piece (option_map (whole_range c.video_edit) c.video)
      → p.audio ≡ audio_range c.piece (option_map (whole_range c.video_edit) c.video) (option_map (whole_range c.audio_edit) c.audio) → IsSelected c p
  unfolding source_piece
  are_selected p u w name base video audio = record {
    name = name;
    base = base;
    video = subst (IsRangeIf Video c.video_edit c.video (rows_by c.video c.audio Video)) (sym video) (video_is c.video c.audio u);
    audio = subst (IsRangeIf Audio c.audio_edit c.audio (rows_by c.video c.audio Audio)) (sym audio) (audio_is c.video c.audio u w);
  }
