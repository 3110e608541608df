-- The selected samples of a piece, through a view of its samples.
use Rattle.std.proofs.Common.{◌≡◌, ℕ, zero, suc, ◌+◌, ◌-◌, ◌<◌, ◌≤◌, ◌^◌, Bool, true, false, cond, not, ◌&&◌, List, [], ◌∷◌, ◌++◌, length, map, filter, drop, get_or, ℤ, pos, ◌+ℤ◌, ◌-ℤ◌, ◌≤ℤ◌, Option, Some, None, option_map, unsigned_abs, FitsSigned, All, refl, sym, ap, ap₂, ◌∙◌, subst, arith, ltb, append-nil, drop-cons, length-drop, slice_range, take_all}
use Rattle.std.specs.Prelude.{is_some}
use Rattle.std.specs.Int.{w32}
use Rattle.std.specs.List.{position, position_or_len}
use Rattle.std.specs.Option.{option_and, option_map_or}
use Rattle.std.proofs.lemmas.Bool.{and_parts, ltb-true, ltb-false}
use Rattle.std.proofs.lemmas.Int.{ints}
use Rattle.std.proofs.lemmas.List.{drop-map, length-map, get_or-map}
use Rattle.std.proofs.lemmas.List.Elements.{All-append, All-drop, All-filter, All-map, All-nil, All-weaker}
use Rattle.std.proofs.lemmas.List.Sums.{passes_at_first}
use Rattle.vod_types.specs.Lists.{from_first}
use Rattle.vod_types.specs.declared.tracks.Kind.{Kind}
use Rattle.vod_types.specs.declared.tracks.Kind.TheVariants.{Video, Audio}
use Rattle.mp4_model.specs.Edits.{Edit}
use Rattle.mp4_model.specs.GoodTracks.{GoodTrack}
use Rattle.clip_model.specs.IsTimeline.{IsTime}
use Rattle.segment_model.specs.Rows.{TimedRow, timed_rows}
use Rattle.segment_model.specs.Timeline.{TrackRows, other_rows, placed, selected_from, selected_lead, selected_other}
use Rattle.origin_model.specs.Loaded.{CheckedPiece}
use Rattle.origin_model.specs.Sources.{source_track, source_piece}
use Rattle.flat_samples.specs.declared.samples.TimedSample.{TimedSample}
use Rattle.flat_samples.specs.Rows.{timed_view, rows_with, IsFileRow, IsPlacedRow, ArePlacedRows}
use Rattle.flat_samples.specs.Selection.{is_within, lead_within, rows_added}
use Rattle.flat_samples.proofs.ListViews.{position_or_len-map, abs_bounds, abs_from}

-- ---- the first that passes both tests

drop-past : {X : Type 0} (n : ℕ) (x : X) (xs : List X) → drop (1 + n) (x ∷ xs) ≡ drop n xs
drop-past n x xs = ap (λ (m : ℕ). drop m (x ∷ xs)) (let same : 1 + n ≡ suc n = omega arith in same)

from_first-step : {X : Type 0} (s t : X → Bool) (x : X) (xs F : List X) (p q : ℕ) (a b : Bool) → t x ≡ a → s x ≡ b → drop p F ≡ filter t (drop q xs) → F ≡ filter t xs
    → cond a (drop (cond (not b) (1 + p) 0) (x ∷ F)) (drop p F) ≡ filter t (drop (cond (not (a && b)) (1 + q) 0) (x ∷ xs))
from_first-step s t x xs F p q true true a b ih whole = sym (ap (λ c. cond c (x ∷ filter t xs) (filter t xs)) a ∙ ap (λ ys. x ∷ ys) (sym whole))
from_first-step s t x xs F p q true false a b ih whole = drop-past p x F ∙ ih ∙ ap (filter t) (sym (drop-past q x xs))
from_first-step s t x xs F p q false b' a b ih whole = ih ∙ ap (filter t) (sym (drop-past q x xs))

from_first-filter : {X : Type 0} (s t : X → Bool) (xs : List X) → from_first s (filter t xs) ≡ filter t (from_first (λ x. t x && s x) xs)
from_first-filter s t [] = refl
from_first-filter s t (x ∷ xs) =
    by_test (t x) ∙ from_first-step s t x xs (filter t xs) (position_or_len s (filter t xs)) (position_or_len (λ x. t x && s x) xs) (t x) (s x) refl refl (from_first-filter s t xs) refl
  where
    by_test : (a : Bool) → from_first s (cond a (x ∷ filter t xs) (filter t xs))
        ≡ cond a (drop (cond (not (s x)) (1 + position_or_len s (filter t xs)) 0) (x ∷ filter t xs)) (drop (position_or_len s (filter t xs)) (filter t xs))
    by_test true = refl
    by_test false = refl

-- ---- what is selected of a lead track

found : (n m i : ℕ) (b : Bool) → ltb n m ≡ b → cond b (Some n) None ≡ Some i → (n ≡ i) × (i < m)
found n m i true e is = (let same : n ≡ i = cc in (same, omega (arith, ltb-true n m e, same)))
found n m i false e is = absurd cc

nowhere : (n m : ℕ) (b : Bool) → ltb n m ≡ b → cond b (Some n) None ≡ None → m ≤ n
nowhere n m true e is = absurd cc
nowhere n m false e is = ltb-false n m e

module _ (lo : ℤ) (hi : Option ℤ) (samples : List TimedSample) where
  -- a sample with which the selected ones may begin
  abbrev may_lead : TimedSample → Bool
  may_lead s = is_within lo hi (timed_view s) && s.sync

  lead_is : lead_within lo hi (map timed_view samples) ≡ filter (is_within lo hi) (map timed_view (drop (position_or_len may_lead samples) samples))
  lead_is =
      from_first-filter (λ r. r.sync) (is_within lo hi) (map timed_view samples)
      ∙ ap (λ (n : ℕ). filter (is_within lo hi) (drop n (map timed_view samples))) (position_or_len-map timed_view (λ r. is_within lo hi r && r.sync) samples)
      ∙ ap (filter (is_within lo hi)) (drop-map timed_view (position_or_len may_lead samples) samples)

  pub none_selected : position may_lead samples ≡ None → lead_within lo hi (map timed_view samples) ≡ []
  none_selected e =
      lead_is ∙ ap (λ (xs : List TimedSample). filter (is_within lo hi) (map timed_view xs)) (drop-all (position_or_len may_lead samples) samples (nowhere (position_or_len may_lead samples) (length samples) _ refl e))
    where
      drop-all : (n : ℕ) (xs : List TimedSample) → length xs ≤ n → drop n xs ≡ []
      drop-all zero [] h = refl
      drop-all zero (x ∷ xs) h = absurd (omega (arith, h))
      drop-all (suc n) [] h = refl
      drop-all (suc n) (x ∷ xs) h = drop-all n xs (omega (arith, h))

  module _ (i : ℕ) (e : position may_lead samples ≡ Some i) where
    at : (position_or_len may_lead samples ≡ i) × (i < length samples)
    at = found (position_or_len may_lead samples) (length samples) i _ refl e

    pub selected_index : i < length samples
    selected_index = at.1

    pub selected_from_index : lead_within lo hi (map timed_view samples) ≡ filter (is_within lo hi) (map timed_view (drop i samples))
    selected_from_index = lead_is ∙ ap (λ (n : ℕ). filter (is_within lo hi) (map timed_view (drop n samples))) at.0

    -- the other track's rows from the time of the first
    pub others_from_index : (d : TimedSample) (rows : List TimedRow) → selected_from hi (lead_within lo hi (map timed_view samples)) rows ≡ filter (is_within (get_or samples i d).place hi) rows
    others_from_index d rows =
        let passes : may_lead (get_or samples i d) ≡ true = ap (λ (n : ℕ). may_lead (get_or samples n d)) (sym at.0) ∙ passes_at_first may_lead samples d (omega (arith, at.0, at.1)) in
        let within : is_within lo hi (timed_view (get_or samples i d)) ≡ true = (and_parts _ _ passes).0 in
        ap (λ (lead : List TimedRow). selected_from hi lead rows)
        (selected_from_index
        ∙ ap (λ (xs : List TimedSample). filter (is_within lo hi) (map timed_view xs)) (drop-cons samples i d at.1)
        ∙ ap (λ b. cond b (timed_view (get_or samples i d) ∷ filter (is_within lo hi) (map timed_view (drop (suc i) samples))) (filter (is_within lo hi) (map timed_view (drop (suc i) samples)))) within)

-- ---- rows that are put at the end

pub none_added : (rows : TrackRows) (file : ℕ) (base lo : ℤ) (hi : Option ℤ) (samples : List TimedSample) (other : List TimedRow) → position (λ s. is_within lo hi (timed_view s) && s.sync) samples ≡ None
    → rows ≡ rows_added rows file base lo hi (map timed_view samples) other
none_added rows file base lo hi samples other e =
    ap₂ (λ (xs ys : List TimedRow). let both : TrackRows = record { lead = xs; other = ys } in both) (sym (append-nil rows.lead)) (sym (append-nil rows.other))
    ∙ ap (λ (lead : List TimedRow). let both : TrackRows = record { lead = rows.lead ++ map (placed file base) lead; other = rows.other ++ map (placed file base) (selected_from hi lead other) } in both)
    (sym (none_selected lo hi samples e))

pub both_added : (rows : TrackRows) (file : ℕ) (base lo : ℤ) (hi : Option ℤ) (samples : List TimedSample) (i : ℕ) → position (λ s. is_within lo hi (timed_view s) && s.sync) samples ≡ Some i → (d : TimedSample) (other xs ys : List TimedRow)
    → xs ≡ rows.lead ++ map (placed file base) (filter (is_within lo hi) (map timed_view (slice_range samples i (length samples))))
    → ys ≡ rows.other ++ map (placed file base) (filter (is_within (get_or samples i d).place hi) other)
    → let both : TrackRows = record { lead = xs; other = ys } in both ≡ rows_added rows file base lo hi (map timed_view samples) other
both_added rows file base lo hi samples i e d other xs ys f g =
    ap₂ (λ (xs ys : List TimedRow). let both : TrackRows = record { lead = xs; other = ys } in both)
    (f ∙ ap (λ (ss : List TimedSample). rows.lead ++ map (placed file base) (filter (is_within lo hi) (map timed_view ss))) (take_all (length samples - i) (drop i samples) (omega (arith, length-drop i samples)))
    ∙ ap (λ (lead : List TimedRow). rows.lead ++ map (placed file base) lead) (sym (selected_from_index lo hi samples i e)))
    (g ∙ ap (λ (others : List TimedRow). rows.other ++ map (placed file base) others) (sym (others_from_index lo hi samples i e d other)))

-- what stands for a sample that isn't there
abbrev pub no_sample : TimedSample
no_sample = record { file = 0; number = 0; offset = 0; size = 0; place = pos 0; presentation = pos 0; duration = 0; lead_in = 0; sync = false }

pub file_row_at : (samples : List TimedSample) (i : ℕ) (d : TimedSample) → i < length samples → All IsFileRow (map timed_view samples) → IsFileRow (timed_view (get_or samples i d))
file_row_at samples i d lt all = subst IsFileRow (get_or-map timed_view samples i d (timed_view d) lt) (all i (timed_view d) (omega (arith, length-map samples timed_view, lt)))

-- one of them in the time of the output
pub placed_as : (s : TimedSample) (file : ℕ) (base place presentation : ℤ) → place ≡ base +ℤ s.place → presentation ≡ base +ℤ s.presentation
    → let moved : TimedSample = record { file = file; number = s.number; offset = s.offset; size = s.size; place = place; presentation = presentation; duration = s.duration; lead_in = s.lead_in; sync = s.sync } in timed_view moved ≡ placed file base (timed_view s)
placed_as s file base place presentation e f =
    ap₂ (λ (place presentation : ℤ). let moved : TimedSample = record { file = file; number = s.number; offset = s.offset; size = s.size; place = place; presentation = presentation; duration = s.duration; lead_in = s.lead_in; sync = s.sync } in timed_view moved) e f

-- ---- bounds

abs_sum : (a b : ℤ) (m n k : ℕ) → unsigned_abs a ≤ m → unsigned_abs b ≤ n → m + n ≤ k → unsigned_abs (a +ℤ b) ≤ k
abs_sum a b m n k h l le =
    let p = abs_bounds a m h in
    let q = abs_bounds b n l in
    let low : pos 0 ≤ℤ ((a +ℤ b) +ℤ pos k) = omega (arith, ints, p.0, q.0, le) in
    let high : (a +ℤ b) ≤ℤ pos k = omega (arith, ints, p.1, q.1, le) in
    abs_from (a +ℤ b) k low high

moved_together : (a b c : ℤ) → (a +ℤ b) -ℤ (a +ℤ c) ≡ b -ℤ c
moved_together a b c = omega (arith, ints)

pub placed_file_row : (file : ℕ) (base : ℤ) → IsTime base → (r : TimedRow) → IsFileRow r → IsPlacedRow (placed file base r)
placed_file_row file base small r h =
    let place : unsigned_abs r.place ≤ 2 ^ 41 = abs_from r.place (2 ^ 41) (let low : pos 0 ≤ℤ r.place = h.low in omega (arith, ints)) h.high in
    record {
      place = abs_sum base r.place (2 ^ 41) (2 ^ 41) (2 ^ 42) small place (omega arith);
      presentation = abs_sum base r.presentation (2 ^ 41) (2 ^ 42) (2 ^ 43) small h.presentation (omega arith);
      duration = h.duration;
      lead_in = h.lead_in;
      offset = subst (FitsSigned w32) (sym (moved_together base r.presentation r.place)) h.offset;
    }

others_placed : (file : ℕ) (base : ℤ) (hi : Option ℤ) (lead other : List TimedRow) → IsTime base → All IsFileRow other → All IsPlacedRow (map (placed file base) (selected_from hi lead other))
others_placed file base hi [] other small h = All-nil IsPlacedRow
others_placed file base hi (first ∷ lead) other small h =
    All-map IsPlacedRow (placed file base) (filter (is_within first.place hi) other)
    (All-weaker IsFileRow (λ r. IsPlacedRow (placed file base r)) (placed_file_row file base small) (filter (is_within first.place hi) other) (All-filter (is_within first.place hi) IsFileRow other h))

pub rows_added-placed : (rows : TrackRows) (file : ℕ) (base lo : ℤ) (hi : Option ℤ) (lead other : List TimedRow) → IsTime base → All IsFileRow lead → All IsFileRow other → ArePlacedRows rows → ArePlacedRows (rows_added rows file base lo hi lead other)
rows_added-placed rows file base lo hi lead other small lead_rows other_rows h = record {
  lead = All-append IsPlacedRow rows.lead (map (placed file base) (lead_within lo hi lead)) h.lead
      (All-map IsPlacedRow (placed file base) (lead_within lo hi lead)
      (All-weaker IsFileRow (λ r. IsPlacedRow (placed file base r)) (placed_file_row file base small) (lead_within lo hi lead)
      (All-drop IsFileRow _ (filter (is_within lo hi) lead) (All-filter (is_within lo hi) IsFileRow lead lead_rows))));
  other = All-append IsPlacedRow rows.other (map (placed file base) (selected_from hi (lead_within lo hi lead) other)) h.other (others_placed file base hi (lead_within lo hi lead) other small other_rows);
}

-- ---- the rows of a piece by its tracks

pub no_rows : (kind : Kind) (edit : Edit) → timed_rows (source_track kind edit None) ≡ []
unfolding timed_rows
no_rows kind edit = refl

abbrev from_tracks : TrackRows → ℕ → CheckedPiece → List TimedRow → List TimedRow → TrackRows
from_tracks rows file c lead other = rows_added rows file c.piece.base c.piece.lo c.piece.hi lead other

added_tracks : (rows : TrackRows) (file : ℕ) (c : CheckedPiece) (lead other : List TimedRow) → lead ≡ timed_rows (source_piece c).lead → other ≡ other_rows (source_piece c).other
    → from_tracks rows file c lead other ≡ rows_with rows file (source_piece c)
unfolding source_piece selected_lead selected_other
added_tracks rows file c lead other e f = ap₂ (λ (lead other : List TimedRow). from_tracks rows file c lead other) e f

-- where the video track leads
pub added-video : (rows : TrackRows) (file : ℕ) (c : CheckedPiece) (lead other : List TimedRow) → is_some c.video ≡ true → lead ≡ timed_rows (source_track Video c.video_edit c.video)
    → other ≡ timed_rows (source_track Audio c.audio_edit c.audio) → from_tracks rows file c lead other ≡ rows_with rows file (source_piece c)
unfolding source_piece
added-video rows file c lead other some e f = added_tracks rows file c lead other (e ∙ leads c.video some) (f ∙ follows c.video c.audio some)
  where
    leads : (video : Option GoodTrack) → is_some video ≡ true
        → timed_rows (source_track Video c.video_edit video) ≡ timed_rows (option_map_or (λ t. source_track Video c.video_edit (Some t)) video (source_track Audio c.audio_edit c.audio))
    leads None e = absurd cc
    leads (Some v) e = refl

    follows : (video audio : Option GoodTrack) → is_some video ≡ true
        → timed_rows (source_track Audio c.audio_edit audio) ≡ other_rows (option_map (λ t. source_track Audio c.audio_edit (Some t)) (option_and video audio))
    follows None audio e = absurd cc
    follows (Some v) None e = no_rows Audio c.audio_edit
    follows (Some v) (Some a) e = refl

-- where there is no video track
pub added-audio : (rows : TrackRows) (file : ℕ) (c : CheckedPiece) (lead : List TimedRow) → is_some c.video ≡ false → lead ≡ timed_rows (source_track Audio c.audio_edit c.audio)
    → from_tracks rows file c lead [] ≡ rows_with rows file (source_piece c)
unfolding source_piece
added-audio rows file c lead none e = added_tracks rows file c lead [] (e ∙ leads c.video none) (follows c.video none)
  where
    leads : (video : Option GoodTrack) → is_some video ≡ false
        → timed_rows (source_track Audio c.audio_edit c.audio) ≡ timed_rows (option_map_or (λ t. source_track Video c.video_edit (Some t)) video (source_track Audio c.audio_edit c.audio))
    leads None e = refl
    leads (Some v) e = absurd cc

    follows : (video : Option GoodTrack) → is_some video ≡ false → [] ≡ other_rows (option_map (λ t. source_track Audio c.audio_edit (Some t)) (option_and video c.audio))
    follows None e = refl
    follows (Some v) e = absurd cc
