-- Rows aren't refused for a failure of the store.
use Rattle.std.proofs.Common.{◌≢◌, ℕ, ◌+◌, ◌==◌, Bool, true, false, List, [], ◌∷◌, length, filter_map, find, nat_lt, not, if◌then◌else◌, option_map, slice_get, Option, Some, None, IfSome, Result}
use Rattle.std.specs.Bool.{then_some}
use Rattle.std.specs.List.{cons_option}
use Rattle.std.specs.Option.{option_or}
use Rattle.vod_types.specs.declared.refusal.Refusal.{Refusal}
use Rattle.vod_types.specs.declared.refusal.Refusal.TheVariants as refusals
use Rattle.vod_types.specs.declared.segments.Form.{Form}
use Rattle.vod_types.specs.declared.segments.Form.TheVariants.{Ts, Fmp4}
use Rattle.vod_types.specs.declared.tracks.Asked.{Asked}
use Rattle.vod_types.specs.Lists.{nth_from_one}
use Rattle.vod_types.specs.Results.{◌>>◌, unless}
use Rattle.segment_model.specs.Timeline.{TrackRows}
use Rattle.media_model.specs.WritingOrder.{TrackRow}
use Rattle.segment_model.specs.Iframes.{sync_rows}
use Rattle.origin_model.specs.Iframes.{alone, checked_iframe}
use Rattle.origin_model.specs.Loaded.{CheckedPiece}
use Rattle.origin_model.specs.Samples.{segment_plan, in_order, video_type, has_hevc, mixed_codecs, front_fault, sample_fault, name_at, size_at, greatest_size, is_backward, sizes_of, checked_rows}
use Rattle.vod_source.proofs.CallLemmas.{NotFailed, not_failed-found, not_failed-step}

abbrev Other : Refusal → Type 0
Other r = r ≢ refusals.StoreFailed

unless_other : {B : Type 0} (fault : Option Refusal) (r : Result B Refusal) → IfSome fault Other → NotFailed r → NotFailed (unless fault >> r)
unless_other None r h k = k
unless_other (Some e) r h k = h

if_other : (b : Bool) (r : Refusal) → Other r → IfSome (then_some b r) Other
if_other true r h = h
if_other false r h = tt

or_other : (a b : Option Refusal) → IfSome a Other → IfSome b Other → IfSome (option_or a b) Other
or_other None b h k = k
or_other (Some e) b h k = h

first_other : {X : Type 0} (f : X → Option Refusal) → ((x : X) → IfSome (f x) Other) → (xs : List X) → IfSome (slice_get (filter_map f xs) 0) Other
first_other f h [] = tt
first_other f h (x ∷ xs) = by_fault (f x) (h x) (first_other f h xs)
  where
    by_fault : (fault : Option Refusal) → IfSome fault Other → IfSome (slice_get (filter_map f xs) 0) Other → IfSome (slice_get (cons_option fault (filter_map f xs)) 0) Other
    by_fault None h k = k
    by_fault (Some e) h k = h

sample_other : (form : Form) (pieces : List CheckedPiece) (r : TrackRow) → IfSome (sample_fault form pieces r) Other
unfolding sample_fault
sample_other form pieces r =
    or_other _ _ (if_other (nat_lt (greatest_size form r.kind) r.row.sample.size) (refusals.SampleTooLong (name_at pieces r.row.file) r.row.number r.row.sample.size) (λ e. absurd cc))
    (or_other _ _ (if_other (nat_lt (size_at pieces r.row.file) (r.row.sample.at + r.row.sample.size)) (refusals.OutOfFile (name_at pieces r.row.file) r.row.number) (λ e. absurd cc))
    (if_other (is_backward form r) (refusals.BackwardOffset (name_at pieces r.row.file) r.row.number) (λ e. absurd cc)))

many_other : (found : Option ℕ) → IfSome (option_map (λ count. refusals.TooManySamples count) found) Other
many_other None = tt
many_other (Some n) = λ e. absurd cc

mixed_with_other : (first : CheckedPiece) (found : Option CheckedPiece) → IfSome (option_map (λ c. refusals.MixedCodecs c.piece.name (video_type first) (video_type c)) found) Other
mixed_with_other first None = tt
mixed_with_other first (Some c) = λ e. absurd cc

mixed_other : (form : Form) (pieces : List CheckedPiece) → IfSome (mixed_codecs form pieces) Other
unfolding mixed_codecs
mixed_other Ts [] = tt
mixed_other Ts (first ∷ pieces) = mixed_with_other first (find (λ c. if has_hevc first then not (has_hevc c) else has_hevc c) pieces)
mixed_other Fmp4 pieces = tt

front_other : (number : ℕ) (form : Form) (pieces : List CheckedPiece) (rows : TrackRows) → IfSome (front_fault number form pieces rows) Other
unfolding front_fault
front_other number form pieces rows =
    or_other _ _ (if_other (length rows.lead == 0) (refusals.EmptySegment number) (λ e. absurd cc))
    (or_other _ _ (mixed_other form pieces) (many_other (find (nat_lt 200000) (length rows.lead ∷ length rows.other ∷ []))))

pub rows_not_failed : (number : ℕ) (form : Form) (asked : Asked) (pieces : List CheckedPiece) (rows : TrackRows) → NotFailed (checked_rows number form asked pieces rows)
unfolding checked_rows
rows_not_failed number form asked pieces rows =
    let ordered = in_order form (segment_plan form asked pieces rows).rows in
    unless_other _ _ (front_other number form pieces rows)
    (unless_other _ _ (first_other (sample_fault form pieces) (sample_other form pieces) ordered)
    (unless_other _ _ (if_other (nat_lt 2130706432 (sizes_of ordered)) (refusals.SegmentTooLarge (sizes_of ordered)) (λ e. absurd cc)) tt))

pub iframe_not_failed : (number index : ℕ) (asked : Asked) (pieces : List CheckedPiece) (rows : TrackRows) → NotFailed (checked_iframe number index asked pieces rows)
unfolding checked_iframe
iframe_not_failed number index asked pieces rows =
    unless_other _ _ (front_other number Ts pieces rows)
    (not_failed-step _ _ (not_failed-found (nth_from_one (sync_rows rows.lead) index) (refusals.NoIframe index (length (sync_rows rows.lead))) (λ e. absurd cc))
    (λ row. unless_other _ _ (first_other (sample_fault Ts pieces) (sample_other Ts pieces) (in_order Ts (alone asked pieces row).rows)) tt))
