-- Rows and their first faults.
use Rattle.std.proofs.Common.{◌≡◌, ℕ, ◌+◌, ◌<◌, ◌≤◌, true, List, [], ◌∷◌, ◌++◌, length, take, drop, map, filter_map, slice_get, Option, Some, None, refl, sym, ap, ap₂, ◌∙◌, add-one, drop-cons, get_or, append_assoc, pos, false, int_lt, subst}
use Rattle.std.specs.List.{cons_option}
use Rattle.std.specs.Option.{option_or}
use Rattle.std.proofs.lemmas.Bool.{lt-ltb, le-ltb}
use Rattle.std.proofs.lemmas.List.{drop-map, map-append, take-append-drop, take-map}
use Rattle.std.proofs.lemmas.List.Elements.{filter_map-append}
use Rattle.vod_types.specs.declared.segments.Form.{Form}
use Rattle.vod_types.specs.declared.segments.Form.TheVariants.{Ts, Fmp4}
use Rattle.vod_types.specs.declared.segments.Row.{Row}
use Rattle.vod_types.specs.declared.tracks.Kind.{Kind}
use Rattle.vod_types.specs.declared.tracks.Kind.TheVariants.{Video, Audio}
use Rattle.vod_types.specs.declared.refusal.Refusal.{Refusal}
use Rattle.vod_types.specs.declared.refusal.Refusal.TheVariants.{SampleTooLong, OutOfFile, BackwardOffset}
use Rattle.segment_model.specs.Rows.{decode_time_of, written_row}
use Rattle.media_model.specs.WritingOrder.{TrackRow, of_track}
use Rattle.origin_model.specs.Samples.{greatest_size, is_backward}
use Rattle.flat_samples.specs.declared.samples.TimedSample.{TimedSample}
use Rattle.flat_samples.specs.Rows.{timed_view}
use Rattle.flat_segments.specs.RowFaults.{name_in, size_in, row_fault, first_fault, kind_fault, ordered, ordered_fault, rows_before, shown, LiesInFile}
use Rattle.flat_segments.specs.Segments.{FileFacts}

-- ---- a row

module _ (form : Form) (facts : List FileFacts) (r : TrackRow) where
  -- too long
  pub row_fault-long : greatest_size form r.kind < r.row.sample.size → row_fault form facts r ≡ Some (SampleTooLong (name_in facts r.row.file) r.row.number r.row.sample.size)
  unfolding row_fault
  row_fault-long long = rw (lt-ltb (greatest_size form r.kind) r.row.sample.size long) refl

  -- past its file
  pub row_fault-out : r.row.sample.size ≤ greatest_size form r.kind → size_in facts r.row.file < r.row.sample.at + r.row.sample.size → row_fault form facts r ≡ Some (OutOfFile (name_in facts r.row.file) r.row.number)
  unfolding row_fault
  row_fault-out short out = rw (le-ltb (greatest_size form r.kind) r.row.sample.size short, lt-ltb (size_in facts r.row.file) (r.row.sample.at + r.row.sample.size) out) refl

  module _ (short : r.row.sample.size ≤ greatest_size form r.kind) (within : LiesInFile facts r.row) where
    -- shown before it is decoded
    pub row_fault-back : is_backward form r ≡ true → row_fault form facts r ≡ Some (BackwardOffset (name_in facts r.row.file) r.row.number)
    unfolding row_fault
    row_fault-back back = rw (le-ltb (greatest_size form r.kind) r.row.sample.size short, le-ltb (size_in facts r.row.file) (r.row.sample.at + r.row.sample.size) within, back) refl

    -- none of these
    pub row_fault-none : is_backward form r ≡ false → row_fault form facts r ≡ None
    unfolding row_fault
    row_fault-none forth = rw (le-ltb (greatest_size form r.kind) r.row.sample.size short, le-ltb (size_in facts r.row.file) (r.row.sample.at + r.row.sample.size) within, forth) refl

-- a stream can't show a sample before it is decoded
pub back_is : (form : Form) (s : TimedSample) (kind : Kind) → form ≡ Ts → int_lt s.presentation (decode_time_of form (timed_view s)) ≡ is_backward form (of_track kind (shown form s))
unfolding written_row
back_is form s kind is = subst (λ (form : Form). int_lt s.presentation (decode_time_of form (timed_view s)) ≡ is_backward form (of_track kind (shown form s))) (sym is) refl

-- ---- rows

-- the first of two lists
first_of_both : {A : Type 0} (xs ys : List A) → slice_get (xs ++ ys) 0 ≡ option_or (slice_get xs 0) (slice_get ys 0)
first_of_both [] ys = refl
first_of_both (x ∷ xs) ys = refl

pub first_of_cons : {A : Type 0} (o : Option A) (xs : List A) → slice_get (cons_option o xs) 0 ≡ option_or o (slice_get xs 0)
first_of_cons None xs = refl
first_of_cons (Some x) xs = refl

module _ (form : Form) (facts : List FileFacts) where
  first_fault-none : first_fault form facts [] ≡ None
  unfolding first_fault
  first_fault-none = refl

  first_fault-cons : (r : TrackRow) (rows : List TrackRow) → first_fault form facts (r ∷ rows) ≡ option_or (row_fault form facts r) (first_fault form facts rows)
  unfolding first_fault
  first_fault-cons r rows = first_of_cons (row_fault form facts r) (filter_map (row_fault form facts) rows)

  first_fault-append : (xs ys : List TrackRow) → first_fault form facts (xs ++ ys) ≡ option_or (first_fault form facts xs) (first_fault form facts ys)
  unfolding first_fault
  first_fault-append xs ys =
      ap (λ (faults : List Refusal). slice_get faults 0) (filter_map-append (row_fault form facts) xs ys)
      ∙ first_of_both (filter_map (row_fault form facts) xs) (filter_map (row_fault form facts) ys)

-- what a read past the end would give
abbrev pub no_sample : TimedSample
no_sample = record { file = 0; number = 0; offset = 0; size = 0; place = pos 0; presentation = pos 0; duration = 0; lead_in = 0; sync = false }

-- the samples that are left from the one at i on
module _ (form : Form) (samples : List TimedSample) (i : ℕ) (within : i < length samples) where
  abbrev pub here : TimedSample
  here = get_or samples i no_sample

  left_is : drop i samples ≡ here ∷ drop (i + 1) samples
  left_is = rw add-one (drop-cons samples i no_sample within)

  -- one more row behind those before it
  pub rows_more : (rows rows_now all : List Row) → rows ++ map (shown form) (drop i samples) ≡ all → rows_now ≡ rows ++ shown form here ∷ [] → rows_now ++ map (shown form) (drop (i + 1) samples) ≡ all
  rows_more rows rows_now all before now =
      ap (λ (l : List Row). l ++ map (shown form) (drop (i + 1) samples)) now
      ∙ append_assoc rows (shown form here ∷ []) (map (shown form) (drop (i + 1) samples))
      ∙ ap (λ (l : List TimedSample). rows ++ map (shown form) l) (sym left_is) ∙ before

  module _ (kind : Kind) (facts : List FileFacts) (due : Option Refusal) (before : kind_fault form kind facts (drop i samples) ≡ due) where
    first_left : kind_fault form kind facts (drop i samples) ≡ option_or (row_fault form facts (of_track kind (shown form here))) (kind_fault form kind facts (drop (i + 1) samples))
    first_left = ap (kind_fault form kind facts) left_is
        ∙ first_fault-cons form facts (of_track kind (shown form here)) (map (of_track kind) (map (shown form) (drop (i + 1) samples)))

    pub fault_found : (refusal : Refusal) → row_fault form facts (of_track kind (shown form here)) ≡ Some refusal → due ≡ Some refusal
    fault_found refusal found = sym before ∙ first_left ∙ ap (λ (o : Option Refusal). option_or o (kind_fault form kind facts (drop (i + 1) samples))) found

    pub fault_left : row_fault form facts (of_track kind (shown form here)) ≡ None → kind_fault form kind facts (drop (i + 1) samples) ≡ due
    fault_left sound = sym (first_left ∙ ap (λ (o : Option Refusal). option_or o (kind_fault form kind facts (drop (i + 1) samples))) sound) ∙ before

-- ---- rows of both kinds

-- the next rows in writing order: audio rows, and then a video row
next_rows : (form : Form) (v : Row) (video audio : List Row) → ordered form (v ∷ video) audio
    ≡ map (of_track Audio) (take (rows_before form v audio) audio) ++ of_track Video v ∷ ordered form video (drop (rows_before form v audio) audio)
next_rows Ts v video audio = refl
next_rows Fmp4 v video [] = refl
next_rows Fmp4 v video (a ∷ audio) = refl

-- the video sample at i comes behind so many of the audio samples that are left
module _ (form : Form) (facts : List FileFacts) (samples left : List TimedSample) (i : ℕ) (within : i < length samples) (count : ℕ)
    (due : Option Refusal) (before : ordered_fault form facts (drop i samples) left ≡ due) (counted : count ≡ rows_before form (shown form (get_or samples i no_sample)) (map (shown form) left)) where
  abbrev row : TrackRow
  row = of_track Video (shown form (get_or samples i no_sample))

  abbrev later : Option Refusal
  later = ordered_fault form facts (drop (i + 1) samples) (drop count left)

  in_turn : due ≡ option_or (kind_fault form Audio facts (take count left)) (option_or (row_fault form facts row) later)
  in_turn =
      let v = shown form (get_or samples i no_sample) in
      let audio = map (shown form) left in
      let video = map (shown form) (drop (i + 1) samples) in
      sym before
      ∙ ap (λ (l : List TimedSample). ordered_fault form facts l left) (left_is form samples i within)
      ∙ ap (first_fault form facts) (next_rows form v video audio)
      ∙ ap (λ (n : ℕ). first_fault form facts (map (of_track Audio) (take n audio) ++ row ∷ ordered form video (drop n audio))) (sym counted)
      ∙ ap₂ (λ (first rest : List Row). first_fault form facts (map (of_track Audio) first ++ row ∷ ordered form video rest)) (take-map (shown form) count left) (drop-map (shown form) count left)
      ∙ first_fault-append form facts (map (of_track Audio) (map (shown form) (take count left))) (row ∷ ordered form video (map (shown form) (drop count left)))
      ∙ ap (option_or (kind_fault form Audio facts (take count left))) (first_fault-cons form facts row (ordered form video (map (shown form) (drop count left))))

  pub audio_found : (refusal : Refusal) → kind_fault form Audio facts (take count left) ≡ Some refusal → due ≡ Some refusal
  audio_found refusal found = in_turn ∙ ap (λ (o : Option Refusal). option_or o (option_or (row_fault form facts row) later)) found

  module _ (sound : kind_fault form Audio facts (take count left) ≡ None) where
    then_row : due ≡ option_or (row_fault form facts row) later
    then_row = in_turn ∙ ap (λ (o : Option Refusal). option_or o (option_or (row_fault form facts row) later)) sound

    pub video_found : (refusal : Refusal) → row_fault form facts row ≡ Some refusal → due ≡ Some refusal
    video_found refusal found = then_row ∙ ap (λ (o : Option Refusal). option_or o later) found

    pub both_left : row_fault form facts row ≡ None → later ≡ due
    both_left video_sound = sym (then_row ∙ ap (λ (o : Option Refusal). option_or o later) video_sound)

-- audio rows of the samples in front, behind others
pub audio_more : (form : Form) (count : ℕ) (left : List TimedSample) (rows rows_now all : List Row) → rows ++ map (shown form) left ≡ all → rows_now ≡ rows ++ map (shown form) (take count left)
    → rows_now ++ map (shown form) (drop count left) ≡ all
audio_more form count left rows rows_now all before now =
    ap (λ (l : List Row). l ++ map (shown form) (drop count left)) now
    ∙ append_assoc rows (map (shown form) (take count left)) (map (shown form) (drop count left))
    ∙ ap (λ (l : List Row). rows ++ l) (sym (map-append (shown form) (take count left) (drop count left)) ∙ ap (map (shown form)) (take-append-drop count left))
    ∙ before

-- no sample has no fault
pub none_fault_of : (form : Form) (kind : Kind) (facts : List FileFacts) → kind_fault form kind facts [] ≡ None
none_fault_of form kind facts = first_fault-none form facts
