-- Rows and their first faults.
use Rattle.std.proofs.Common.{◌≡◌, ◌+◌, ◌<◌, ◌≤◌, true, false, List, [], ◌∷◌, filter_map, slice_get, Option, Some, None, refl, ap, ◌∙◌}
use Rattle.std.specs.List.{cons_option}
use Rattle.std.specs.Option.{option_or}
use Rattle.std.proofs.lemmas.Bool.{lt-ltb, le-ltb}
use Rattle.vod_types.specs.declared.segments.Form.{Form}
use Rattle.vod_types.specs.declared.refusal.Refusal.{Refusal}
use Rattle.vod_types.specs.declared.refusal.Refusal.TheVariants.{SampleTooLong, OutOfFile, BackwardOffset}
use Rattle.media_model.specs.WritingOrder.{TrackRow}
use Rattle.origin_model.specs.Samples.{greatest_size, is_backward}
use Rattle.vod_plan.specs.RowFaults.{FileFacts, name_in, size_in, row_fault, first_fault, LiesInFile}

-- ---- a row

module _ (form : Form) (facts : List FileFacts) (r : TrackRow) where
  -- too long
  pub row_fault-long : greatest_size form r.kind < r.row.sample.size → row_fault form facts r ≡ Some (SampleTooLong (name_in facts r.row.file) r.row.number r.row.sample.size)
  unfolding row_fault
  row_fault-long long = rw (lt-ltb (greatest_size form r.kind) r.row.sample.size long) refl

  -- past its file
  pub row_fault-out : r.row.sample.size ≤ greatest_size form r.kind → size_in facts r.row.file < r.row.sample.at + r.row.sample.size → row_fault form facts r ≡ Some (OutOfFile (name_in facts r.row.file) r.row.number)
  unfolding row_fault
  row_fault-out short out = rw (le-ltb (greatest_size form r.kind) r.row.sample.size short, lt-ltb (size_in facts r.row.file) (r.row.sample.at + r.row.sample.size) out) refl

  module _ (short : r.row.sample.size ≤ greatest_size form r.kind) (within : LiesInFile facts r.row) where
    -- shown before it is decoded
    pub row_fault-back : is_backward form r ≡ true → row_fault form facts r ≡ Some (BackwardOffset (name_in facts r.row.file) r.row.number)
    unfolding row_fault
    row_fault-back back = rw (le-ltb (greatest_size form r.kind) r.row.sample.size short, le-ltb (size_in facts r.row.file) (r.row.sample.at + r.row.sample.size) within, back) refl

    -- none of these
    pub row_fault-none : is_backward form r ≡ false → row_fault form facts r ≡ None
    unfolding row_fault
    row_fault-none forth = rw (le-ltb (greatest_size form r.kind) r.row.sample.size short, le-ltb (size_in facts r.row.file) (r.row.sample.at + r.row.sample.size) within, forth) refl

-- ---- rows

pub first_of_cons : {A : Type 0} (o : Option A) (xs : List A) → slice_get (cons_option o xs) 0 ≡ option_or o (slice_get xs 0)
first_of_cons None xs = refl
first_of_cons (Some x) xs = refl

module _ (form : Form) (facts : List FileFacts) where
  pub first_fault-none : first_fault form facts [] ≡ None
  unfolding first_fault
  first_fault-none = refl

  first_fault-cons : (r : TrackRow) (rows : List TrackRow) → first_fault form facts (r ∷ rows) ≡ option_or (row_fault form facts r) (first_fault form facts rows)
  unfolding first_fault
  first_fault-cons r rows = first_of_cons (row_fault form facts r) (filter_map (row_fault form facts) rows)

  -- the first row has a fault, or the others have its first fault
  pub fault_found : (r : TrackRow) (rows : List TrackRow) (refusal : Refusal) → row_fault form facts r ≡ Some refusal → first_fault form facts (r ∷ rows) ≡ Some refusal
  fault_found r rows refusal found = first_fault-cons r rows ∙ ap (λ (o : Option Refusal). option_or o (first_fault form facts rows)) found

  pub fault_left : (r : TrackRow) (rows : List TrackRow) → row_fault form facts r ≡ None → first_fault form facts (r ∷ rows) ≡ first_fault form facts rows
  fault_left r rows sound = first_fault-cons r rows ∙ ap (λ (o : Option Refusal). option_or o (first_fault form facts rows)) sound
