-- The part of a clip that is asked for, by what is kept of the clip.
use Rattle.std.proofs.Common.{◌≡◌, ℕ, ◌+◌, ◌<◌, ◌≤◌, ◌^◌, true, false, Bool, cond, List, [], ◌∷◌, ◌++◌, length, flat_map, slice_range, All, Option, Some, None, IfSome, Result, Ok, Err, refl, sym, ap, ◌∙◌, subst, inl, inr, arith}
use Rattle.std.specs.Prelude.{◌⊎◌, ◌≢◌, filter_map, nat_lt, slice_get}
use Rattle.std.specs.Bool.{then_some}
use Rattle.std.specs.List.{cons_option}
use Rattle.std.specs.Option.{option_or}
use Rattle.std.proofs.lemmas.Bool.{ltb-false}
use Rattle.std.proofs.lemmas.List.Elements.{All-cons, All-nil}
use Rattle.vod_types.specs.declared.paths.ByteRange.{ByteRange}
use Rattle.vod_types.specs.declared.refusal.Refusal.{Refusal}
use Rattle.vod_types.specs.declared.refusal.Refusal.TheVariants.{NoMemory, OutOfFile, SampleTooLong, StoreFailed}
use Rattle.vod_types.specs.Results.{◌>>=◌, ◌>>◌, unless}
use Rattle.media_model.specs.Clip.{PlacedRow, clip, clip_front, clip_size, meets, placed_rows}
use Rattle.media_model.proofs.ClipSizes.{HasReferences}
use Rattle.vod_source.specs.Calls.{Came, LogsReads}
use Rattle.vod_source.specs.Stored.{Files, InFile, Read, bytes_of}
use Rattle.vod_source.proofs.CallLemmas.{logs_unmade}
use Rattle.origin_model.specs.Clips.{asked_part}
use Rattle.flat_clip.specs.declared.part.ClipPart.{ClipPart}
use Rattle.flat_clip.specs.Answers.{facts_part, held_part, held_reads, part_view}
use Rattle.flat_clip.specs.Parts.{LiesIf, bytes_in, first_fault, met_fault, row_fault, row_part, row_reads}
use Rattle.flat_clip.specs.Rows.{ClipFacts, IsSmallClip}
use Rattle.flat_clip.proofs.Slices.{part-bytes}

-- ---- which part it is

module _ (range : Option ByteRange) (f : ClipFacts) (n : ℕ) (size : n ≡ clip_size f.video f.audio) where
  pub part-unasked : (e : Refusal) → asked_part range n ≡ Err e → facts_part range f ≡ Err e
  unfolding facts_part
  part-unasked e h = rw (ap (asked_part range) (sym size) ∙ h) refl

  module _ (part : ℕ × ℕ) (asked : asked_part range n ≡ Ok part) (rows : List PlacedRow) (are : rows ≡ placed_rows f.video f.audio) where
    pub part-faulty : (e : Refusal) → first_fault f.name part f.size rows ≡ Some e → facts_part range f ≡ Err e
    unfolding facts_part
    part-faulty e h = rw (ap (asked_part range) (sym size) ∙ asked, ap (first_fault f.name part f.size) (sym are) ∙ h) refl

    pub part-sound : first_fault f.name part f.size rows ≡ None → facts_part range f ≡ Ok part
    unfolding facts_part
    part-sound h = rw (ap (asked_part range) (sym size) ∙ asked, ap (first_fault f.name part f.size) (sym are) ∙ h) refl

-- ---- its samples lie in the file

module _ (name : List ℕ) (size : ℕ) (content : Option Files) (small : size < 2 ^ 64) (sized : IfSome content (λ known. length (bytes_of known name) ≡ size)) (part : ℕ × ℕ) where
  within-row : (r : PlacedRow) → row_fault name size r ≡ None → r.row.row.sample.at + r.row.row.sample.size ≤ size
  unfolding row_fault
  within-row r none = by (nat_lt 16777216 r.row.row.sample.size) (nat_lt size (r.row.row.sample.at + r.row.row.sample.size)) refl none
    where
      by : (b c : Bool) → nat_lt size (r.row.row.sample.at + r.row.row.sample.size) ≡ c
          → option_or (then_some b (SampleTooLong name r.row.row.number r.row.row.sample.size)) (then_some c (OutOfFile name r.row.row.number)) ≡ None
          → r.row.row.sample.at + r.row.row.sample.size ≤ size
      by true c e h = absurd cc
      by false true e h = absurd cc
      by false false e h = ltb-false size (r.row.row.sample.at + r.row.row.sample.size) e

  in_file : (told : Option Files) (at n : ℕ) → at + n ≤ size → IfSome told (λ known. length (bytes_of known name) ≡ size) → InFile told name at n
  in_file None at n h sized = tt
  in_file (Some known) at n h sized = omega (arith, h, sized)

  lies : (r : PlacedRow) → met_fault name part size r ≡ None → LiesIf name part content r
  lies r none = record {
    low = λ met. (let h = fits met in omega (arith, h, small));
    within = λ met. in_file content r.row.row.sample.at r.row.row.sample.size (fits met) sized;
  }
    where
      fits : meets part r ≡ true → r.row.row.sample.at + r.row.row.sample.size ≤ size
      fits met = within-row r (sym (ap (λ (b : Bool). cond b (row_fault name size r) None) met) ∙ none)

  first-none : (o : Option Refusal) (xs : List Refusal) → slice_get (cons_option o xs) 0 ≡ None → (o ≡ None) × (slice_get xs 0 ≡ None)
  first-none None xs h = (refl, h)
  first-none (Some e) xs h = absurd cc

  pub all-lie : (rows : List PlacedRow) → first_fault name part size rows ≡ None → All (LiesIf name part content) rows
  all-lie [] none = All-nil (LiesIf name part content)
  all-lie (r ∷ rows) none =
      let both = first-none (met_fault name part size r) (filter_map (met_fault name part size) rows) none in
      All-cons (LiesIf name part content) r rows (lies r both.0) (all-lie rows both.1)

-- a part that was found has no fault
pub found-sound : (range : Option ByteRange) (f : ClipFacts) (part : ℕ × ℕ) → facts_part range f ≡ Ok part → first_fault f.name part f.size (placed_rows f.video f.audio) ≡ None
unfolding facts_part
found-sound range f part h = by (asked_part range (clip_size f.video f.audio)) h
  where
    after : (asked : ℕ × ℕ) (o : Option Refusal) → first_fault f.name asked f.size (placed_rows f.video f.audio) ≡ o → (unless o >> Ok asked) ≡ Ok part → first_fault f.name part f.size (placed_rows f.video f.audio) ≡ None
    after asked None e h = let same : asked ≡ part = cc in subst (λ (p : ℕ × ℕ). first_fault f.name p f.size (placed_rows f.video f.audio) ≡ None) same e
    after asked (Some d) e h = absurd cc

    by : (r : Result (ℕ × ℕ) Refusal) → (r >>= λ part. unless (first_fault f.name part f.size (placed_rows f.video f.audio)) >> Ok part) ≡ Ok part
        → first_fault f.name part f.size (placed_rows f.video f.audio) ≡ None
    by (Ok asked) h = after asked (first_fault f.name asked f.size (placed_rows f.video f.audio)) refl h
    by (Err d) h = absurd cc

-- ---- its entries have room

pub references : (f : ClipFacts) → IsSmallClip f → HasReferences f.video f.audio
references f s = record { video_entry = s.video.room; audio_entry = s.audio.room }

-- ---- the call

module _ (known : Files) (range : Option ByteRange) (f : ClipFacts) (log log_now : Option (List Read)) where
  -- it was refused before samples were read
  pub part-refused : (e : Refusal) → log_now ≡ log → (e ≢ NoMemory → facts_part range f ≡ Err e) → Came {X = ClipPart} part_view (Err e) (held_part known range f) (held_reads range f) log log_now
  unfolding held_part held_reads
  part-refused e same refused = record {
    answered = λ known_memory known_store. rw (refused known_memory) refl;
    logged = logs_unmade e (held_reads range f) log log_now same (λ known_memory known_store. rw (refused known_memory) refl);
  }

  module _ (part : ℕ × ℕ) (found : facts_part range f ≡ Ok part) where
    reads-are : held_reads range f ≡ flat_map (row_reads f.name part) (placed_rows f.video f.audio)
    unfolding held_reads
    reads-are = rw found refl

    -- the store failed or memory ran out while they were read
    pub part-cut : (e : Refusal) → LogsReads {X = Unit {0}} (Err e) (flat_map (row_reads f.name part) (placed_rows f.video f.audio)) log log_now → (e ≡ NoMemory) ⊎ (e ≡ StoreFailed)
        → Came {X = ClipPart} part_view (Err e) (held_part known range f) (held_reads range f) log log_now
    part-cut e logged only = record {
      answered = λ known_memory known_store. absurd (neither only known_memory known_store);
      logged = subst (λ (reads : List Read). LogsReads {X = ClipPart} (Err e) reads log log_now) (sym reads-are) logged;
    }
      where
        neither : (e ≡ NoMemory) ⊎ (e ≡ StoreFailed) → e ≢ NoMemory → e ≢ StoreFailed → ⊥
        neither (inl m) no_memory no_store = no_memory m
        neither (inr s) no_memory no_store = no_store s

    -- all were read
    pub part-read : (p : ClipPart) (front : List ℕ) → IsSmallClip f → All (LiesIf f.name part (Some known)) (placed_rows f.video f.audio)
        → front ≡ slice_range (clip_front f.video f.audio) part.0 (part.1 + 1) → p.bytes.items ≡ front ++ flat_map (row_part f.name part known) (placed_rows f.video f.audio)
        → p.first ≡ part.0 → p.last ≡ part.1 → p.length ≡ clip_size f.video f.audio → LogsReads {X = Unit {0}} (Ok tt) (flat_map (row_reads f.name part) (placed_rows f.video f.audio)) log log_now
        → Came part_view (Ok p) (held_part known range f) (held_reads range f) log log_now
    unfolding held_part
    part-read p front small lie is bytes first last length logged =
        let all : slice_range (clip f.video f.audio (bytes_in known f.name)) part.0 (part.1 + 1) ≡ p.bytes.items =
        part-bytes part.0 part.1 known f.name f.video f.audio (references f small) lie ∙ ap (λ (l : List ℕ). l ++ flat_map (row_part f.name part known) (placed_rows f.video f.audio)) (sym is) ∙ sym bytes in
        record {
          answered = rw (found, all, first, last, length) refl;
          logged = subst (λ (reads : List Read). LogsReads {X = ClipPart} (Ok p) reads log log_now) (sym reads-are) logged;
        }
