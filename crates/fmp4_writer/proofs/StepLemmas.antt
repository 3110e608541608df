-- The steps of a fragment together write it, and read its samples.
use Rattle.std.proofs.Common.{◌≡◌, ℕ, ◌+◌, ◌-◌, ◌<◌, List, [], ◌∷◌, ◌++◌, length, take, drop, flat_map, Option, Some, None, IfSome, IsTrue, refl, sym, ap, ◌∙◌, append_assoc, append-nil, arith}
use Rattle.std.proofs.lemmas.List.{take-append-drop}
use Rattle.std.proofs.lemmas.List.Concat.{flat_map-append}
use Rattle.vod_types.specs.declared.segments.Row.{Row}
use Rattle.vod_types.specs.SegmentRows.{SegmentRows, Places, moved, sample_bytes}
use Rattle.vod_source.specs.declared.step.Step.{Step}
use Rattle.vod_source.specs.declared.step.Step.TheVariants.{Again, Whole, BadNal, StoreFailed, SinkFailed}
use Rattle.vod_source.specs.Stored.{Files, Read, bytes_of}
use Rattle.vod_source.specs.Told.{told_with, GrewByPrefix}
use Rattle.vod_source.proofs.ToldLemmas.{told_with-nil, told_with-more, GrewByPrefix-after, GrewByPrefix-front}
use Rattle.fmp4_writer.specs.declared.writing.Progress.{Progress}
use Rattle.fmp4_writer.specs.declared.writing.Progress.TheVariants.{Front, Samples, Ended}
use Rattle.fmp4_writer.specs.Samples.{samples_left, next_kind, row_reads}
use Rattle.fmp4_writer.specs.Progress.{is_under_way, AreLeft, StepGrows, next_bytes, next_reads, left_after, places_left, rest_of}
use Rattle.fmp4_writer.proofs.ProgressLemmas.{rest_of-front, rest_of-sample, rest_of-none}
use Rattle.fmp4_writer.proofs.SamplesLemmas.{samples_left-moved, length-samples_at, length-samples_moved}

-- a list that gained some of these and is to gain the others
pub record IsUnderWay {A : Type 0} (before now : Option (List A)) (all others : List A) : Type 0 where
  pub done : List A
  pub grew : now ≡ told_with before done
  pub all_is : all ≡ done ++ others

pub begun : {A : Type 0} (told : Option (List A)) (all : List A) → IsUnderWay told told all all
begun told all = record { done = []; grew = sym (told_with-nil told); all_is = refl }

-- what is left of it after some more
split : {A : Type 0} (all done left next others : List A) → all ≡ done ++ left → left ≡ next ++ others → all ≡ (done ++ next) ++ others
split all done left next others all_is e = all_is ∙ ap (λ xs. done ++ xs) e ∙ sym (append_assoc done next others)

-- what a step came to, where all was done before it and these are left: it is under way, or all was done, or a prefix was
abbrev pub After : {A : Type 0} → Step → Option (List A) → Option (List A) → List A → List A → Type 0
After Again before now all others = IsUnderWay before now all others
After Whole before now all others = IsUnderWay before now all others
After (BadNal file sample) before now all others = GrewByPrefix before now all
After StoreFailed before now all others = GrewByPrefix before now all
After SinkFailed before now all others = GrewByPrefix before now all

stepped : {A : Type 0} (step : Step) (before middle now : Option (List A)) (all left next others : List A) → IsUnderWay before middle all left
    → left ≡ next ++ others → StepGrows step middle now next → After step before now all others
stepped Again before middle now all left next others way e grew =
    record { done = way.done ++ next; grew = told_with-more before middle now way.done next way.grew grew; all_is = split all way.done left next others way.all_is e }
stepped Whole before middle now all left next others way e grew =
    record { done = way.done ++ next; grew = told_with-more before middle now way.done next way.grew grew; all_is = split all way.done left next others way.all_is e }
stepped (BadNal file sample) before middle now all left next others way e grew =
    GrewByPrefix-front (way.done ++ next) others all (split all way.done left next others way.all_is e) (GrewByPrefix-after way.done way.grew grew)
stepped StoreFailed before middle now all left next others way e grew =
    GrewByPrefix-front (way.done ++ next) others all (split all way.done left next others way.all_is e) (GrewByPrefix-after way.done way.grew grew)
stepped SinkFailed before middle now all left next others way e grew =
    GrewByPrefix-front (way.done ++ next) others all (split all way.done left next others way.all_is e) (GrewByPrefix-after way.done way.grew grew)

-- where nothing is left all was done
done_all : {A : Type 0} (before now : Option (List A)) (all others : List A) → IsUnderWay before now all others → others ≡ [] → now ≡ told_with before all
done_all before now all others way none =
    way.grew ∙ ap (told_with before) (sym (way.all_is ∙ ap (λ xs. way.done ++ xs) none ∙ append-nil way.done))

-- all reads, and those that are left
abbrev pub all_reads : SegmentRows → List Read
all_reads rows = flat_map (row_reads rows) (rows.video ++ rows.audio)

abbrev pub reads_left : Progress → SegmentRows → Places → List Read
reads_left (Front number) rows places = all_reads rows
reads_left (Samples left) rows places = flat_map (row_reads rows) (samples_left rows places)
reads_left Ended rows places = []

-- one step, where the bytes are told
pub written_step : (content : Option Files) (rows : SegmentRows) (places : Places) (step : Step) (progress : Progress) (left : ℕ) (before middle now : Option (List ℕ)) (all : Files → List ℕ)
    → IsTrue (is_under_way progress)
    → IfSome content (λ known. IsUnderWay before middle (all known) (rest_of (sample_bytes (bytes_of known) rows) progress rows places))
    → IfSome (next_bytes content progress rows places) (StepGrows step middle now)
    → IfSome content (λ known. After step before now (all known) (rest_of (sample_bytes (bytes_of known) rows) (Samples left) rows (places_left progress rows places)))
written_step None rows places step progress left before middle now all under way grew = tt
written_step (Some known) rows places step (Front number) left before middle now all under way grew =
    stepped step before middle now (all known) _ _ _ way (rest_of-front (sample_bytes (bytes_of known) rows) rows number left places) grew
written_step (Some known) rows places step (Samples count) left before middle now all under way grew =
    stepped step before middle now (all known) _ _ _ way (rest_of-sample (sample_bytes (bytes_of known) rows) rows count left places) grew
written_step (Some known) rows places step Ended left before middle now all under way grew = absurd cc

-- the reads of the first sample that is left, and those of the others
reads-sample : (rows : SegmentRows) (places : Places) → flat_map (row_reads rows) (samples_left rows places)
    ≡ flat_map (row_reads rows) (take 1 (samples_left rows places)) ++ flat_map (row_reads rows) (samples_left rows (moved (next_kind rows places) places))
reads-sample rows places =
    ap (flat_map (row_reads rows)) (sym (take-append-drop 1 (samples_left rows places)))
    ∙ flat_map-append (row_reads rows) (take 1 (samples_left rows places)) (drop 1 (samples_left rows places))
    ∙ ap (λ (samples : List Row). flat_map (row_reads rows) (take 1 (samples_left rows places)) ++ flat_map (row_reads rows) samples) (sym (samples_left-moved rows places))

-- and its reads
pub read_step : (rows : SegmentRows) (places : Places) (step : Step) (progress : Progress) (left : ℕ) (before middle now : Option (List Read))
    → IsTrue (is_under_way progress) → IsUnderWay before middle (all_reads rows) (reads_left progress rows places)
    → StepGrows step middle now (next_reads progress rows places)
    → After step before now (all_reads rows) (reads_left (Samples left) rows (places_left progress rows places))
read_step rows places step (Front number) left before middle now under way grew = stepped step before middle now (all_reads rows) _ [] _ way refl grew
read_step rows places step (Samples count) left before middle now under way grew =
    stepped step before middle now (all_reads rows) _ _ _ way (reads-sample rows places) grew
read_step rows places step Ended left before middle now under way grew = absurd cc

-- how many samples are left after a step
left_after-is : (progress : Progress) (rows rows' : SegmentRows) (places places' : Places) → IsTrue (is_under_way progress) → AreLeft progress rows places
    → rows' ≡ rows → places' ≡ places_left progress rows places → length (samples_left rows' places') ≡ left_after progress rows
left_after-is (Front number) rows rows' places places' under are same front = length-samples_at rows rows' places' same front
left_after-is (Samples left) rows rows' places places' under are same moves =
    length-samples_moved rows rows' places places' same moves ∙ ap (λ n. n - 1) are
left_after-is Ended rows rows' places places' under are same moves = absurd cc

none_reads : (rows : SegmentRows) (samples : List Row) → length samples ≡ 0 → flat_map (row_reads rows) samples ≡ []
none_reads rows [] none = refl
none_reads rows (x ∷ xs) none = absurd (omega (arith, none))

-- how many steps are left at least
abbrev pub steps_left : Progress → SegmentRows → ℕ
steps_left (Front number) rows = length rows.video + length rows.audio + 1
steps_left (Samples left) rows = left
steps_left Ended rows = 0

pub steps_left-falls : (progress : Progress) (rows : SegmentRows) → IsTrue (is_under_way progress) → 0 < left_after progress rows
    → left_after progress rows < steps_left progress rows
steps_left-falls (Front number) rows under more = omega arith
steps_left-falls (Samples left) rows under more = omega arith
steps_left-falls Ended rows under more = absurd cc

-- how the last step leaves the bytes, where they are told: all were written
written_all : (content : Option Files) (rows : SegmentRows) (places : Places) (before now : Option (List ℕ)) (all : Files → List ℕ)
    → IfSome content (λ known. IsUnderWay before now (all known) (rest_of (sample_bytes (bytes_of known) rows) (Samples 0) rows places))
    → length (samples_left rows places) ≡ 0 → IfSome content (λ known. now ≡ told_with before (all known))
written_all None rows places before now all way none = tt
written_all (Some known) rows places before now all way none =
    done_all before now (all known) _ way (rest_of-none (sample_bytes (bytes_of known) rows) rows 0 places none)

pub written_whole : (content : Option Files) (rows : SegmentRows) (places : Places) (progress : Progress) (before middle now : Option (List ℕ)) (all : Files → List ℕ)
    → IsTrue (is_under_way progress) → AreLeft progress rows places
    → IfSome content (λ known. IsUnderWay before middle (all known) (rest_of (sample_bytes (bytes_of known) rows) progress rows places))
    → IfSome (next_bytes content progress rows places) (StepGrows Whole middle now) → left_after progress rows ≡ 0
    → IfSome content (λ known. now ≡ told_with before (all known))
written_whole content rows places progress before middle now all under are way grew none =
    written_all content rows (places_left progress rows places) before now all
    (written_step content rows places Whole progress 0 before middle now all under way grew)
    (left_after-is progress rows rows places (places_left progress rows places) under are refl refl ∙ none)

-- and the reads
pub read_whole : (rows : SegmentRows) (places : Places) (progress : Progress) (before middle now : Option (List Read))
    → IsTrue (is_under_way progress) → AreLeft progress rows places → IsUnderWay before middle (all_reads rows) (reads_left progress rows places)
    → StepGrows Whole middle now (next_reads progress rows places) → left_after progress rows ≡ 0 → now ≡ told_with before (all_reads rows)
read_whole rows places progress before middle now under are way grew none =
    done_all before now (all_reads rows) _ (read_step rows places Whole progress 0 before middle now under way grew)
    (none_reads rows (samples_left rows (places_left progress rows places)) (left_after-is progress rows rows places (places_left progress rows places) under are refl refl ∙ none))
