-- The steps of a fragment together write it.
use Rattle.std.proofs.Common.{◌≡◌, ℕ, List, [], ◌∷◌, ◌++◌, length, take, drop, flat_map, refl, sym, ap, ◌∙◌, append_assoc, arith}
use Rattle.std.proofs.lemmas.List.{take-append-drop}
use Rattle.std.proofs.lemmas.List.Concat.{flat_map-append}
use Rattle.vod_types.specs.declared.segments.Row.{Row}
use Rattle.vod_types.specs.SegmentRows.{SegmentRows, Places, at_front, moved}
use Rattle.media_model.specs.Fragment.{fragment_front, fragment}
use Rattle.fmp4_writer.specs.declared.writing.Progress.TheVariants.{Front, Samples}
use Rattle.fmp4_writer.specs.Samples.{samples_left, next_kind}
use Rattle.fmp4_writer.specs.Progress.{rest_of}
use Rattle.fmp4_writer.proofs.SamplesLemmas.{samples_left-moved}

module _ (bytes : Row → List ℕ) (rows : SegmentRows) where
  -- the front part, and then the samples
  pub rest_of-front : (number left : ℕ) (places : Places) → rest_of bytes (Front number) rows places
      ≡ fragment_front number rows.video rows.audio ++ rest_of bytes (Samples left) rows at_front
  unfolding fragment
  rest_of-front number left places =
      append_assoc (fragment_front number rows.video rows.audio) (flat_map bytes rows.video) (flat_map bytes rows.audio)
      ∙ ap (λ (samples : List ℕ). fragment_front number rows.video rows.audio ++ samples) (sym (flat_map-append bytes rows.video rows.audio))

  -- one sample, and then the others
  pub rest_of-sample : (left others : ℕ) (places : Places) → rest_of bytes (Samples left) rows places
      ≡ flat_map bytes (take 1 (samples_left rows places)) ++ rest_of bytes (Samples others) rows (moved (next_kind rows places) places)
  rest_of-sample left others places =
      ap (flat_map bytes) (sym (take-append-drop 1 (samples_left rows places)))
      ∙ flat_map-append bytes (take 1 (samples_left rows places)) (drop 1 (samples_left rows places))
      ∙ ap (λ (samples : List Row). flat_map bytes (take 1 (samples_left rows places)) ++ flat_map bytes samples) (sym (samples_left-moved rows places))

  -- where no sample is left, nothing is
  pub rest_of-none : (left : ℕ) (places : Places) → length (samples_left rows places) ≡ 0 → rest_of bytes (Samples left) rows places ≡ []
  rest_of-none left places none = ap (flat_map bytes) (nothing (samples_left rows places) none)
    where
      nothing : (xs : List Row) → length xs ≡ 0 → xs ≡ []
      nothing [] is = refl
      nothing (x ∷ xs) is = absurd (omega (arith, is))
