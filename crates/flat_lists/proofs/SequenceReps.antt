-- The representations of a sequence in the part of a number, from what is found.
use Rattle.std.proofs.Common.{◌≡◌, ℕ, zero, suc, ◌+◌, Bool, List, [], ◌∷◌, map, drop, Option, Some, None, Ok, refl, sym, ap, ◌∙◌, subst, slice_get}
use Rattle.std.specs.Prelude.{option_and_then, option_map}
use Rattle.std.specs.Option.{option_map_or}
use Rattle.vod_types.specs.Results.{each_in_turn}
use Rattle.vod_types.proofs.StepLemmas.{bind_ok}
use Rattle.clip_model.specs.declared.Part.{Part}
use Rattle.clip_model.specs.IsTimeline.{IsTimeline}
use Rattle.clip_model.specs.Timeline.{Timeline}
use Rattle.list_model.specs.declared.Rep.{Rep}
use Rattle.vod_source.specs.Stored.{Files}
use Rattle.origin_model.specs.Lists.{CheckedPart, representations_of, sequence_representations}
use Rattle.origin_model.specs.Requests.{Setup, Asking, grid_in_use, honours_edits}
use Rattle.origin_model.specs.Sources.{part_pieces}
use Rattle.flat_lists.specs.Described.{part_view, sequence_view}
use Rattle.flat_lists.specs.LookedParts.{part_found}
use Rattle.flat_lists.specs.LookedSequences.{FoundPart, SequenceFound, found_in, part_kept}
use Rattle.flat_lists.specs.PartTracks.{PartSeen}
use Rattle.flat_lists.specs.Written.{first_cell, reps_seen}
use Rattle.flat_lists.proofs.RepsFound.{reps_found}

slice_mapped : {A B : Type 0} (h : A → B) (xs : List A) (k : ℕ) → slice_get (map h xs) k ≡ option_map h (slice_get xs k)
slice_mapped h [] zero = refl
slice_mapped h [] (suc k) = refl
slice_mapped h (x ∷ xs) zero = refl
slice_mapped h (x ∷ xs) (suc k) = slice_mapped h xs k

module _ (files : Files) (edits : Bool) (t : Timeline) where
  -- a part that is found stands in the timeline
  abbrev pub IsAt : List Part → ℕ → FoundPart → Type 0
  IsAt xs k fp = (rest : List Part) × ((drop k xs ≡ fp.0 ∷ rest) × (part_found files edits (part_pieces t fp.0) ≡ Ok fp.1))

  pub found_at : (xs : List Part) (fs : List FoundPart) (k : ℕ) (fp : FoundPart) → each_in_turn (found_in files edits t) xs ≡ Ok fs → slice_get fs k ≡ Some fp → IsAt xs k fp
  found_at [] fs k fp e at =
      let none : [] ≡ fs = cc in
      let nowhere : slice_get [] k ≡ Some fp = ap (λ (fs : List FoundPart). slice_get fs k) none ∙ at in absurd cc
  found_at (x ∷ xs) fs zero fp e at =
      let f = bind_ok (found_in files edits t x) _ fs e in
      let rest = bind_ok (each_in_turn (found_in files edits t) xs) _ fs f.2 in
      let same : f.0 ∷ rest.0 ≡ fs = (let h = rest.2 in cc) in
      let pf = bind_ok (part_found files edits (part_pieces t x)) _ f.0 f.1 in
      let is : (x, pf.0) ≡ f.0 = (let h = pf.2 in cc) in
      let there : Some f.0 ≡ Some fp = ap (λ (fs : List FoundPart). slice_get fs 0) same ∙ at in
      let here : f.0 ≡ fp = cc in
      subst (IsAt (x ∷ xs) 0) (is ∙ here) (xs, (refl, pf.1))
  found_at (x ∷ xs) fs (suc k) fp e at =
      let f = bind_ok (found_in files edits t x) _ fs e in
      let rest = bind_ok (each_in_turn (found_in files edits t) xs) _ fs f.2 in
      let same : f.0 ∷ rest.0 ≡ fs = (let h = rest.2 in cc) in
      found_at xs rest.0 k fp rest.1 (ap (λ (fs : List FoundPart). slice_get fs (suc k)) same ∙ at)

module _ (o : Setup) (a : Asking) (k : ℕ) (f : SequenceFound) (h : IsTimeline f.timeline.pieces f.timeline.parts) (found : each_in_turn (found_in o.files (honours_edits o) f.timeline) f.timeline.parts ≡ Ok f.parts) where
  abbrev pub reps : Part × PartSeen → List Rep
  reps p = reps_seen a.mapping (grid_in_use o a) o.settings.align f.number (k + 1) (first_cell (grid_in_use o a) f.timeline.parts k) p

  pub sequence_reps : sequence_representations o a k (sequence_view f) ≡ option_map_or reps (slice_get (map (part_kept a.mapping f.number) f.parts) k) []
  sequence_reps =
      ap (λ (p : Option CheckedPart). option_map_or (representations_of o a (sequence_view f) (k + 1)) (option_and_then (λ p. p.first) p) []) (slice_mapped part_view f.parts k)
      ∙ by (slice_get f.parts k) refl
      ∙ sym (ap (λ (p : Option (Part × PartSeen)). option_map_or reps p []) (slice_mapped (part_kept a.mapping f.number) f.parts k))
    where
      some : (fp : FoundPart) → slice_get f.parts k ≡ Some fp → option_map_or (representations_of o a (sequence_view f) (k + 1)) fp.1.first [] ≡ reps (part_kept a.mapping f.number fp)
      some fp e = let at = found_at o.files (honours_edits o) f.timeline f.timeline.parts f.parts k fp found e in reps_found o a (sequence_view f) k fp.0 at.0 h at.1.0 fp.1 at.1.1

      by : (r : Option FoundPart) → slice_get f.parts k ≡ r
          → option_map_or (representations_of o a (sequence_view f) (k + 1)) (option_and_then (λ p. p.first) (option_map part_view r)) [] ≡ option_map_or reps (option_map (part_kept a.mapping f.number) r) []
      by None e = refl
      by (Some fp) e = some fp e
