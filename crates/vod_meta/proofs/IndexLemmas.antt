-- The checkpoints of the tracks of a kind, one by one.
use Rattle.std.proofs.Common.{◌≡◌, ℕ, zero, suc, ◌+◌, ◌-◌, ◌≤◌, false, eqb, List, [], ◌∷◌, ◌++◌, length, take, Option, Some, None, refl, sym, ap, ◌∙◌, arith, length-take}
use Rattle.std.specs.Prelude.{filter, option_map, option_and_then, slice_get}
use Rattle.std.proofs.lemmas.Bool.{ne_eqb}
use Rattle.std.proofs.lemmas.List.{length-map}
use Rattle.std.proofs.lemmas.Option.{slice_get-map}
use Rattle.vod_types.specs.declared.tracks.Kind.{Kind}
use Rattle.vod_types.specs.declared.tracks.TrackName.{TrackName}
use Rattle.vod_types.specs.Tracks.{same_kind}
use Rattle.mp4_model.specs.GoodTracks.{good_track}
use Rattle.mp4_model.specs.Tracks.{Track, named_track, tracks_of_kind}
use Rattle.vod_meta.specs.declared.indexes.TrackIndex.{TrackIndex}
use Rattle.vod_meta.specs.Kept.{index_of, indexes_of}
use Rattle.vod_meta.specs.Read.{named_index, shown_index}

-- one more element of a list, and none more
take-next : {X : Type 0} (xs : List X) (k : ℕ) (x : X) → slice_get xs k ≡ Some x → take (suc k) xs ≡ take k xs ++ x ∷ []
take-next [] k x e = absurd cc
take-next {X} (y ∷ xs) zero x e = let same : y ≡ x = cc e in ap (λ (z : X). z ∷ []) same
take-next {X} (y ∷ xs) (suc k) x e = ap (λ (zs : List X). y ∷ zs) (take-next xs k x e)

take-past : {X : Type 0} (xs : List X) (k : ℕ) → slice_get xs k ≡ None → take k xs ≡ xs
take-past [] zero e = refl
take-past [] (suc k) e = refl
take-past (y ∷ xs) zero e = absurd cc
take-past {X} (y ∷ xs) (suc k) e = ap (λ (zs : List X). y ∷ zs) (take-past xs k e)

take-most : {X : Type 0} (xs : List X) (k : ℕ) → length xs ≤ k → take k xs ≡ xs
take-most [] zero e = refl
take-most [] (suc k) e = refl
take-most (y ∷ xs) zero e = absurd (omega arith)
take-most {X} (y ∷ xs) (suc k) e = ap (λ (zs : List X). y ∷ zs) (take-most xs k (omega arith))

-- the track of a number
named-by : (tracks : List Track) (track : TrackName) (number : ℕ) → track.number ≡ number + 1 → named_track tracks track ≡ slice_get (tracks_of_kind track.kind tracks) number
unfolding named_track
named-by tracks track number e =
    let some : eqb track.number 0 ≡ false = ne_eqb track.number 0 (λ is. let h = sym e ∙ is in absurd (omega (arith, h))) in
    let same : track.number - 1 ≡ number = omega (arith, e) in
    rw (some, same) refl

module _ (kind : Kind) (tracks : List Track) where
  abbrev index_at : Track → Option TrackIndex
  index_at t = index_of (good_track t.kind t.mdia)

  abbrev name_of : ℕ → TrackName
  name_of number = record { kind = kind; number = number }

  -- the track behind so many
  named-next : (before : ℕ) → named_track tracks (name_of (before + 1)) ≡ slice_get (tracks_of_kind kind tracks) before
  named-next before = named-by tracks (name_of (before + 1)) before refl

  next-index : (before : ℕ) → named_index tracks (name_of (before + 1)) ≡ slice_get (indexes_of kind tracks) before
  next-index before = ap (option_map index_at) (named-next before) ∙ sym (slice_get-map index_at (tracks_of_kind kind tracks) before)

  pub one_more : (before : ℕ) (index : Option TrackIndex) → Some index ≡ named_index tracks (name_of (before + 1))
      → take (before + 1) (indexes_of kind tracks) ≡ take before (indexes_of kind tracks) ++ index ∷ []
  one_more before index e =
      let next : before + 1 ≡ suc before = omega arith in
      ap (λ (n : ℕ). take n (indexes_of kind tracks)) next ∙ take-next (indexes_of kind tracks) before index (sym (next-index before) ∙ sym e)

  pub none_more : (before : ℕ) → None ≡ named_index tracks (name_of (before + 1)) → take before (indexes_of kind tracks) ≡ indexes_of kind tracks
  none_more before e = take-past (indexes_of kind tracks) before (sym (next-index before) ∙ sym e)

  at_most : length (tracks_of_kind kind tracks) ≤ 99
  unfolding tracks_of_kind
  at_most = omega (arith, length-take 99 (filter (λ (t : Track). same_kind t.kind kind) tracks))

  pub all_of_them : take 99 (indexes_of kind tracks) ≡ indexes_of kind tracks
  all_of_them = take-most (indexes_of kind tracks) 99 (omega (arith, at_most, length-map (tracks_of_kind kind tracks) index_at))

-- ---- one of those that are kept

module _ (tracks : List Track) (track : TrackName) where
  abbrev shown_at : Track → Option TrackIndex
  shown_at t = index_of (good_track t.kind t.mdia)

  pub no_number : track.number ≡ 0 → shown_index tracks track ≡ None
  unfolding named_track
  no_number e = rw e refl

  joined : (o : Option Track) → option_and_then (λ (i : Option TrackIndex). i) (option_map shown_at o) ≡ option_and_then shown_at o
  joined None = refl
  joined (Some t) = refl

  -- the kept one with the number
  pub kept_at : (number : ℕ) (o : Option (Option TrackIndex)) → track.number ≡ number + 1 → slice_get (indexes_of track.kind tracks) number ≡ o
      → shown_index tracks track ≡ option_and_then (λ (i : Option TrackIndex). i) o
  kept_at number o e at =
      sym (joined (named_track tracks track))
      ∙ ap (λ (t : Option Track). option_and_then (λ (i : Option TrackIndex). i) (option_map shown_at t)) (named-by tracks track number e)
      ∙ ap (option_and_then (λ (i : Option TrackIndex). i)) (sym (slice_get-map shown_at (tracks_of_kind track.kind tracks) number) ∙ at)
