-- What a master playlist says of the sequences that it shows: the variants by themselves and the audio group.
use Rattle.std.proofs.Common.{◌≡◌, ℕ, ◌+◌, ◌&&◌, ◌||◌, Bool, true, false, not, List, [], ◌∷◌, ◌++◌, map, All, refl, sym, ap, ap₂, ◌∙◌, subst, arith, append-nil}
use Rattle.std.specs.Prelude.{filter, flat_map, is_none, if◌then◌else◌}
use Rattle.std.specs.List.{list_any}
use Rattle.std.proofs.lemmas.List.{map-append}
use Rattle.std.proofs.lemmas.List.Elements.{All-filter, All-map, filter-append}
use Rattle.clip_model.specs.Mapping.{Mapping}
use Rattle.list_model.specs.declared.Rendition.{Rendition}
use Rattle.list_model.specs.declared.Variant.{Variant}
use Rattle.list_model.specs.Iframes.{iframe_stream_lines}
use Rattle.list_model.specs.Playlist.{IsBandwidth, IsRendition, IsVariant, grouped, has_group, is_audio_only, master_playlist, ungrouped}
use Rattle.flat_lists.specs.declared.shown.Shown.{Shown}
use Rattle.flat_lists.specs.Shown.{IsShown, iframe_variant_by, in_group, out_of_group, playlist_by, rendition_by, streams_by, text_by, variant_by}

abbrev stands : Variant → Bool
stands v = not (is_audio_only v)

-- ---- whether there is a group

any-variant : (p : Variant → Bool) (xs : List Shown) → list_any (λ s. p (variant_by s)) xs ≡ list_any p (map variant_by xs)
any-variant p [] = refl
any-variant p (x ∷ xs) = ap (λ (b : Bool). p (variant_by x) || b) (any-variant p xs)

pub group-is : (xs : List Shown) (audio video : Bool) → audio ≡ list_any (λ s. is_none s.asked.video) xs → video ≡ list_any (λ s. not (is_none s.asked.video)) xs → (audio && video) ≡ has_group (map variant_by xs)
group-is xs audio video e f = ap₂ (λ (a b : Bool). a && b) (e ∙ any-variant is_audio_only xs) (f ∙ any-variant stands xs)

-- ---- the split

standing-grouped : (xs : List Shown) → flat_map (out_of_group true) xs ≡ filter stands (map variant_by xs)
standing-grouped [] = refl
standing-grouped (x ∷ xs) = ap (λ (vs : List Variant). filter stands (variant_by x ∷ []) ++ vs) (standing-grouped xs) ∙ sym (filter-append stands (variant_by x ∷ []) (map variant_by xs))

standing-all : (xs : List Shown) → flat_map (out_of_group false) xs ≡ map variant_by xs
standing-all [] = refl
standing-all (x ∷ xs) = ap (λ (vs : List Variant). variant_by x ∷ vs) (standing-all xs)

pub ungrouped-is : (group : Bool) (xs : List Shown) → group ≡ has_group (map variant_by xs) → flat_map (out_of_group group) xs ≡ ungrouped (map variant_by xs)
ungrouped-is group xs e = by_case group ∙ ap (λ (b : Bool). if b then filter stands (map variant_by xs) else map variant_by xs) e
  where
    by_case : (b : Bool) → flat_map (out_of_group b) xs ≡ (if b then filter stands (map variant_by xs) else map variant_by xs)
    by_case true = standing-grouped xs
    by_case false = standing-all xs

module _ (m : Mapping) where
  rendered : (xs : List Shown) → flat_map (in_group m true) xs ≡ map (rendition_by m) (filter is_audio_only (map variant_by xs))
  rendered [] = refl
  rendered (x ∷ xs) =
      ap (λ (rs : List Rendition). map (rendition_by m) (filter is_audio_only (variant_by x ∷ [])) ++ rs) (rendered xs)
      ∙ sym (map-append (rendition_by m) (filter is_audio_only (variant_by x ∷ [])) (filter is_audio_only (map variant_by xs)))
      ∙ ap (map (rendition_by m)) (sym (filter-append is_audio_only (variant_by x ∷ []) (map variant_by xs)))

  none_rendered : (xs : List Shown) → flat_map (in_group m false) xs ≡ []
  none_rendered [] = refl
  none_rendered (x ∷ xs) = none_rendered xs

  pub grouped-is : (group : Bool) (xs : List Shown) → group ≡ has_group (map variant_by xs) → flat_map (in_group m group) xs ≡ map (rendition_by m) (grouped (map variant_by xs))
  grouped-is group xs e = by_case group ∙ ap (λ (b : Bool). map (rendition_by m) (if b then filter is_audio_only (map variant_by xs) else [])) e
    where
      by_case : (b : Bool) → flat_map (in_group m b) xs ≡ map (rendition_by m) (if b then filter is_audio_only (map variant_by xs) else [])
      by_case true = rendered xs
      by_case false = none_rendered xs

  -- ---- the whole

  pub playlist-is : (text : List ℕ) (group : Bool) (xs : List Shown) (variants : List Variant) (audio : List Rendition) → group ≡ has_group (map variant_by xs)
      → variants ≡ flat_map (out_of_group group) xs → audio ≡ flat_map (in_group m group) xs → text ≡ master_playlist variants audio → text ≡ playlist_by m xs
  playlist-is text group xs variants audio e standing rendered is = is ∙ ap₂ master_playlist (standing ∙ ungrouped-is group xs e) (rendered ∙ grouped-is group xs e)

  pub text-alone : (text : List ℕ) (iframes : Bool) (xs : List Shown) → iframes ≡ false → text ≡ playlist_by m xs → text ≡ text_by m iframes xs
  unfolding text_by
  text-alone text iframes xs none is = is ∙ sym (append-nil (playlist_by m xs)) ∙ ap (λ (b : Bool). playlist_by m xs ++ streams_by b xs) (sym none)

  pub text-whole : (text first lines : List ℕ) (iframes : Bool) (xs : List Shown) → iframes ≡ true → first ≡ playlist_by m xs → lines ≡ iframe_stream_lines (map iframe_variant_by xs) → text ≡ first ++ lines → text ≡ text_by m iframes xs
  unfolding text_by
  text-whole text first lines iframes xs some is rest e = e ∙ ap₂ (λ (a b : List ℕ). a ++ b) is rest ∙ ap (λ (b : Bool). playlist_by m xs ++ streams_by b xs) (sym some)

-- ---- each can be written

module _ (count : ℕ) (xs : List Shown) (all : All (IsShown count) xs) where
  all_standing : (P : Variant → Type 0) (group : Bool) → ((s : Shown) → IsShown count s → P (variant_by s)) → All P (flat_map (out_of_group group) xs)
  all_standing P group each = by_case group
    where
      variants : All P (map variant_by xs)
      variants = All-map P variant_by xs (λ k d h. each _ (all k d h))

      by_case : (b : Bool) → All P (flat_map (out_of_group b) xs)
      by_case true = subst (All P) (sym (standing-grouped xs)) (All-filter stands P (map variant_by xs) variants)
      by_case false = subst (All P) (sym (standing-all xs)) variants

  sum_fits : (s : Shown) → IsShown count s → IsBandwidth (s.video_bandwidth + s.audio_bandwidth)
  sum_fits s h = let video = h.bandwidths.video in let audio = h.bandwidths.audio in omega arith

  pub variants_sound : (group : Bool) (variants : List Variant) → variants ≡ flat_map (out_of_group group) xs → All IsVariant variants
  variants_sound group variants e = subst (All IsVariant) (sym e) (all_standing IsVariant group (λ s h. h.variant))

  pub variants_fit : (group : Bool) (variants : List Variant) → variants ≡ flat_map (out_of_group group) xs → All (λ v. IsBandwidth v.bandwidth) variants
  variants_fit group variants e = subst (All (λ (v : Variant). IsBandwidth v.bandwidth)) (sym e) (all_standing (λ v. IsBandwidth v.bandwidth) group sum_fits)

  pub renditions_sound : (m : Mapping) (group : Bool) (renditions : List Rendition) → renditions ≡ flat_map (in_group m group) xs → All IsRendition renditions
  renditions_sound m group renditions e = subst (All IsRendition) (sym e) (by_case group)
    where
      each : (s : Shown) → IsShown count s → IsRendition (rendition_by m (variant_by s))
      each s h = record { sequence = h.variant.sequence; bandwidth = sum_fits s h }

      by_case : (b : Bool) → All IsRendition (flat_map (in_group m b) xs)
      by_case true =
          subst (All IsRendition) (sym (rendered m xs))
          (All-map IsRendition (rendition_by m) (filter is_audio_only (map variant_by xs))
          (All-filter is_audio_only (λ v. IsRendition (rendition_by m v)) (map variant_by xs)
          (All-map (λ v. IsRendition (rendition_by m v)) variant_by xs (λ k d h. each _ (all k d h)))))
      by_case false = subst (All IsRendition) (sym (none_rendered m xs)) (λ k d h. absurd (omega (arith, h)))

pub streams_sound : (xs : List Shown) → All (λ s. IsVariant (variant_by s)) xs → (variants : List Variant) → variants ≡ map iframe_variant_by xs → All IsVariant variants
streams_sound xs all variants e = subst (All IsVariant) (sym e) (All-map IsVariant iframe_variant_by xs (λ k d h. alone _ (all k d h)))
  where
    alone : (s : Shown) → IsVariant (variant_by s) → IsVariant (iframe_variant_by s)
    alone s h = record { sequence = h.sequence; asked = h.asked; size = h.size; video = h.video; aac = h.aac }
