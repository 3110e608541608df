-- The names of an HLS packaging are those of its sequences, one after another.
use Rattle.std.proofs.Common.{◌≡◌, ℕ, zero, suc, ◌+◌, List, [], ◌∷◌, ◌++◌, length, map, Option, Some, None, Result, Ok, Err, refl, sym, ap, ap₂, ◌∙◌, subst, append_assoc, slice_get, arith}
use Rattle.std.specs.Prelude.{Bool, IfOk, OnOk, flat_map}
use Rattle.std.specs.List.{range_with_len}
use Rattle.std.specs.Result.{result_unwrap_or}
use Rattle.std.proofs.lemmas.List.{length-append}
use Rattle.vod_types.specs.declared.paths.Leaf.{Leaf}
use Rattle.vod_types.specs.declared.paths.Leaf.TheVariants.{Index, Master}
use Rattle.vod_types.specs.declared.refusal.Refusal.{Refusal}
use Rattle.vod_types.specs.declared.segments.SegmentRow.{SegmentRow}
use Rattle.vod_types.specs.declared.segments.Listed.{Listed}
use Rattle.vod_types.specs.declared.tracks.Asked.{Asked}
use Rattle.vod_types.specs.Lists.{nth_from_one}
use Rattle.vod_types.specs.Results.{◌>>=◌, each_in_turn}
use Rattle.vod_types.proofs.StepLemmas.{bind_ok}
use Rattle.list_model.specs.declared.Variant.{Variant}
use Rattle.list_model.specs.Pack.{hls_leaves, playlist_leaves}
use Rattle.segment_model.specs.Listing.{listed_view}
use Rattle.origin_model.specs.Lists.{listed_segments, sequence_numbers, shown_sequences, variants}
use Rattle.origin_model.specs.Packaging.{packed_leaves, rows_or_none}
use Rattle.origin_model.specs.Requests.{Setup, Asking}
use Rattle.flat_lists.specs.declared.shown.Shown.{Shown}
use Rattle.flat_lists.specs.Shown.{all_shown, shown_due, variant_by}
use Rattle.flat_lists.proofs.MasterLemmas.{variants-shown}
use Rattle.flat_lists.proofs.ShownLemmas.{shown-numbered}
use Rattle.mp4_flat.specs.Packed.{sequence_leaves, shown_leaves, shown_or_none}
use Rattle.mp4_flat.proofs.Leaves.{listed-rows}
use Rattle.mp4_flat.proofs.NameLemmas.{both_put, on_mapped}

-- sequences are numbered one after another
abbrev AreNumbered : ℕ → List Shown → Type 0
AreNumbered n [] = Unit {0}
AreNumbered n (s ∷ ss) = (s.sequence ≡ n) × AreNumbered (n + 1) ss

at_front : {X : Type 0} (before after : List X) (x : X) → slice_get (before ++ x ∷ after) (length before) ≡ Some x
at_front [] after x = refl
at_front (b ∷ before) after x = at_front before after x

module _ (o : Setup) (a : Asking) where
  numbered : (n count : ℕ) (ss : List Shown) → each_in_turn (shown_due o a) (range_with_len n count) ≡ Ok ss → AreNumbered n ss
  numbered n zero ss e = let none : [] ≡ ss = cc in subst (AreNumbered n) none tt
  numbered n (suc count) ss e =
      let first = bind_ok (shown_due o a n) _ ss e in
      let later = bind_ok (each_in_turn (shown_due o a) (range_with_len (n + 1) count)) _ ss first.2 in
      let same : first.0 ∷ later.0 ≡ ss = (let h = later.2 in cc) in
      subst (AreNumbered n) same (shown-numbered o a n first.0 first.1, numbered (n + 1) count later.0 later.1)

  shown_numbered : AreNumbered 1 (shown_or_none o a)
  shown_numbered = by (all_shown o a) refl
    where
      by : (r : Result (List Shown) Refusal) → all_shown o a ≡ r → AreNumbered 1 (result_unwrap_or r [])
      by (Ok ss) e = numbered 1 (length a.mapping.sequences) ss e
      by (Err r) e = tt

  -- ---- by their variants

  abbrev rows_in : List Variant → ℕ → List SegmentRow
  rows_in found sequence = rows_or_none (elim (nth_from_one found sequence) [ Some v ↦ listed_segments o a sequence v.asked | None ↦ Ok [] ])

  abbrev leaves_in : List Variant → Variant → List Leaf
  leaves_in found v = Index v.sequence v.asked ∷ playlist_leaves o.settings.hls_fmp4 v.sequence v.asked (rows_in found v.sequence)

  rows_at : (found : List Variant) (v : Variant) (i : ℕ) → v.sequence ≡ i + 1 → slice_get found i ≡ Some v → rows_in found v.sequence ≡ rows_or_none (listed_segments o a v.sequence v.asked)
  rows_at found v i e at =
      ap (λ (found : Option Variant). rows_or_none (elim found [ Some w ↦ listed_segments o a v.sequence w.asked | None ↦ Ok [] ]))
      (ap (nth_from_one found) (e ∙ next) ∙ at)
    where
      next : i + 1 ≡ suc i
      next = omega arith

  each_looked : (found before : List Variant) (ss : List Shown) → found ≡ before ++ map variant_by ss → AreNumbered (length before + 1) ss
      → flat_map (leaves_in found) (map variant_by ss) ≡ shown_leaves o a ss
  each_looked found before [] e n = refl
  each_looked found before (s ∷ ss) e n =
      let v = variant_by s in
      let at : slice_get found (length before) ≡ Some v = ap (λ (vs : List Variant). slice_get vs (length before)) e ∙ at_front before (map variant_by ss) v in
      let longer : length (before ++ v ∷ []) ≡ length before + 1 = length-append before (v ∷ []) in
      ap₂ (λ (rows : List SegmentRow) (later : List Leaf). (Index s.sequence s.asked ∷ playlist_leaves o.settings.hls_fmp4 s.sequence s.asked rows) ++ later)
      (rows_at found v (length before) n.0 at)
      (each_looked found (before ++ v ∷ []) ss (e ∙ sym (append_assoc before (v ∷ []) (map variant_by ss)))
      (subst (λ (k : ℕ). AreNumbered (k + 1) ss) (sym longer) n.1))

  hls_by : (found : List Variant) → found ≡ variants o a (result_unwrap_or (shown_sequences o a) []) → packed_leaves o a Master ≡ Master ∷ flat_map (leaves_in found) found
  unfolding packed_leaves hls_leaves
  hls_by found e = ap (λ (found : List Variant). Master ∷ flat_map (leaves_in found) found) (sym e)

  pub hls_named : packed_leaves o a Master ≡ Master ∷ shown_leaves o a (shown_or_none o a)
  hls_named =
      hls_by (map variant_by (shown_or_none o a)) (sym (variants-shown o a))
      ∙ ap (λ (leaves : List Leaf). Master ∷ leaves) (each_looked (map variant_by (shown_or_none o a)) [] (shown_or_none o a) refl shown_numbered)

  -- ---- names that are put

  -- the rows of listed segments are those of the definition
  rows_shown : (sequence : ℕ) (asked : Asked) (ls : List Listed) → listed_segments o a sequence asked ≡ Ok (map listed_view ls) → map (λ l. l.row) ls ≡ rows_or_none (listed_segments o a sequence asked)
  rows_shown sequence asked ls e = listed-rows ls ∙ sym (ap rows_or_none e)

  pub rows_found : {V : Type 0} (view : V → List SegmentRow) (sequence : ℕ) (asked : Asked) (r : Result V Refusal) (ls given : List Listed) → given ≡ ls → listed_segments o a sequence asked ≡ Ok (map listed_view ls)
      → IfOk r (λ v. view v ≡ map (λ l. l.row) given) → IfOk r (λ v. view v ≡ rows_or_none (listed_segments o a sequence asked))
  rows_found view sequence asked (Ok v) ls given same e is = is ∙ ap (λ (ls : List Listed). map (λ l. l.row) ls) same ∙ rows_shown sequence asked ls e
  rows_found view sequence asked (Err r) ls given same e is = tt

  pub no_rows_found : (sequence : ℕ) (asked : Asked) (r : Refusal) (none : List SegmentRow) → none ≡ [] → listed_segments o a sequence asked ≡ Err r → none ≡ rows_or_none (listed_segments o a sequence asked)
  no_rows_found sequence asked r none is refused = is ∙ sym (ap rows_or_none refused)

  pub sequence_put : {A E : Type 0} (sequence : ℕ) (asked : Asked) (r : Result A E) (rows given : List SegmentRow) (fmp4 : Bool) (old middle now : List Leaf) → given ≡ rows → rows ≡ rows_or_none (listed_segments o a sequence asked)
      → fmp4 ≡ o.settings.hls_fmp4 → middle ≡ old ++ Index sequence asked ∷ [] → OnOk r (now ≡ middle ++ playlist_leaves fmp4 sequence asked given) → OnOk r (now ≡ old ++ sequence_leaves o a sequence asked)
  sequence_put sequence asked r rows given fmp4 old middle now same found setting index put =
      on_mapped r (λ is. both_put old middle now (Index sequence asked ∷ []) (playlist_leaves fmp4 sequence asked given) index is
      ∙ ap₂ (λ (fmp4 : Bool) (rows : List SegmentRow). old ++ (Index sequence asked ∷ playlist_leaves fmp4 sequence asked rows)) setting (same ∙ found)) put

  pub hls_put : (shown given : List Shown) (start middle now : List Leaf) → given ≡ shown → shown ≡ shown_or_none o a → start ≡ [] → middle ≡ start ++ Master ∷ [] → now ≡ middle ++ shown_leaves o a given
      → now ≡ packed_leaves o a Master
  hls_put shown given start middle now same found none master put =
      put ∙ ap₂ (λ (front : List Leaf) (shown : List Shown). front ++ shown_leaves o a shown) (master ∙ ap (λ (l : List Leaf). l ++ Master ∷ []) none) (same ∙ found) ∙ sym hls_named
