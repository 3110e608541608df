-- The rows of a part of a sequence, where a track is asked alone.
use Rattle.std.proofs.Common.{◌≡◌, ℕ, zero, suc, ◌+◌, ◌<◌, Bool, true, false, List, [], ◌∷◌, ◌++◌, map, take, drop, length, true≢false, ℤ, Option, Some, None, Ok, refl, sym, ap, ap₂, ◌∙◌, subst, arith}
use Rattle.std.specs.Prelude.{filter, ◌==◌, sum_by, is_some, unwrap_or}
use Rattle.std.specs.List.{list_all}
use Rattle.std.proofs.lemmas.Bool.{and_parts, eq-eqb, eqb-true}
use Rattle.std.proofs.lemmas.List.{drop-map, map-append}
use Rattle.std.proofs.lemmas.List.Elements.{filter-append}
use Rattle.std.proofs.lemmas.List.Sums.{sum_by-cons}
use Rattle.vod_types.specs.declared.segments.SegmentRow.{SegmentRow}
use Rattle.vod_types.specs.declared.tracks.Asked.{Asked}
use Rattle.vod_types.specs.declared.tracks.Kind.{Kind}
use Rattle.vod_types.specs.declared.tracks.Kind.TheVariants.{Video, Audio}
use Rattle.vod_types.specs.Results.{each_in_turn}
use Rattle.vod_types.specs.Tracks.{lead_of}
use Rattle.clip_model.specs.declared.Part.{Part}
use Rattle.clip_model.specs.IsTimeline.{IsTimeline}
use Rattle.clip_model.specs.Timeline.{Timeline}
use Rattle.segment_model.specs.Cut.{listed_from, listed_groups, listed_part, groups, segment_rows}
use Rattle.segment_model.specs.Grid.{SegmentGrid, PartGrid, cells, length_of, milliseconds, part_grid}
use Rattle.segment_model.specs.Listing.{ListedSegment, first_marked}
use Rattle.segment_model.specs.Timeline.{SourcePart, SourcePiece, TrackRows, lead_end, timeline}
use Rattle.list_model.specs.Names.{first_of_kind}
use Rattle.origin_model.specs.Lists as lists
use Rattle.origin_model.specs.Lists.{CheckedSequence}
use Rattle.origin_model.specs.Loaded.{CheckedPiece, checked}
use Rattle.origin_model.specs.Requests.{Setup, Asking, grid_in_use, honours_edits}
use Rattle.origin_model.specs.Sources.{is_declared, part_pieces, source_of, source_part}
use Rattle.origin_model.proofs.PieceOrder.{no_length}
use Rattle.flat_lists.specs.PartTracks.{rows_alone}
use Rattle.flat_lists.specs.Written.{declared_cells, first_cell, rows_seen}
use Rattle.flat_lists.specs.declared.part_tracks.TrackFacts.{TrackFacts}
use Rattle.flat_lists.proofs.AloneLemmas.{number_of, sources_alone}
use Rattle.flat_lists.proofs.CellsFound.{length_is}

-- ---- the rows of one part among those of all

abbrev pub keep : ℕ → List ListedSegment → List SegmentRow
keep n ls = filter (λ (row : SegmentRow). row.part == n) (map (λ (l : ListedSegment). l.0) ls)

keep-append : (n : ℕ) (xs ys : List ListedSegment) → keep n (xs ++ ys) ≡ keep n xs ++ keep n ys
keep-append n xs ys =
    ap (filter (λ (row : SegmentRow). row.part == n)) (map-append (λ (l : ListedSegment). l.0) xs ys)
    ∙ filter-append (λ (row : SegmentRow). row.part == n) (map (λ (l : ListedSegment). l.0) xs) (map (λ (l : ListedSegment). l.0) ys)

abbrev pub OfPart : ℕ → List ListedSegment → Type 0
OfPart n [] = Unit {0}
OfPart n (l ∷ ls) = (l.0.part ≡ n) × OfPart n ls

rows_of_part : (leads : Kind) (part : ℕ) (end : ℤ) (gs : List (ℕ × TrackRows)) → OfPart part (segment_rows leads part end gs)
rows_of_part leads part end [] = tt
rows_of_part leads part end (p ∷ later) = (refl, rows_of_part leads part end later)

marked_of_part : (n : ℕ) (ls : List ListedSegment) → OfPart n ls → OfPart n (first_marked ls)
marked_of_part n [] h = tt
marked_of_part n (l ∷ ls) h = (h.0, h.1)

kept_all : (n : ℕ) (ls : List ListedSegment) → OfPart n ls → keep n ls ≡ map (λ (l : ListedSegment). l.0) ls
kept_all n [] h = refl
kept_all n (l ∷ ls) h = rw (eq-eqb l.0.part n h.0) (ap (λ (rows : List SegmentRow). l.0 ∷ rows) (kept_all n ls h.1))

kept_none : (n p : ℕ) (ls : List ListedSegment) → (p ≡ n → ⊥) → OfPart p ls → keep n ls ≡ []
kept_none n p [] other h = refl
kept_none n p (l ∷ ls) other h = by (l.0.part == n) refl (kept_none n p ls other h.1)
  where
    by : (b : Bool) → (l.0.part == n) ≡ b → keep n ls ≡ [] → keep n (l ∷ ls) ≡ []
    by true e later = absurd (other (sym h.0 ∙ eqb-true l.0.part n e))
    by false e later = rw e later

module _ (leads : Kind) (g : SegmentGrid) (align : Bool) where
  abbrev own : ℕ → ℕ → SourcePart → List ListedSegment
  own n m sp = listed_part leads n m (part_grid g align sp) (timeline sp.pieces)

  own_of : (n m : ℕ) (sp : SourcePart) → OfPart n (own n m sp)
  own_of n m sp =
      marked_of_part n (segment_rows leads n (lead_end sp.start (timeline sp.pieces).lead) (listed_groups m (groups (part_grid g align sp) (timeline sp.pieces))))
      (rows_of_part leads n (lead_end sp.start (timeline sp.pieces).lead) (listed_groups m (groups (part_grid g align sp) (timeline sp.pieces))))

  later_none : (p num n : ℕ) (sps : List SourcePart) → n < p → keep n (listed_from leads g align p num sps) ≡ []
  later_none p num n [] lt = refl
  later_none p num n (sp ∷ sps) lt =
      keep-append n (own p num sp) (listed_from leads g align (suc p) (num + (part_grid g align sp).cells) sps)
      ∙ ap₂ (λ (xs ys : List SegmentRow). xs ++ ys) (kept_none n p (own p num sp) (λ same. omega (arith, same, lt)) (own_of p num sp))
      (later_none (suc p) (num + (part_grid g align sp).cells) n sps (omega (arith, lt)))

  -- the cells of the parts before a place
  abbrev pub before : List SourcePart → ℕ → ℕ
  before [] k = 0
  before (sp ∷ sps) zero = 0
  before (sp ∷ sps) (suc k) = (part_grid g align sp).cells + before sps k

  append_none : (xs : List SegmentRow) → xs ++ [] ≡ xs
  append_none [] = refl
  append_none (x ∷ xs) = ap (λ (ys : List SegmentRow). x ∷ ys) (append_none xs)

  pub at_part : (k p num n m : ℕ) (sps : List SourcePart) (sp : SourcePart) (rest : List SourcePart) → drop k sps ≡ sp ∷ rest → n ≡ p + k → m ≡ num + before sps k
      → keep n (listed_from leads g align p num sps) ≡ map (λ (l : ListedSegment). l.0) (own n m sp)
  at_part zero p num n m [] sp rest at n_is m_is = absurd cc
  at_part (suc k) p num n m [] sp rest at n_is m_is = absurd cc
  at_part zero p num n m (x ∷ xs) sp rest at n_is m_is =
      let same : x ≡ sp = cc in
      let np : p ≡ n = omega (arith, n_is) in
      let nm : num ≡ m = omega (arith, m_is) in
      keep-append n (own p num x) (listed_from leads g align (suc p) (num + (part_grid g align x).cells) xs)
      ∙ ap₂ (λ (xs ys : List SegmentRow). xs ++ ys) (kept_all n (own p num x) (subst (λ (q : ℕ). OfPart q (own p num x)) np (own_of p num x)))
      (later_none (suc p) (num + (part_grid g align x).cells) n xs (omega (arith, n_is)))
      ∙ append_none (map (λ (l : ListedSegment). l.0) (own p num x))
      ∙ ap₂ (λ (q r : ℕ). map (λ (l : ListedSegment). l.0) (own q r x)) np nm
      ∙ ap (λ (x : SourcePart). map (λ (l : ListedSegment). l.0) (own n m x)) same
  at_part (suc k) p num n m (x ∷ xs) sp rest at n_is m_is =
      keep-append n (own p num x) (listed_from leads g align (suc p) (num + (part_grid g align x).cells) xs)
      ∙ ap₂ (λ (xs ys : List SegmentRow). xs ++ ys) (kept_none n p (own p num x) (λ same. omega (arith, same, n_is)) (own_of p num x))
      (at_part k (suc p) (num + (part_grid g align x).cells) n m xs sp rest at (omega (arith, n_is)) (omega (arith, m_is)))

-- ---- the rows of a track in a part that is found

lead_is : (kind : Kind) → lead_of (first_of_kind kind) ≡ kind
lead_is Video = refl
lead_is Audio = refl

either : (o : Option ℕ) → is_some o ≡ true → (x y : ℕ) → unwrap_or o x ≡ unwrap_or o y
either None h x y = absurd (true≢false (sym h))
either (Some n) h x y = refl

one_place : (parts : List Part) (k : ℕ) (part : Part) (rest : List Part) → length parts ≡ 1 → drop k parts ≡ part ∷ rest → k ≡ 0
one_place [] zero part rest one at = refl
one_place [] (suc k) part rest one at = absurd cc
one_place (p ∷ q ∷ ps) k part rest one at = absurd (omega (arith, one))
one_place (p ∷ []) zero part rest one at = refl
one_place (p ∷ []) (suc zero) part rest one at = absurd cc
one_place (p ∷ []) (suc (suc k)) part rest one at = absurd cc

module _ (o : Setup) (a : Asking) where
  abbrev edits : Bool
  edits = honours_edits o

  abbrev g : SegmentGrid
  g = grid_in_use o a

  abbrev source : Kind → Timeline → Part → SourcePart
  source kind t part = source_part o.files edits (first_of_kind kind) t part

  declared_before : (kind : Kind) (t : Timeline) (parts : List Part) (k : ℕ) → list_all (λ (part : Part). is_some part.length_ms) parts ≡ true
      → before kind g o.settings.align (map (source kind t) parts) k ≡ sum_by (declared_cells g) (take k parts)
  declared_before kind t [] zero h = refl
  declared_before kind t [] (suc k) h = refl
  declared_before kind t (p ∷ ps) zero h = refl
  declared_before kind t (p ∷ ps) (suc k) h =
      let both = and_parts (is_some p.length_ms) (list_all (λ (q : Part). is_some q.length_ms) ps) h in
      ap₂ (λ (i j : ℕ). i + j) (ap (cells g) (length_is o a t p kind ∙ either p.length_ms both.0 _ 0)) (declared_before kind t ps k both.1)
      ∙ sym (sum_by-cons (declared_cells g) p (take k ps))

  none_before : (kind : Kind) (t : Timeline) (parts : List Part) → before kind g o.settings.align (map (source kind t) parts) 0 ≡ sum_by (declared_cells g) (take 0 parts)
  none_before kind t [] = refl
  none_before kind t (p ∷ ps) = refl

  cells_before : (kind : Kind) (t : Timeline) (k : ℕ) (part : Part) (rest : List Part) → IsTimeline t.pieces t.parts → drop k t.parts ≡ part ∷ rest
      → before kind g o.settings.align (map (source kind t) t.parts) k ≡ sum_by (declared_cells g) (take k t.parts)
  cells_before kind t k part rest h at = by (is_declared t) refl
    where
      by : (b : Bool) → is_declared t ≡ b → before kind g o.settings.align (map (source kind t) t.parts) k ≡ sum_by (declared_cells g) (take k t.parts)
      by true e = declared_before kind t t.parts k e
      by false e =
          let none = one_place t.parts k part rest (no_length t.parts t.parts h.open_lengths e) at in
          subst (λ (k : ℕ). before kind g o.settings.align (map (source kind t) t.parts) k ≡ sum_by (declared_cells g) (take k t.parts)) (sym none) (none_before kind t t.parts)

  abbrev rows_over : Kind → ℕ → ℕ → Part → List SourcePiece → List SegmentRow
  rows_over kind n m part ps =
      let cut : PartGrid = record { grid = g; align = o.settings.align; start = part.start; cells = cells g (unwrap_or part.length_ms (milliseconds (lead_end part.start (timeline ps).lead))) } in
      map (λ (l : ListedSegment). l.0) (listed_part kind n m cut (timeline ps))

  own_is : (kind : Kind) (t : Timeline) (part : Part) (n m : ℕ)
      → map (λ (l : ListedSegment). l.0) (own kind g o.settings.align n m (source kind t part)) ≡ rows_over kind n m part (map (source_of o.files edits (first_of_kind kind)) (part_pieces t part))
  unfolding source_part length_of
  own_is kind t part n m = refl

  pub rows_found : (s : CheckedSequence) (k : ℕ) (part : Part) (rest : List Part) (kind : Kind) (asked : Asked) (cs : List CheckedPiece) (facts : TrackFacts)
      → IsTimeline s.timeline.pieces s.timeline.parts → drop k s.timeline.parts ≡ part ∷ rest → number_of kind asked ≡ Some 1 → each_in_turn (checked o.files edits asked) (part_pieces s.timeline part) ≡ Ok cs
      → lists.part_rows o a s (k + 1) kind ≡ rows_seen g o.settings.align kind (k + 1) (first_cell g s.timeline.parts k) part (facts, rows_alone kind cs)
  rows_found s k part rest kind asked cs facts h at one each =
      ap (λ (lead : Kind). keep (k + 1) (listed_from lead g o.settings.align 1 1 (map (source kind s.timeline) s.timeline.parts))) (lead_is kind)
      ∙ at_part kind g o.settings.align k 1 1 (k + 1) (first_cell g s.timeline.parts k) (map (source kind s.timeline) s.timeline.parts) (source kind s.timeline part) (map (source kind s.timeline) rest)
      (drop-map (source kind s.timeline) k s.timeline.parts ∙ ap (map (source kind s.timeline)) at) (omega arith) (ap (λ (n : ℕ). 1 + n) (sym (cells_before kind s.timeline k part rest h at)))
      ∙ own_is kind s.timeline part (k + 1) (first_cell g s.timeline.parts k)
      ∙ ap (rows_over kind (k + 1) (first_cell g s.timeline.parts k) part) (sources_alone o.files edits kind asked one (part_pieces s.timeline part) cs each)
