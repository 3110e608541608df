-- The I-frames of parts, put behind others one after another.
use Rattle.std.proofs.Common.{◌≡◌, ℕ, suc, ◌+◌, ◌*◌, ◌<◌, ◌≤◌, min, Bool, true, false, List, [], ◌∷◌, ◌++◌, length, map, take, drop, get_or, slice_range, pos, refl, sym, ap, ap₂, ◌∙◌, subst, arith, append-nil, append_assoc, drop-cons, length-append}
use Rattle.std.specs.List.{flat_map, range_with_len}
use Rattle.std.proofs.lemmas.List.{drop_all, take_all}
use Rattle.vod_types.specs.declared.tracks.Asked.{Asked}
use Rattle.vod_types.specs.declared.tracks.Kind.{Kind}
use Rattle.vod_types.specs.Tracks.{lead_of}
use Rattle.clip_model.specs.declared.Part.{Part}
use Rattle.clip_model.specs.IsTimeline.{Follow}
use Rattle.segment_model.specs.Grid.{SegmentGrid, PartGrid, part_grid}
use Rattle.segment_model.specs.Iframes.{iframes_from, lone_iframes, part_iframes, segment_iframes}
use Rattle.segment_model.specs.Lone.{first_row, lone_cell}
use Rattle.segment_model.specs.Rows.{TimedRow}
use Rattle.segment_model.specs.Timeline.{SourcePiece, TrackRows, lead_end, timeline}
use Rattle.segment_model.proofs.IframeLemmas.{lone_iframes-is}
use Rattle.segment_model.proofs.OneCut.{one_cut}
use Rattle.seq_cells.proofs.CellPlaces.{follow-order}
use Rattle.origin_model.specs.Loaded.{CheckedPiece}
use Rattle.origin_model.specs.Sources.{source_piece}
use Rattle.seq_cells.specs.Cells.{part_grid_of}
use Rattle.vod_plan.specs.declared.iframe_marks.Mark.{Mark}
use Rattle.vod_plan.specs.declared.iframe_marks.Marks.{Marks}
use Rattle.vod_plan.specs.declared.listed_part.ListedPart.{ListedPart}
use Rattle.vod_plan.specs.declared.spans.PlanPiece.{PlanPiece}
use Rattle.vod_plan.specs.IframeMarks.{mark_at, marks_from, part_marks, AreAdded, AreAll}
use Rattle.vod_plan.specs.ListingCells.{part_rows}
use Rattle.vod_plan.specs.ListingParts.{counts_over, part_over, ArePiecesOfParts}
use Rattle.vod_plan.specs.Segments.{has_rows}
use Rattle.vod_plan.proofs.IframeCells.{take_front}
use Rattle.vod_plan.proofs.JoinLemmas.{range-nil}
use Rattle.vod_plan.proofs.ListingRests.{count_at, drop_at, grid_with, no_part, own_count, own_rows, own_some}

-- ---- without a lead row

module _ (number : ℕ) (g : PartGrid) (rows : TrackRows) (none : rows.lead ≡ []) where
  cell_none : (k : ℕ) → (lone_cell g rows k).lead ≡ []
  unfolding lone_cell
  cell_none k = ap (λ (lead : List TimedRow). slice_range lead (first_row g rows.lead k) (first_row g rows.lead (suc k))) none ∙ range-nil (first_row g rows.lead k) (first_row g rows.lead (suc k))

  cells_none : (ks : List ℕ) → flat_map (λ k. segment_iframes (number + k, lone_cell g rows k)) ks ≡ []
  cells_none [] = refl
  cells_none (k ∷ ks) =
      ap (λ (lead : List TimedRow). segment_iframes (number + k, record { lead = lead; other = [] }) ++ flat_map (λ k. segment_iframes (number + k, lone_cell g rows k)) ks) (cell_none k)
      ∙ cells_none ks

  pub iframes_none : lone_iframes number g rows ≡ []
  iframes_none = cells_none (range_with_len 0 g.cells)

pub added_none : (ms : List Mark) (m : Marks) → ms ≡ [] → length m.kept.items ≡ min m.count 100000 → AreAdded ms m m
added_none ms m none full =
    subst (λ (ms : List Mark). AreAdded ms m m) (sym none)
    (record { count = omega arith; kept = sym (take_all 100000 m.kept.items (omega (arith, full))) ∙ ap (take 100000) (sym (append-nil m.kept.items)) })

-- ---- what is left

-- All that is due was put, but for these that are left.
pub record AreRest (m : Marks) (left due : List Mark) : Type 0 where
  pub count : m.count + length left ≡ length due
  pub kept : take 100000 (m.kept.items ++ left) ≡ take 100000 due

pub rest_begin : (m : Marks) (due : List Mark) → m.count ≡ 0 → m.kept.items ≡ [] → AreRest m due due
rest_begin m due none empty = record { count = omega (arith, none); kept = ap (λ (xs : List Mark). take 100000 (xs ++ due)) empty }

pub rest_more : (m now : Marks) (ms left due : List Mark) → AreRest m (ms ++ left) due → AreAdded ms m now → AreRest now left due
rest_more m now ms left due is added =
    let many = length-append ms left in
    record {
      count = omega (arith, is.count, added.count, many);
      kept = ap (λ (xs : List Mark). take 100000 (xs ++ left)) added.kept ∙ take_front 100000 (m.kept.items ++ ms) left ∙ ap (take 100000) (append_assoc m.kept.items ms left) ∙ is.kept;
    }

pub rest_all : (m : Marks) (left due : List Mark) → left ≡ [] → AreRest m left due → length m.kept.items ≡ min m.count 100000 → AreAll due m
rest_all m left due none is full =
    let empty : length left ≡ 0 = ap (λ (ms : List Mark). length ms) none in
    record {
      count = omega (arith, is.count, empty);
      kept = sym (take_all 100000 m.kept.items (omega (arith, full))) ∙ ap (take 100000) (sym (append-nil m.kept.items) ∙ ap (λ (ms : List Mark). m.kept.items ++ ms) (sym none)) ∙ is.kept;
    }

-- ---- from part to part

module _ (grid : SegmentGrid) (align : Bool) (asked : Asked) (found : List PlanPiece) (cs : List CheckedPiece) (h : ArePiecesOfParts asked found cs) where
  abbrev sources : List SourcePiece
  sources = map source_piece cs

  abbrev pub left_marks : ℕ → ℕ → List Part → List Mark
  left_marks place number parts = marks_from (place + 1) (iframes_from grid align number (map (part_over sources) parts))

  abbrev pub own_marks : ListedPart → List Mark
  own_marks p = map (mark_at p.part (lead_end p.cells.start (part_rows p).lead)) (lone_iframes p.number (part_grid_of p.cells) (part_rows p))

  marks_here : (p : ListedPart) (part : Part) (count place number : ℕ) → p.leads ≡ lead_of asked → p.pieces.now ≡ slice_range found part.first (part.first + part.count) → p.part ≡ place → p.number ≡ number
      → part_grid_of p.cells ≡ grid_with grid align part count → count ≡ (part_grid grid align (part_over sources part)).cells
      → own_marks p ≡ part_marks (place, part_iframes number (part_grid grid align (part_over sources part)) (timeline (part_over sources part).pieces))
  marks_here p part count place number leads pieces place_is number_is grid_is count_is =
      let order = h.order part in
      let all = timeline (part_over sources part).pieces in
      let own = part_grid grid align (part_over sources part) in
      let rows = own_rows asked found cs h part p leads pieces in
      let g : part_grid_of p.cells ≡ own = grid_is ∙ ap (grid_with grid align part) count_is in
      ap₂ (λ (n : ℕ) (g : PartGrid). map (mark_at n (lead_end g.start (part_rows p).lead)) (lone_iframes p.number g (part_rows p))) place_is g
      ∙ ap₂ (λ (n : ℕ) (rows : TrackRows). map (mark_at place (lead_end own.start rows.lead)) (lone_iframes n own rows)) number_is rows
      ∙ ap (map (mark_at place (lead_end own.start all.lead))) (sym (lone_iframes-is own all number (λ k below. one_cut own (pos 0) all order.lead k below)))

  pub marks_next : (parts : List Part) (counts : List ℕ) (place number : ℕ) (p : ListedPart) → place < length parts → counts ≡ counts_over grid align cs parts
      → let part = get_or parts place no_part in let count = get_or counts place 0 in
      p.leads ≡ lead_of asked → p.pieces.now ≡ slice_range found part.first (part.first + part.count) → p.part ≡ place + 1 → p.number ≡ number → part_grid_of p.cells ≡ grid_with grid align part count
      → left_marks place number (drop place parts) ≡ own_marks p ++ left_marks (place + 1) (number + count) (drop (place + 1) parts)
  marks_next parts counts place number p lt counts_is leads pieces place_is number_is grid_is =
      let part = get_or parts place no_part in
      let count = get_or counts place 0 in
      let count_is = count_at grid align asked found cs h parts counts place lt counts_is in
      let here = part_marks (place + 1, part_iframes number (part_grid grid align (part_over sources part)) (timeline (part_over sources part).pieces)) in
      ap (left_marks place number) (drop_at grid align asked found cs h parts place no_part lt)
      ∙ ap (λ (n : ℕ). here ++ left_marks (place + 1) (number + n) (drop (place + 1) parts)) (sym count_is)
      ∙ ap (λ (ms : List Mark). ms ++ left_marks (place + 1) (number + count) (drop (place + 1) parts)) (sym (marks_here p part count (place + 1) number leads pieces place_is number_is grid_is count_is))

  pub marks_last : (parts : List Part) (place number : ℕ) → length parts ≤ place → left_marks place number (drop place parts) ≡ []
  marks_last parts place number past = ap (left_marks place number) (drop_all place parts past)

-- ---- looks

-- So many looks were taken for the parts before, which have so many pieces, cells and I-frames.
pub record AreMarkLooks (left : List Part) (end cells marks steps steps_now : ℕ) : Type 0 where
  pub at : ℕ
  pub follow : Follow at left end
  pub looks : steps_now ≤ steps + 1152 * at + 256 * cells + 256 * marks

module _ (asked : Asked) (found : List PlanPiece) (cs : List CheckedPiece) (h : ArePiecesOfParts asked found cs) where
  part_looks : (part : Part) (kind : Kind) (ps : List PlanPiece) (s s₁ n m m₁ : ℕ) → kind ≡ lead_of asked → ps ≡ slice_range found part.first (part.first + part.count)
      → s₁ + 256 * m ≤ s + 384 * length ps + 768 + 256 * n + 256 * m₁ → (has_rows kind ps ≡ false → s₁ ≤ s) → (top : ℕ) → m ≤ top → m₁ ≤ top → s₁ + 256 * m ≤ s + 1152 * part.count + 256 * n + 256 * top
  part_looks part kind ps s s₁ n m m₁ leads pieces most none top low high = go (has_rows kind ps) refl
    where
      go : (b : Bool) → has_rows kind ps ≡ b → s₁ + 256 * m ≤ s + 1152 * part.count + 256 * n + 256 * top
      go false is = let less = none is in omega (arith, less, low)
      go true is =
          let least = own_some asked found cs h part kind ps leads pieces is in
          let count = own_count asked found cs h part ps pieces in
          omega (arith, most, least, count, high)

  pub looks_next : (parts : List Part) (place end cells count m m₁ top : ℕ) (kind : Kind) (ps : List PlanPiece) (s₀ s s₁ : ℕ) → place < length parts → AreMarkLooks (drop place parts) end cells m s₀ s
      → let part = get_or parts place no_part in
      kind ≡ lead_of asked → ps ≡ slice_range found part.first (part.first + part.count) → s₁ + 256 * m ≤ s + 384 * length ps + 768 + 256 * count + 256 * m₁ → (has_rows kind ps ≡ false → s₁ ≤ s) → m ≤ top → m₁ ≤ top
      → AreMarkLooks (drop (place + 1) parts) end (cells + count) top s₀ s₁
  looks_next parts place end cells count m m₁ top kind ps s₀ s s₁ lt was leads pieces most none low high =
      let part = get_or parts place no_part in
      let split : drop place parts ≡ part ∷ drop (place + 1) parts = drop-cons parts place no_part lt ∙ ap (λ n. part ∷ drop n parts) (let one : suc place ≡ place + 1 = omega arith in one) in
      let follow = subst (λ (ps : List Part). Follow was.at ps end) split was.follow in
      let own = part_looks part kind ps s s₁ count m m₁ leads pieces most none top low high in
      record { at = was.at + part.count; follow = follow.1; looks = omega (arith, was.looks, own) }

  pub looks_all : (left : List Part) (end cells all m top s₀ s : ℕ) → AreMarkLooks left end cells m s₀ s → cells ≤ all → m ≤ top → s ≤ s₀ + 1152 * end + 256 * all + 256 * top
  looks_all left end cells all m top s₀ s was few low =
      let order = follow-order was.at left end was.follow in
      omega (arith, was.looks, few, low, order)
