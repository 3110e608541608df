-- The times of the listed segments of a track are those of its rows.
use Rattle.std.proofs.Common.{◌≡◌, ℕ, ◌+◌, ◌≤◌, ◌^◌, Bool, true, false, List, [], ◌∷◌, ◌++◌, map, suc, ℤ, pos, negsuc, ◌+ℤ◌, ◌-ℤ◌, ◌≤ℤ◌, unsigned_abs, All, refl, subst, sym, arith, ltb, length}
use Rattle.std.specs.Prelude.{filter, flat_map, max, ◌==◌}
use Rattle.std.specs.List.{enumerate_from, range_with_len}
use Rattle.std.proofs.lemmas.Int.{ints}
use Rattle.std.proofs.lemmas.List.Elements.{All-cons, All-head, All-nil, All-tail}
use Rattle.vod_types.specs.declared.segments.SegmentRow.{SegmentRow}
use Rattle.vod_types.specs.declared.tracks.Kind.{Kind}
use Rattle.clip_model.specs.IsTimeline.{IsTime}
use Rattle.segment_model.specs.Cut.{cell_reached, group, groups, listed_groups, listed_part, marked_lead, segment_rows, start_of}
use Rattle.segment_model.specs.Grid.{PartGrid}
use Rattle.segment_model.specs.Laws.{AreTimelineRows, PlaceRises}
use Rattle.segment_model.specs.Listing.{ListedSegment, first_marked}
use Rattle.segment_model.specs.Rows.{TimedRow, end_of}
use Rattle.segment_model.specs.Timeline.{TrackRows, lead_end}
use Rattle.list_model.specs.Manifest.{IsListedRow}
use Rattle.flat_samples.specs.Rows.{ArePlacedRows, IsPlacedRow}
use Rattle.flat_samples.proofs.ListViews.{abs_from}

abbrev pub Each : {X : Type 0} → (X → Type 0) → List X → Type 0
Each P [] = Unit {0}
Each P (x ∷ xs) = P x × Each P xs

abbrev pub InTime : ℤ → Type 0
InTime z = (pos 0 ≤ℤ z) × (z ≤ℤ pos (2 ^ 43))

abbrev pub RowIn : TimedRow → Type 0
RowIn r = InTime r.place

each_kept : {X : Type 0} (P : X → Type 0) (test : X → Bool) (xs : List X) → Each P xs → Each P (filter test xs)
each_kept P test [] h = tt
each_kept P test (x ∷ xs) h = by (test x) refl (each_kept P test xs h.1)
  where
    by : (b : Bool) → test x ≡ b → Each P (filter test xs) → Each P (filter test (x ∷ xs))
    by true e later = rw e (h.0, later)
    by false e later = rw e later

-- ---- the rows of cells

lead_in : (reached : TimedRow → ℕ) (rows : List TimedRow) (mark : ℕ) → Each RowIn rows → Each (λ (p : ℕ × TimedRow). RowIn p.1) (marked_lead reached mark rows)
lead_in reached [] mark h = tt
lead_in reached (r ∷ rs) mark h = (h.0, lead_in reached rs (max mark (reached r)) h.1)

seconds_in : (ps : List (ℕ × TimedRow)) → Each (λ (p : ℕ × TimedRow). RowIn p.1) ps → Each RowIn (map (λ (p : ℕ × TimedRow). p.1) ps)
seconds_in [] h = tt
seconds_in (p ∷ ps) h = (h.0, seconds_in ps h.1)

group_in : (g : PartGrid) (rows : TrackRows) (k : ℕ) → Each RowIn rows.lead → Each RowIn (group g rows k).lead
unfolding group
group_in g rows k h =
    seconds_in (filter (λ (p : ℕ × TimedRow). p.0 == suc k) (marked_lead (cell_reached g) 0 rows.lead))
    (each_kept (λ (p : ℕ × TimedRow). RowIn p.1) (λ (p : ℕ × TimedRow). p.0 == suc k) (marked_lead (cell_reached g) 0 rows.lead) (lead_in (cell_reached g) rows.lead 0 h))

groups_in : (g : PartGrid) (rows : TrackRows) (ks : List ℕ) → Each RowIn rows.lead → Each (λ (t : TrackRows). Each RowIn t.lead) (map (group g rows) ks)
groups_in g rows [] h = tt
groups_in g rows (k ∷ ks) h = (group_in g rows k h, groups_in g rows ks h)

numbered_in : (n : ℕ) (gs : List TrackRows) → Each (λ (t : TrackRows). Each RowIn t.lead) gs → Each (λ (p : ℕ × TrackRows). Each RowIn p.1.lead) (enumerate_from n gs)
numbered_in n [] h = tt
numbered_in n (t ∷ ts) h = (h.0, numbered_in (n + 1) ts h.1)

-- ---- segments

start_in : (end : ℤ) (rows : List TimedRow) → InTime end → Each RowIn rows → InTime (start_of end rows)
start_in end [] e h = e
start_in end (r ∷ rs) e h = h.0

later_in : (end : ℤ) (gs : List (ℕ × TrackRows)) → InTime end → Each (λ (p : ℕ × TrackRows). Each RowIn p.1.lead) gs → InTime (start_of end (flat_map (λ (p : ℕ × TrackRows). p.1.lead) gs))
later_in end [] e h = e
later_in end (p ∷ gs) e h = by p.1.lead h.0 (later_in end gs e h.1)
  where
    by : (rows : List TimedRow) → Each RowIn rows → InTime (start_of end (flat_map (λ (p : ℕ × TrackRows). p.1.lead) gs)) → InTime (start_of end (rows ++ flat_map (λ (p : ℕ × TrackRows). p.1.lead) gs))
    by [] h later = later
    by (r ∷ rs) h later = h.0

apart : (x y : ℤ) → InTime x → InTime y → unsigned_abs (x -ℤ y) ≤ 2 ^ 62
apart (pos x) (pos y) h k = abs_from (pos x -ℤ pos y) (2 ^ 62) (omega (arith, ints, h.0, h.1, k.0, k.1)) (omega (arith, ints, h.0, h.1, k.0, k.1))
apart (negsuc x) y h k = absurd (omega (arith, ints, h.0))
apart (pos x) (negsuc y) h k = absurd (omega (arith, ints, k.0))

higher : (z : ℤ) → z ≤ℤ pos (2 ^ 43) → z ≤ℤ pos (2 ^ 62)
higher (pos n) h = omega (arith, ints, h)
higher (negsuc n) h = omega (arith, ints)

segments_in : (leads : Kind) (part : ℕ) (end : ℤ) (gs : List (ℕ × TrackRows)) → InTime end → Each (λ (p : ℕ × TrackRows). Each RowIn p.1.lead) gs → Each (λ (l : ListedSegment). IsListedRow l.0) (segment_rows leads part end gs)
segments_in leads part end [] e h = tt
segments_in leads part end (p ∷ later) e h =
    let start = start_in end p.1.lead e h.0 in
    (record { start = (start.0, higher (start_of end p.1.lead) start.1); length = apart _ _ (later_in end later e h.1) start }, segments_in leads part end later e h.1)

first_in : (ls : List ListedSegment) → Each (λ (l : ListedSegment). IsListedRow l.0) ls → Each (λ (l : ListedSegment). IsListedRow l.0) (first_marked ls)
first_in [] h = tt
first_in (l ∷ ls) h = (record { start = h.0.start; length = h.0.length }, h.1)

-- ---- the rows of a track

place_in : (z time : ℤ) → pos 0 ≤ℤ time → time ≤ℤ z → unsigned_abs z ≤ 2 ^ 42 → InTime z
place_in (pos n) time low h few = (omega (arith, ints), omega (arith, ints, few))
place_in (negsuc n) (pos t) low h few = absurd (omega (arith, ints, h))
place_in (negsuc n) (negsuc t) low h few = absurd (omega (arith, ints, low))

rows_in : (time : ℤ) (rows : List TimedRow) → pos 0 ≤ℤ time → PlaceRises time rows → All IsPlacedRow rows → Each RowIn rows
rows_in time [] low rise placed = tt
rows_in time (r ∷ rs) low rise placed =
    let here = place_in r.place time low rise.0 (All-head IsPlacedRow r rs placed).place in
    (here, rows_in r.place rs here.0 rise.1 (All-tail IsPlacedRow r rs placed))

end_in : (start : ℤ) (rows : List TimedRow) → InTime start → Each RowIn rows → All IsPlacedRow rows → InTime (lead_end start rows)
end_in start [] e h placed = e
end_in start (r ∷ rs) e h placed = let own = All-head IsPlacedRow r rs placed in end_in (end_of r) rs (ended r.place r.duration h.0 own.place own.duration) h.1 (All-tail IsPlacedRow r rs placed)
  where
    ended : (z : ℤ) (n : ℕ) → InTime z → unsigned_abs z ≤ 2 ^ 42 → n ≤ 2 ^ 40 → InTime (z +ℤ pos n)
    ended (pos z) n h few short = (omega (arith, ints), omega (arith, ints, few, short))
    ended (negsuc z) n h few short = absurd (omega (arith, ints, h.0))

all_rows : (ls : List ListedSegment) → Each (λ (l : ListedSegment). IsListedRow l.0) ls → All IsListedRow (map (λ (l : ListedSegment). l.0) ls)
all_rows [] h = All-nil IsListedRow
all_rows (l ∷ ls) h = All-cons IsListedRow l.0 (map (λ (l : ListedSegment). l.0) ls) h.0 (all_rows ls h.1)

start_time : (start : ℤ) → IsTime start → pos 0 ≤ℤ start → InTime start
start_time (pos n) h low = (low, omega (arith, ints, h))
start_time (negsuc n) h low = absurd (omega (arith, ints, low))

pub listed_times : (kind : Kind) (part number : ℕ) (g : PartGrid) (rows : TrackRows) (out : List SegmentRow) → IsTime g.start → pos 0 ≤ℤ g.start → ArePlacedRows rows → AreTimelineRows (pos 0) rows
    → out ≡ map (λ (l : ListedSegment). l.0) (listed_part kind part number g rows) → All IsListedRow out
listed_times kind part number g rows out time low placed order e =
    let lead = rows_in (pos 0) rows.lead (omega (arith, ints)) order.lead placed.lead in
    subst (All IsListedRow) (sym e)
    (all_rows (listed_part kind part number g rows)
    (first_in (segment_rows kind part (lead_end g.start rows.lead) (listed_groups number (groups g rows)))
    (segments_in kind part (lead_end g.start rows.lead) (listed_groups number (groups g rows)) (end_in g.start rows.lead (start_time g.start time low) lead placed.lead)
    (each_kept (λ (p : ℕ × TrackRows). Each RowIn p.1.lead) (λ (p : ℕ × TrackRows). ltb 0 (length p.1.lead)) (enumerate_from number (groups g rows)) (numbered_in number (groups g rows) (groups_in g rows (range_with_len 0 g.cells) lead))))))
