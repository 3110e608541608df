-- The rows of a track with those of one more piece.
use Rattle.std.proofs.Common.{◌≡◌, ◌≤◌, ℕ, ◌+◌, IfSome, List, [], ◌∷◌, ◌++◌, length, map, Option, Some, None, All, refl, sym, ap, ap₂, ◌∙◌, subst, arith, append_assoc, append-nil, length-append}
use Rattle.std.specs.Prelude.{flat_map, is_some, ℤ, if◌then◌else◌}
use Rattle.std.specs.List.{enumerate_from}
use Rattle.std.proofs.lemmas.List.{length-map, map-append}
use Rattle.std.proofs.lemmas.List.Elements.{All-nil, All-cons, All-append}
use Rattle.vod_types.specs.declared.tracks.Kind.{Kind}
use Rattle.vod_types.specs.declared.tracks.Kind.TheVariants.{Video, Audio}
use Rattle.mp4_model.specs.GoodTracks.{GoodTrack}
use Rattle.segment_model.specs.Rows.{TimedRow, timed_rows}
use Rattle.segment_model.specs.Timeline.{TrackRows, placed, placed_lead, placed_other, rows_of, selected_from, selected_lead, selected_other}
use Rattle.origin_model.specs.Loaded.{CheckedPiece}
use Rattle.origin_model.specs.Sources.{source_piece}
use Rattle.flat_samples.specs.Rows.{rows_with}
use Rattle.flat_lists.specs.declared.part_tracks.TrackFacts.{TrackFacts}
use Rattle.flat_lists.specs.PartTracks.{Seen, alone}
use Rattle.vod_plan.specs.declared.spans.PlanPiece.{PlanPiece}
use Rattle.vod_plan.specs.Narrowed.{other_kind, IsSound}
use Rattle.vod_plan.specs.Needed.{piece_rows}
use Rattle.vod_plan.specs.Ranges.{PlannedPiece, planned_of}
use Rattle.vod_plan.specs.Selected.{leading, rows_planned, selected_rows, IsSelected}
use Rattle.vod_plan.specs.Spans.{piece_view, IsPlanPiece}
use Rattle.vod_plan.proofs.FoundLemmas.{kept_in, lead_is, piece_is}
use Rattle.seek_lists.specs.declared.part_tracks.PartTrack.{PartTrack}
use Rattle.seek_lists.specs.declared.part_tracks.PartTracks.{PartTracks}
use Rattle.seek_lists.specs.PartTracks.{AreFew, ArePlaced, IsKeptTrack, IsPlacedTrack}

-- ---- pieces in order

abbrev rows_at : Kind → ℕ → List PlannedPiece → List TimedRow
rows_at kind file ps = flat_map (λ (e : ℕ × PlannedPiece). piece_rows kind e.0 e.1) (enumerate_from file ps)

one_more : (kind : Kind) (file : ℕ) (ps : List PlannedPiece) (p : PlannedPiece) → rows_at kind file (ps ++ p ∷ []) ≡ rows_at kind file ps ++ piece_rows kind (file + length ps) p
one_more kind file [] p = append-nil (piece_rows kind file p) ∙ ap (λ (n : ℕ). piece_rows kind n p) (let same : file ≡ file + 0 = omega arith in same)
one_more kind file (q ∷ ps) p =
    let at : file + 1 + length ps ≡ file + length (q ∷ ps) = omega arith in
    ap (λ (rows : List TimedRow). piece_rows kind file q ++ rows) (one_more kind (file + 1) ps p ∙ ap (λ (n : ℕ). rows_at kind (file + 1) ps ++ piece_rows kind n p) at)
    ∙ sym (append_assoc (piece_rows kind file q) (rows_at kind (file + 1) ps) (piece_rows kind (file + length (q ∷ ps)) p))

-- ---- a piece without the track of the other kind

from_none : (hi : Option ℤ) (lead : List TimedRow) → selected_from hi lead [] ≡ []
from_none hi [] = refl
from_none hi (first ∷ lead) = refl

bare_lead : (c : CheckedPiece) → c.video ≡ None → c.audio ≡ None → selected_lead (source_piece c) ≡ []
unfolding selected_lead source_piece timed_rows
bare_lead c v a = rw (v, a) refl

bare_other : (c : CheckedPiece) → c.video ≡ None → selected_other (source_piece c) ≡ []
unfolding selected_other source_piece
bare_other c v = rw v (from_none c.piece.hi _)

module _ (c : CheckedPiece) (p : PlannedPiece) (file : ℕ) where
  abbrev of_video : CheckedPiece
  of_video = alone Video c

  abbrev at : List TimedRow → List TimedRow
  at rows = map (placed file (source_piece of_video).base) rows

  abbrev led : Kind → Kind → List TimedRow
  led lead kind = at (rows_of lead kind (selected_rows of_video))

  leads : (o : Option GoodTrack) → c.video ≡ o → leading of_video ≡ (if is_some o then Video else Audio)
  leads o e = ap (λ (o : Option GoodTrack). if is_some o then Video else Audio) e

  piece_lead : (kind : Kind) → IsSelected (alone kind c) p → piece_rows kind file p ≡ placed_lead file (source_piece (alone kind c))
  piece_lead Audio s = lead_is Audio (alone Audio c) p file s refl
  piece_lead Video s = by c.video refl
    where
      by : (o : Option GoodTrack) → c.video ≡ o → piece_rows Video file p ≡ placed_lead file (source_piece of_video)
      by (Some t) e = lead_is Video of_video p file s (leads (Some t) e)
      by None e = piece_is Video of_video p file s ∙ ap (λ (k : Kind). led k Video) (leads None e) ∙ ap at (bare_other of_video e) ∙ sym (ap at (bare_lead of_video e refl))

  piece_other : (kind : Kind) → IsSelected (alone kind c) p → piece_rows (other_kind kind) file p ≡ placed_other file (source_piece (alone kind c))
  piece_other Audio s = piece_is Video (alone Audio c) p file s
  piece_other Video s = by c.video refl
    where
      by : (o : Option GoodTrack) → c.video ≡ o → piece_rows Audio file p ≡ placed_other file (source_piece of_video)
      by (Some t) e = piece_is Audio of_video p file s ∙ ap (λ (k : Kind). led k Audio) (leads (Some t) e)
      by None e = piece_is Audio of_video p file s ∙ ap (λ (k : Kind). led k Audio) (leads None e) ∙ ap at (bare_lead of_video e refl) ∙ sym (ap at (bare_other of_video e))

-- ---- one more piece

module _ (ps : List PlanPiece) (p : PlanPiece) (c : CheckedPiece) (n : ℕ) (many : length ps ≡ n) where
  kind_more : (kind : Kind) (rows : List TimedRow) → piece_rows kind n (piece_view p) ≡ rows → planned_of kind (map piece_view (ps ++ p ∷ [])) ≡ planned_of kind (map piece_view ps) ++ rows
  kind_more kind rows e =
      let count : 0 + length (map piece_view ps) ≡ n = omega (arith, length-map ps piece_view, many) in
      ap (planned_of kind) (map-append piece_view ps (p ∷ [])) ∙ one_more kind 0 (map piece_view ps) (piece_view p)
      ∙ ap (λ (more : List TimedRow). planned_of kind (map piece_view ps) ++ more) (ap (λ (m : ℕ). piece_rows kind m (piece_view p)) count ∙ e)

  rows_more : (kind : Kind) → IsSelected (alone kind c) (piece_view p) → rows_planned kind (map piece_view (ps ++ p ∷ [])) ≡ rows_with (rows_planned kind (map piece_view ps)) n (source_piece (alone kind c))
  rows_more Video s =
      ap₂ (λ (lead other : List TimedRow). record { lead = lead; other = other }) (kind_more Video _ (piece_lead c (piece_view p) n Video s)) (kind_more Audio _ (piece_other c (piece_view p) n Video s))
  rows_more Audio s =
      ap₂ (λ (lead other : List TimedRow). record { lead = lead; other = other }) (kind_more Audio _ (piece_lead c (piece_view p) n Audio s)) (kind_more Video _ (piece_other c (piece_view p) n Audio s))

  pub track_more : (facts : TrackFacts) (kind : Kind) (own : CheckedPiece) (now : List PlanPiece) → facts.kind ≡ kind → now ≡ ps ++ p ∷ [] → own ≡ alone kind c → IsSelected own (piece_view p)
      → ◌≡◌ {A = Seen} (facts, rows_planned facts.kind (map piece_view now)) (facts, rows_with (rows_planned facts.kind (map piece_view ps)) n (source_piece (alone kind c)))
  track_more facts kind own now kind_is e own_is s =
      ap (λ (rows : TrackRows). (facts, rows))
      (ap (λ (qs : List PlanPiece). rows_planned facts.kind (map piece_view qs)) e
      ∙ ap (λ (k : Kind). rows_planned k (map piece_view (ps ++ p ∷ []))) kind_is
      ∙ rows_more kind (subst (λ (own : CheckedPiece). IsSelected own (piece_view p)) own_is s)
      ∙ ap (λ (k : Kind). rows_with (rows_planned k (map piece_view ps)) n (source_piece (alone kind c))) (sym kind_is))

-- it keeps so many pieces
pub sound_more : (t now : PartTrack) (p : PlanPiece) (own : CheckedPiece) (kind : Kind) (n : ℕ) → IsPlacedTrack kind n t → now.facts ≡ t.facts → now.pieces.items ≡ t.pieces.items ++ p ∷ [] → IsPlanPiece p → IsSelected own (piece_view p)
    → IsPlacedTrack kind (n + 1) now
sound_more t now p own kind n h facts e kept s = record {
  kind_is = ap (λ (f : TrackFacts). f.kind) facts ∙ h.kind_is;
  count_is = ap (λ (ps : List PlanPiece). length ps) e ∙ length-append t.pieces.items (p ∷ []) ∙ ap (λ (m : ℕ). m + 1) h.count_is;
  sound = subst (All IsSound) (sym e) (All-append IsSound t.pieces.items (p ∷ []) h.sound
      (All-cons IsSound p [] (record { piece = kept; video = kept_in Video own (piece_view p) s; audio = kept_in Audio own (piece_view p) s }) (All-nil IsSound)));
}

-- the rows of a kind, and those of the other one
pub planned_rows : (kind : Kind) (ps : List PlannedPiece) → ◌≡◌ {A = TrackRows} (record { lead = planned_of kind ps; other = planned_of (other_kind kind) ps }) (rows_planned kind ps)
planned_rows Video ps = refl
planned_rows Audio ps = refl

-- so many pieces are at most 1024
pub few_placed : (n : ℕ) (p : PartTracks) → n ≤ 1024 → ArePlaced n p → AreFew p
few_placed n p few placed = record { video = kept Video p.video placed.video; audio = kept Audio p.audio placed.audio }
  where
    kept : (kind : Kind) (t : Option PartTrack) → IfSome t (IsPlacedTrack kind n) → IfSome t IsKeptTrack
    kept kind None h = tt
    kept kind (Some t) h = record { sound = h.sound; many = omega (arith, h.count_is, few) }
