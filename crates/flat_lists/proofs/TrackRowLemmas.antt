-- The listed segments of a track of a part.
use Rattle.std.proofs.Common.{◌≡◌, ℕ, List, [], ◌∷◌, ◌++◌, map, ℤ, pos, refl, sym, ap, ◌∙◌, subst}
use Rattle.vod_types.specs.declared.segments.Listed.{Listed}
use Rattle.vod_types.specs.declared.segments.SegmentRow.{SegmentRow}
use Rattle.vod_types.specs.declared.tracks.Kind.{Kind}
use Rattle.segment_model.specs.Cut.{listed_part}
use Rattle.segment_model.specs.Grid.{PartGrid}
use Rattle.segment_model.specs.Laws.{AreTimelineRows, PlaceRises}
use Rattle.segment_model.specs.Listing.{ListedSegment, listed_view}
use Rattle.segment_model.specs.Lone.{lone_segments}
use Rattle.segment_model.specs.Timeline.{TrackRows}
use Rattle.segment_model.proofs.Segments.{listed_one_by_one}

rows_viewed : (ls : List Listed) → map (λ (l : Listed). l.row) ls ≡ map (λ (l : ListedSegment). l.0) (map listed_view ls)
rows_viewed [] = refl
rows_viewed (l ∷ ls) = ap (λ (rows : List SegmentRow). l.row ∷ rows) (rows_viewed ls)

pub track_listed : (kind : Kind) (part number : ℕ) (g : PartGrid) (rows seen : TrackRows) (listed before : List Listed) → before ≡ [] → seen ≡ rows → AreTimelineRows (pos 0) rows
    → ((s : ℤ) → PlaceRises s seen.lead → PlaceRises s seen.other → map listed_view listed ≡ map listed_view before ++ lone_segments kind part number g seen)
    → map (λ (l : Listed). l.row) listed ≡ map (λ (l : ListedSegment). l.0) (listed_part kind part number g rows)
track_listed kind part number g rows seen listed before none same order h =
    let is = h (pos 0) (subst (λ (r : TrackRows). PlaceRises (pos 0) r.lead) (sym same) order.lead) (subst (λ (r : TrackRows). PlaceRises (pos 0) r.other) (sym same) order.other) in
    rows_viewed listed
    ∙ ap (map (λ (l : ListedSegment). l.0))
    (is ∙ ap (λ (ls : List Listed). map listed_view ls ++ lone_segments kind part number g seen) none ∙ ap (lone_segments kind part number g) same
    ∙ sym (listed_one_by_one g rows kind part number (pos 0) order.lead))
