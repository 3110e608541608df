-- Where a walk stands.
use Rattle.std.proofs.Common.{◌≡◌, ℕ, ◌+◌, ◌-◌, ◌<◌, ◌≤◌, List, length, get_or, Option, Some, refl, sym, ap, subst, ◌∙◌, arith}
use Rattle.std.specs.Prelude.{map, slice_get, IsSome}
use Rattle.std.specs.Option.{option_map_or}
use Rattle.std.proofs.lemmas.List.{length-map}
use Rattle.vod_types.specs.declared.tracks.Kind.{Kind}
use Rattle.time_runs.specs.declared.cursor.TimeCursor.{TimeCursor}
use Rattle.chunk_runs.specs.declared.cursor.PlaceCursor.{PlaceCursor}
use Rattle.vod_plan.specs.declared.spans.PlanPiece.{PlanPiece}
use Rattle.vod_plan.specs.declared.walk.Spot.{Spot}
use Rattle.vod_plan.specs.declared.walk.Walk.{Walk}
use Rattle.vod_plan.specs.Ranges.{PlannedPiece, RowRange, range_of}
use Rattle.vod_plan.specs.Spans.{piece_view, rows_before, rows_in}
use Rattle.vod_plan.specs.Walks.{behind, IsAt, IsIn, IsSpot, IsStanding, IsWalk}
use Rattle.vod_plan.proofs.SpotLemmas.{piece_at, range_there, rows_before-more, view_at, view_found, within}

pub there : {X : Type 0} (o : Option X) (x : X) → o ≡ Some x → IsSome o
there o x e = rw e refl

module _ (kind : Kind) (pieces : List PlanPiece) where
  abbrev pub views : List PlannedPiece
  views = map piece_view pieces

  -- ---- at the cursors

  module _ (w : Walk) (times : TimeCursor) (places : PlaceCursor) (walk : IsWalk kind views w) (cursors : w.cursors ≡ Some (times, places)) where
    pub at_cursors : IsAt kind views w.given w.piece times places
    at_cursors = subst (IsStanding kind views w.given w.piece) cursors walk.stands

    pub piece_within : w.piece < length pieces
    piece_within = within pieces w.piece at_cursors.found at_cursors.at

    pub behind-some : behind w ≡ w.piece + 1
    behind-some = rw cursors refl

    module _ (p : PlanPiece) (is : p ≡ get_or pieces w.piece p) where
      here : slice_get pieces w.piece ≡ Some p
      here = piece_at pieces w.piece p piece_within is

      pub range_here : range_of kind (piece_view p) ≡ Some at_cursors.range
      range_here = ap (range_of kind) (view_found pieces w.piece p at_cursors.found here at_cursors.at) ∙ at_cursors.is_range

      -- all rows of the piece were given
      pub all_given : (times.row < at_cursors.range.to → ⊥) → w.given ≡ rows_before kind views (behind w)
      all_given none =
          let at = at_cursors in
          let more = rows_before-more kind pieces w.piece p here in
          let count : rows_in kind (piece_view p) ≡ at.range.to - at.range.from = ap (λ (o : Option RowRange). option_map_or (λ (r : RowRange). r.to - r.from) o 0) range_here in
          let next = ap (rows_before kind views) behind-some in
          omega (arith, none, at.next, at.inside.from, at.inside.to, more, count, next)

  -- ---- at the first row of a piece

  pub at_first : (given : ℕ) (s : Spot) (p : PlanPiece) → slice_get pieces s.piece ≡ Some p → 0 < rows_in kind (piece_view p) → given ≡ rows_before kind views s.piece
      → ((r : RowRange) → range_of kind (piece_view p) ≡ Some r → IsIn r s.times s.places) → ((r : RowRange) → range_of kind (piece_view p) ≡ Some r → s.times.row ≡ r.from) → IsSpot kind views given s
  at_first given s p here some is inside first =
      let found = range_there kind (piece_view p) some in
      let row = first found.0 found.1 in
      record {
        at = record {
          found = piece_view p;
          at = view_at pieces s.piece p here;
          range = found.0;
          is_range = found.1;
          inside = inside found.0 found.1;
          next = omega (arith, is, row);
        };
        left = omega (arith, row, found.2);
      }

  -- some piece has the next row
  pub before_end : (w : Walk) (piece : ℕ) → IsWalk kind views w → w.given < w.count → w.given ≡ rows_before kind views piece → piece ≤ length pieces → piece < length pieces
  before_end w piece walk left before most = strict piece (length pieces) most never
    where
      strict : (a b : ℕ) → a ≤ b → (a ≡ b → ⊥) → a < b
      strict a b le differs = omega (arith, le, differs)

      never : piece ≡ length pieces → ⊥
      never is =
          let last : rows_before kind views piece ≡ rows_before kind views (length views) = ap (rows_before kind views) (is ∙ sym (length-map pieces piece_view)) in
          omega (arith, last, walk.count, before, left)

  -- ---- a step

  module _ (w : Walk) (s : Spot) (spot : IsSpot kind views w.given s) (p : PlanPiece) (is : p ≡ get_or pieces s.piece p) where
    pub spot_piece : slice_get pieces s.piece ≡ Some p
    spot_piece = piece_at pieces s.piece p (within pieces s.piece spot.at.found spot.at.at) is

    pub spot_view : slice_get views s.piece ≡ Some (piece_view p)
    spot_view = view_at pieces s.piece p spot_piece

    pub spot_range : range_of kind (piece_view p) ≡ Some spot.at.range
    spot_range = ap (range_of kind) (view_found pieces s.piece p spot.at.found spot_piece spot.at.at) ∙ spot.at.is_range

    pub step_on : (times : TimeCursor) (places : PlaceCursor) → IsWalk kind views w → w.given < w.count → IsIn spot.at.range times places → times.row ≡ s.times.row + 1
        → IsWalk kind views (record { given = w.given + 1; count = w.count; piece = s.piece; cursors = Some (times, places) })
    step_on times places walk left inside row =
        let at = spot.at in
        let here = within pieces s.piece at.found at.at in
        record {
          count = walk.count;
          given = omega (arith, left);
          piece = omega (arith, here, length-map pieces piece_view);
          stands = record {
            found = piece_view p;
            at = spot_view;
            range = at.range;
            is_range = spot_range;
            inside = inside;
            next = omega (arith, at.next, row);
          };
        }
