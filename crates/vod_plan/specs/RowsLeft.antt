-- The rows of a kind of one piece that are left; this project's own.
use Rattle.std.specs.Prelude.{List, [], ◌∷◌}
use Rattle.vod_types.specs.declared.segments.Form.TheVariants.{Fmp4}
use Rattle.vod_types.specs.declared.segments.Row.{Row}
use Rattle.vod_plan.specs.declared.piece_rows.PieceRows.TheInside.{Inside}
use Rattle.vod_plan.specs.Passes.{rows_behind}
use Rattle.vod_plan.specs.Spans.{piece_view, IsPlanPiece}
use Rattle.vod_plan.specs.Walks.{IsWalk}

abbrev pub left_in : Inside → List Row
left_in r = rows_behind Fmp4 r.kind (piece_view r.piece.now ∷ []) r.walk

pub record IsPieceRows (r : Inside) : Type 0 where
  pub piece : IsPlanPiece r.piece.now
  pub walk : IsWalk r.kind (piece_view r.piece.now ∷ []) r.walk
