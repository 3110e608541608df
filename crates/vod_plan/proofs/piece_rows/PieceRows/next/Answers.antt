-- No row is left where all were given.
use Rattle.std.proofs.Common.{[], ◌∷◌, sym, ◌∙◌}
use Rattle.vod_types.specs.declared.segments.Form.TheVariants.{Fmp4}
use Rattle.vod_plan.proofs.PassLemmas.{none_behind}
use Rattle.vod_plan.proofs.RowsLeft.{all_alone}
use Rattle.vod_plan.proofs.piece_rows.PieceRows.next.Goals as goal

pub returns-then-self : goal.returns-then-self
returns-then-self c =
    let rows = c.self.inside in
    sym c.self.view_is
    ∙ sym (none_behind rows.kind (rows.piece.now ∷ []) (all_alone rows.piece.now c.self.invariant.piece) Fmp4 rows.walk c.self.invariant.walk c.if-self.true)
