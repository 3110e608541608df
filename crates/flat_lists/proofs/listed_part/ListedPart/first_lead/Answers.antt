use Rattle.std.proofs.Common.{length, drop, take, ◌-◌, ap, ◌∙◌, FitsSigned, w64, rules}
use Rattle.std.specs.Prelude.{unwrap_or}
use Rattle.std.proofs.lemmas.Int.{to_z-of_z}
use Rattle.flat_segments.specs.Cells.{part_grid_of}
use Rattle.flat_segments.proofs.CellRows.{first_row_behind}
use Rattle.flat_lists.proofs.ListedCells.{lead_skipped, slice_from}
use Rattle.flat_lists.proofs.listed_part.ListedPart.first_lead.Goals as goal

pub returns-then-k-self-clause-row : goal.returns-then-k-self-clause-row
returns-then-k-self-clause-row c = λ le. first_row_behind (part_grid_of c.args.self.now.cells) c.args.self.now.rows.lead.now c.args.k c.if-k-self.true

pub returns-clause-row : goal.returns-clause-row
returns-clause-row c =
    let fits : FitsSigned w64 c.time.result = search rules in
    let lead = c.args.self.now.rows.lead.now in
    let later = take (length lead - c.args.earlier) (drop c.args.earlier lead) in
    let found = rw c.time.ensures at (simp to_z-of_z at c.first_from.ensures) in
    lead_skipped (part_grid_of c.args.self.now.cells) c.args.k c.args.earlier c.unwrap_or.result lead later (slice_from c.args.earlier lead) c.if-k-self.false
    (c.unwrap_or.ensures ∙ ap (λ i. unwrap_or i (length later)) found)
