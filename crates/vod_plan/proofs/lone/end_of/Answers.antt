-- No row.
use Rattle.std.proofs.Common.{sym, ap, ◌∙◌, List, rules, FitsSigned, w64}
use Rattle.std.proofs.lemmas.Int.{to_z-of_z}
use Rattle.segment_model.specs.Rows.{TimedRow}
use Rattle.segment_model.specs.Timeline.{lead_end}
use Rattle.vod_plan.proofs.CellPlans.{lead_none}
use Rattle.vod_plan.proofs.lone.end_of.Goals as goal

pub returns-else-has_rows-clause-end : goal.returns-else-has_rows-clause-end
returns-else-has_rows-clause-end g c =
    let fits : FitsSigned w64 c.args.start = search rules in
    to_z-of_z w64 c.args.start fits ∙ ap (λ (rows : List TimedRow). lead_end c.args.start rows) (sym (lead_none c.args.leads c.args.pieces.now c.requires.pieces (sym c.has_rows.ensures ∙ c.if-has_rows.false)))
