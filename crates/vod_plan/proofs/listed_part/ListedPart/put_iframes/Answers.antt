-- No lead row, or the I-frames of the cells.
use Rattle.std.proofs.Common.{map, sym, ap, ◌∙◌}
use Rattle.std.proofs.lemmas.List.Elements.{All-weaker}
use Rattle.segment_model.specs.Timeline.{lead_end}
use Rattle.seq_cells.specs.Cells.{part_grid_of}
use Rattle.vod_plan.specs.IframeMarks.{mark_at}
use Rattle.vod_plan.specs.ListingCells.{part_rows}
use Rattle.vod_plan.specs.Narrowed.{IsSound}
use Rattle.vod_plan.specs.Spans.{piece_view, IsPlanPiece}
use Rattle.vod_plan.proofs.CellLemmas.{planned_lead}
use Rattle.vod_plan.proofs.CellPlans.{lead_none}
use Rattle.vod_plan.proofs.IframeParts.{added_none, iframes_none}
use Rattle.vod_plan.proofs.listed_part.ListedPart.put_iframes.Goals as goal

pub returns-then-not-has_rows-clause-marks : goal.returns-then-not-has_rows-clause-marks
returns-then-not-has_rows-clause-marks g c =
    let p = c.args.self.now in
    let ps = p.pieces.now in
    let none = sym (planned_lead p.leads (map piece_view ps)) ∙ lead_none p.leads ps (All-weaker IsSound IsPlanPiece (λ q sound. sound.piece) ps c.requires.pieces) (sym c.has_rows.ensures ∙ c.if-not-has_rows.true) in
    added_none _ c.args.out.now (ap (map (mark_at p.part (lead_end p.cells.start (part_rows p).lead))) (iframes_none p.number (part_grid_of p.cells) (part_rows p) none)) c.requires.kept
