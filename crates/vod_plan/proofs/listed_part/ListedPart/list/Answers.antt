-- Without a lead row no cell is listed.
use Rattle.std.proofs.Common.{◌++◌, List, map, sym, ap, ◌∙◌, append-nil}
use Rattle.std.proofs.lemmas.List.Elements.{All-weaker}
use Rattle.segment_model.specs.Listing.{ListedSegment, listed_view}
use Rattle.seq_cells.specs.Cells.{part_grid_of}
use Rattle.vod_plan.specs.ListingCells.{part_rows}
use Rattle.vod_plan.specs.Narrowed.{IsSound}
use Rattle.vod_plan.specs.Spans.{piece_view, IsPlanPiece}
use Rattle.vod_plan.proofs.CellLemmas.{planned_lead}
use Rattle.vod_plan.proofs.CellPlans.{lead_none}
use Rattle.vod_plan.proofs.ListingSteps.{listed_none}
use Rattle.vod_plan.proofs.listed_part.ListedPart.list.Goals as goal

pub returns-then-not-has_rows-clause-listed : goal.returns-then-not-has_rows-clause-listed
returns-then-not-has_rows-clause-listed g c = λ s rises other.
    let p = c.args.self.now in
    let ps = p.pieces.now in
    let old = map listed_view c.args.out.now.items in
    let none = sym (planned_lead p.leads (map piece_view ps)) ∙ lead_none p.leads ps (All-weaker IsSound IsPlanPiece (λ q sound. sound.piece) ps c.requires.pieces) (sym c.has_rows.ensures ∙ c.if-not-has_rows.true) in
    sym (ap (λ (ls : List ListedSegment). old ++ ls) (listed_none (part_grid_of p.cells) (part_rows p) p.leads p.part p.number none) ∙ append-nil old)
