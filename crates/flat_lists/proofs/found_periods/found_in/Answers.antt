use Rattle.std.proofs.Common.{◌≤◌, ℕ, sym, ap, ◌∙◌, subst}
use Rattle.vod_types.specs.Settled.{Settled}
use Rattle.segment_model.specs.Grid.{SegmentGrid, grid_of}
use Rattle.flat_lists.specs.Asked.{asking_view}
use Rattle.flat_lists.specs.CountedCells.{all_cells}
use Rattle.flat_lists.proofs.PeriodsDue.{periods_few, periods_many}
use Rattle.flat_lists.proofs.ListedTimelines.{ok_all}
use Rattle.flat_lists.proofs.PeriodLemmas.{all_looked}
use Rattle.flat_lists.proofs.found_periods.found_in.Goals as goal

pub returns-in-Err-clause-periods : goal.returns-in-Err-clause-periods
returns-in-Err-clause-periods c = λ o fs same found other. absurd (other c.in-Err.ensures.only)

pub returns-then-cells-gt100000-clause-periods : goal.returns-then-cells-gt100000-clause-periods
returns-then-cells-gt100000-clause-periods c = λ o fs same found other.
    periods_many o (asking_view c.args.asking.now) fs c.args.looked.now found c.all_cells-cells.result
    (c.all_cells-cells.ensures ∙ ap (λ (g : SegmentGrid). all_cells g c.args.looked.now) (c.in-Ok.ensures.grid ∙ ap (λ (s : Settled). grid_of s c.args.asking.now.mapping.segment_ms) (sym same))) c.if-cells-gt100000.true

pub all_cells-cells-requires-clause-each : goal.all_cells-cells-requires-clause-each
all_cells-cells-requires-clause-each c = all_looked c.args.asking.now.mapping c.args.looked.now c.requires.each

pub few_found-requires-clause-cells : goal.few_found-requires-clause-cells
few_found-requires-clause-cells c = subst (λ (n : ℕ). n ≤ 100000) c.all_cells-cells.ensures c.if-cells-gt100000.false

pub returns-clause-periods : goal.returns-clause-periods
returns-clause-periods c = λ o fs same found.
    periods_few o (asking_view c.args.asking.now) fs c.args.looked.now found (λ found. found.items) c.all_cells-cells.result c.few_found.result
    (c.all_cells-cells.ensures ∙ ap (λ (g : SegmentGrid). all_cells g c.args.looked.now) (c.in-Ok.ensures.grid ∙ ap (λ (s : Settled). grid_of s c.args.asking.now.mapping.segment_ms) (sym same))) c.if-cells-gt100000.false
    (ok_all c.few_found.result _ _ c.few_found.ensures.periods (λ found_all is. is o fs same found)) c.few_found.ensures.only
