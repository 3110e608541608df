-- One more, or all.
use Rattle.std.proofs.Common.{◌≤◌, ℕ, sym, ap, ◌∙◌, subst}
use Rattle.vod_types.specs.Settled.{Settled}
use Rattle.segment_model.specs.Grid.{SegmentGrid, grid_of}
use Rattle.flat_lists.specs.Asked.{asking_view}
use Rattle.seek_lists.specs.Looked.{all_cells}
use Rattle.seek_lists.proofs.DescriptionLemmas.{described_few, described_many}
use Rattle.flat_lists.proofs.ListedTimelines.{ok_all}
use Rattle.seek_lists.proofs.PeriodLemmas.{all_looked}
use Rattle.seek_lists.proofs.description.described.Goals as goal

pub returns-in-Err-clause-text : goal.returns-in-Err-clause-text
returns-in-Err-clause-text g c = λ o fs same found other. absurd (other c.in-Err.ensures.only)

pub returns-then-cells-gt100000-clause-text : goal.returns-then-cells-gt100000-clause-text
returns-then-cells-gt100000-clause-text g c = λ o fs same found other.
    described_many o (asking_view c.args.asking.now) fs c.args.looked.now found c.all_cells-cells.result
    (c.all_cells-cells.ensures ∙ ap (λ (g : SegmentGrid). all_cells g c.args.looked.now) (c.in-Ok.ensures.grid ∙ ap (λ (s : Settled). grid_of s c.args.asking.now.mapping.segment_ms) (sym same))) c.if-cells-gt100000.true

pub all_cells-cells-requires-clause-each : goal.all_cells-cells-requires-clause-each
all_cells-cells-requires-clause-each g c = all_looked c.args.asking.now.mapping c.args.looked.now c.requires.each

pub written-requires-clause-cells : goal.written-requires-clause-cells
written-requires-clause-cells g c = subst (λ (n : ℕ). n ≤ 100000) c.all_cells-cells.ensures c.if-cells-gt100000.false

pub returns-clause-text : goal.returns-clause-text
returns-clause-text g c = λ o fs same found.
    described_few o (asking_view c.args.asking.now) fs c.args.looked.now found (λ text. text.items) c.all_cells-cells.result c.written.result
    (c.all_cells-cells.ensures ∙ ap (λ (g : SegmentGrid). all_cells g c.args.looked.now) (c.in-Ok.ensures.grid ∙ ap (λ (s : Settled). grid_of s c.args.asking.now.mapping.segment_ms) (sym same))) c.if-cells-gt100000.false
    (ok_all c.written.result _ _ c.written.ensures.text (λ text is. is o fs same found)) c.written.ensures.only
