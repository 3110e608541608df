-- What a step came to is joined to what came of those before it.
use Rattle.std.proofs.Common.{rules, ◌∙◌}
use Rattle.vod_source.specs.declared.step.Step.TheVariants.{Again, StoreFailed, SinkFailed}
use Rattle.fmp4_writer.specs.Progress.{left_after}
use Rattle.fmp4_writer.proofs.StepLemmas.{written_step, read_step, written_whole, read_whole}
use Rattle.fmp4_writer.proofs.whole.write_fragment.Goals as goal

pub steps-preserved : goal.steps-preserved
steps-preserved g c =
    let way = c.steps.invariant in
    let step = c.in-Again.ensures in
    let places = rw way.same at step.places in
    let progress = rw way.same at step.progress in
    record {
      under_way = rw step.progress (search rules);
      left = rw (step.rows ∙ way.same) at step.left;
      same = step.rows ∙ way.same;
      content = step.content ∙ way.content;
      written = rw (progress, places) (written_step (g.S.Store.content c.args.store.now) (g.R.Rows.rows c.args.rows.now) (g.R.Rows.places c.steps.rows) Again c.steps.writing (left_after c.steps.writing (g.R.Rows.rows c.args.rows.now)) _ _ _ _ way.under_way way.written (rw (way.content, way.same) at step.written));
      log = rw (progress, places) (read_step (g.R.Rows.rows c.args.rows.now) (g.R.Rows.places c.steps.rows) Again c.steps.writing (left_after c.steps.writing (g.R.Rows.rows c.args.rows.now)) _ _ _ way.under_way way.log (rw way.same at step.log));
      kept = step.kept ∙ way.kept;
      store_later = search rules;
      sink_later = search rules;
    }

pub returns-in-Whole-clause-written : goal.returns-in-Whole-clause-written
returns-in-Whole-clause-written g c =
    let way = c.steps.invariant in
    written_whole (g.S.Store.content c.args.store.now) (g.R.Rows.rows c.args.rows.now) (g.R.Rows.places c.steps.rows) c.steps.writing _ _ _ _ way.under_way way.left way.written
    (rw (way.content, way.same) at c.in-Whole.ensures.written) (rw way.same at c.in-Whole.ensures.answer)

pub returns-in-Whole-clause-log : goal.returns-in-Whole-clause-log
returns-in-Whole-clause-log g c =
    let way = c.steps.invariant in
    read_whole (g.R.Rows.rows c.args.rows.now) (g.R.Rows.places c.steps.rows) c.steps.writing _ _ _ way.under_way way.left way.log
    (rw way.same at c.in-Whole.ensures.log) (rw way.same at c.in-Whole.ensures.answer)

pub returns-in-StoreFailed-clause-written : goal.returns-in-StoreFailed-clause-written
returns-in-StoreFailed-clause-written g c =
    let way = c.steps.invariant in
    written_step (g.S.Store.content c.args.store.now) (g.R.Rows.rows c.args.rows.now) (g.R.Rows.places c.steps.rows) StoreFailed c.steps.writing 0 _ _ _ _ way.under_way way.written
    (rw (way.content, way.same) at c.in-StoreFailed.ensures.written)

pub returns-in-StoreFailed-clause-log : goal.returns-in-StoreFailed-clause-log
returns-in-StoreFailed-clause-log g c =
    let way = c.steps.invariant in
    read_step (g.R.Rows.rows c.args.rows.now) (g.R.Rows.places c.steps.rows) StoreFailed c.steps.writing 0 _ _ _ way.under_way way.log (rw way.same at c.in-StoreFailed.ensures.log)

pub returns-in-SinkFailed-clause-written : goal.returns-in-SinkFailed-clause-written
returns-in-SinkFailed-clause-written g c =
    let way = c.steps.invariant in
    written_step (g.S.Store.content c.args.store.now) (g.R.Rows.rows c.args.rows.now) (g.R.Rows.places c.steps.rows) SinkFailed c.steps.writing 0 _ _ _ _ way.under_way way.written
    (rw (way.content, way.same) at c.in-SinkFailed.ensures.written)

pub returns-in-SinkFailed-clause-log : goal.returns-in-SinkFailed-clause-log
returns-in-SinkFailed-clause-log g c =
    let way = c.steps.invariant in
    read_step (g.R.Rows.rows c.args.rows.now) (g.R.Rows.places c.steps.rows) SinkFailed c.steps.writing 0 _ _ _ way.under_way way.log (rw way.same at c.in-SinkFailed.ensures.log)
