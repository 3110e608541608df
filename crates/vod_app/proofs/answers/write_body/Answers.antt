-- What a step came to is joined to what came of those before it.
use Rattle.std.proofs.Common.{refl, rules, ◌∙◌}
use Rattle.vod_app.proofs.BodyLemmas.{read_again, read_ended, read_failed, written_again, written_cut, written_sink, written_store, written_whole}
use Rattle.vod_app.proofs.answers.write_body.Goals as goal

pub steps-preserved : goal.steps-preserved
steps-preserved g c =
    let way = c.steps.invariant in
    let step = c.in-Again.ensures in
    let steps = rw way.content at step.steps in
    record {
      belongs = steps.belongs;
      under_way = steps.under_way.1 refl;
      wrote = written_again c.args.cursor c.steps.left _ _ _ (g.S.Store.content c.args.origin.now.store) c.step.new.cursor way.wrote steps.advances;
      read = read_again c.args.cursor c.steps.left c.step.new.cursor _ _ _ (g.S.Store.content c.args.origin.now.store) way.read (rw way.content at step.reads);
      content = step.content ∙ way.content;
      kept = step.sink_kept ∙ way.kept;
      store_later = search rules;
      out_later = search rules;
    }

pub returns-in-Whole-clause-wrote : goal.returns-in-Whole-clause-wrote
returns-in-Whole-clause-wrote g c =
    let way = c.steps.invariant in
    let steps = rw way.content at c.in-Whole.ensures.steps in
    written_whole c.args.cursor c.steps.left _ _ _ (g.S.Store.content c.args.origin.now.store) c.step.new.cursor way.wrote steps.advances

pub returns-in-Whole-clause-read : goal.returns-in-Whole-clause-read
returns-in-Whole-clause-read g c =
    let way = c.steps.invariant in
    read_ended c.args.cursor c.steps.left c.step.new.cursor _ _ _ (g.S.Store.content c.args.origin.now.store) way.read (rw way.content at c.in-Whole.ensures.reads)

pub returns-in-BadNal-clause-wrote : goal.returns-in-BadNal-clause-wrote
returns-in-BadNal-clause-wrote g c =
    let way = c.steps.invariant in
    let steps = rw way.content at c.in-BadNal.ensures.steps in
    written_cut c.args.cursor c.steps.left _ _ _ (g.S.Store.content c.args.origin.now.store) c.step.new.cursor c.in-BadNal.file c.in-BadNal.sample way.wrote steps.advances

pub returns-in-BadNal-clause-read : goal.returns-in-BadNal-clause-read
returns-in-BadNal-clause-read g c =
    let way = c.steps.invariant in
    read_ended c.args.cursor c.steps.left c.step.new.cursor _ _ _ (g.S.Store.content c.args.origin.now.store) way.read (rw way.content at c.in-BadNal.ensures.reads)

pub returns-in-StoreFailed-clause-wrote : goal.returns-in-StoreFailed-clause-wrote
returns-in-StoreFailed-clause-wrote g c =
    let way = c.steps.invariant in
    let steps = rw way.content at c.in-StoreFailed.ensures.steps in
    written_store c.args.cursor c.steps.left _ _ _ (g.S.Store.content c.args.origin.now.store) c.step.new.cursor way.wrote steps.advances

pub returns-in-StoreFailed-clause-read : goal.returns-in-StoreFailed-clause-read
returns-in-StoreFailed-clause-read g c =
    let way = c.steps.invariant in
    read_failed c.args.cursor c.steps.left c.step.new.cursor _ _ _ (g.S.Store.content c.args.origin.now.store) way.read (rw way.content at c.in-StoreFailed.ensures.reads)

pub returns-in-SinkFailed-clause-wrote : goal.returns-in-SinkFailed-clause-wrote
returns-in-SinkFailed-clause-wrote g c =
    let way = c.steps.invariant in
    let steps = rw way.content at c.in-SinkFailed.ensures.steps in
    written_sink c.args.cursor c.steps.left _ _ _ (g.S.Store.content c.args.origin.now.store) c.step.new.cursor way.wrote steps.advances

pub returns-in-SinkFailed-clause-read : goal.returns-in-SinkFailed-clause-read
returns-in-SinkFailed-clause-read g c =
    let way = c.steps.invariant in
    read_failed c.args.cursor c.steps.left c.step.new.cursor _ _ _ (g.S.Store.content c.args.origin.now.store) way.read (rw way.content at c.in-SinkFailed.ensures.reads)
