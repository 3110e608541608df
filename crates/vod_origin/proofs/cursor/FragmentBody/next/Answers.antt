-- The step of the writer is the step of the body.
use Rattle.vod_origin.proofs.FragmentLemmas.{fragment_steps}
use Rattle.vod_source.proofs.CallLemmas.{told_all}
use Rattle.vod_origin.proofs.StepReads.{fragment_reads}
use Rattle.vod_origin.proofs.cursor.FragmentBody.next.Goals as goal

pub returns-clause-steps : goal.returns-clause-steps
returns-clause-steps g c =
    fragment_steps c.args.self.now (record { plan = c.next.new.rows; writing = c.next.new.self }) c.requires.under_way c.requires.of.left c.next.ensures.rows c.next.ensures.places
    (g.S.Store.content c.args.store.now) _ _ c.next.result c.requires.of.writable c.next.ensures.left c.next.ensures.answer c.next.ensures.progress c.next.ensures.written

pub returns-clause-reads : goal.returns-clause-reads
returns-clause-reads g c =
    told_all (g.S.Store.content c.args.store.now) _ (λ files.
    fragment_reads c.args.self.now (record { plan = c.next.new.rows; writing = c.next.new.self }) c.requires.under_way c.requires.of.left c.next.ensures.rows c.next.ensures.places
    files _ _ c.next.result c.next.ensures.answer c.next.ensures.progress c.next.ensures.log)
