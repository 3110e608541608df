use Rattle.vod_source.proofs.CallLemmas.{told_with_all}
use Rattle.vod_app.specs.declared.words.Order.TheVariants as orders
use Rattle.vod_app.proofs.RehearsalLemmas.{unrefused_status}
use Rattle.vod_app.proofs.run.Goals as goal

pub returns-clause-get : goal.returns-clause-get
returns-clause-get g c =
    told_with_all (g.S.Store.content c.args.store) _ _ c.run_command-end.ensures.got (λ files got q is. let g = got q is in record {
      outcome = _;
      status_is = c.status-status.ensures;
      wrote = g.wrote;
      reads = g.reads;
      reads_are = g.reads_are;
      logged = g.logged;
      told = c.tell.ensures.line;
    })

pub returns-clause-plan : goal.returns-clause-plan
returns-clause-plan g c =
    told_with_all (g.S.Store.content c.args.store) _ _ c.run_command-end.ensures.planned (λ files planned q is. let p = planned q is in record {
      outcome = _;
      status_is = c.status-status.ensures;
      wrote = p.wrote;
      reads = p.reads;
      reads_are = p.reads_are;
      logged = p.logged;
      told = c.tell.ensures.line;
    })

pub returns-clause-pack : goal.returns-clause-pack
returns-clause-pack g c =
    told_with_all (g.S.Store.content c.args.store) _ _ c.run_command-end.ensures.packed (λ files packed q is. record {
      outcome = _;
      status_is = c.status-status.ensures;
      wrote = packed q is;
      told = c.tell.ensures.line;
    })

pub returns-clause-reads : goal.returns-clause-reads
returns-clause-reads g c =
    told_with_all (g.S.Store.content c.args.store) _ _ c.run_command-end.ensures.read (λ files read q is. let r = read q is in record {
      outcome = _;
      status_is = c.status-status.ensures;
      reads = r.reads;
      made = r.made;
      wrote = r.wrote;
      told = c.tell.ensures.line;
    })

pub returns-clause-serve : goal.returns-clause-serve
returns-clause-serve g c =
    told_with_all (g.S.Store.content c.args.store) _ _ c.run_command-end.ensures.served (λ files served root settings addr count is. let s = served orders.OneByOne root settings addr count is in record {
      outcome = _;
      status_is = c.status-status.ensures;
      does = s.0;
      logged = s.1;
      told = c.tell.ensures.line;
    })

pub returns-clause-turns : goal.returns-clause-turns
returns-clause-turns g c =
    told_with_all (g.S.Store.content c.args.store) _ _ c.run_command-end.ensures.served (λ files served root settings addr count is. let s = served orders.InTurns root settings addr count is in record {
      outcome = _;
      status_is = c.status-status.ensures;
      does = s.0;
      logged = s.1;
      told = c.tell.ensures.line;
    })

pub returns-clause-rehearse : goal.returns-clause-rehearse
returns-clause-rehearse g c = λ n is. let r = c.run_command-end.ensures.rehearsed n is in record {
  outcome = _;
  status_is = c.status-status.ensures;
  rehearsed = r.0;
  told = c.tell.ensures.line;
}

pub returns-clause-rehearsed_unread : goal.returns-clause-rehearsed_unread
returns-clause-rehearsed_unread g c = λ n is. (c.run_command-end.ensures.rehearsed n is).1

pub returns-clause-rehearsed_status : goal.returns-clause-rehearsed_status
returns-clause-rehearsed_status g c = λ n is. unrefused_status _ _ c.status-status.ensures (c.run_command-end.ensures.unrefused n is)
