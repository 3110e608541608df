-- What is read is what the reply of its kind reads.
use Rattle.vod_origin.proofs.requests.ask_reply.Goals as goal

pub returns-in-None-clause-reads : goal.returns-in-None-clause-reads
returns-in-None-clause-reads g c = λ range. c.made_reply.ensures.reads c.args.head_only range
