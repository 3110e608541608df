use Rattle.std.proofs.Common.{rules, ap}
use Rattle.vod_source.proofs.PieceLemmas.{Takes-taken}
use Rattle.vod_source.proofs.memory.link.MemLinkLink.take.Goals as goal

pub returns-clause-taken : goal.returns-clause-taken
returns-clause-taken c =
    let same = ap (λ v. v.input) c.self.view_is in
    Takes-taken (Unit {0}) c.args.self.now.input c.take.new.self c.take.result c.take.new.room (search rules) (search rules) (search rules) (search rules)
