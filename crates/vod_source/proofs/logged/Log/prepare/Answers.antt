use Rattle.std.proofs.Common.{◌∙◌, ap}
use Rattle.vod_source.specs.Logs.{reads_of}
use Rattle.vod_source.proofs.LogLemmas.{reads-kept, last_name-added}
use Rattle.vod_source.proofs.logged.Log.prepare.Goals as goal

pub returns-clause-reads : goal.returns-clause-reads
returns-clause-reads c =
    reads-kept c.self.inside.names.items c.self.inside.entries.items c.args.name.now c.add.result _ _ c.self.invariant.0 c.add.ensures.entries c.add.ensures.names
    ∙ ap (λ v. reads_of v.names v.entries) c.self.view_is

pub returns-clause-last : goal.returns-clause-last
returns-clause-last c = λ added. last_name-added c.self.inside.names.items c.args.name.now c.add.result _ c.add.ensures.names added
