use Rattle.std.proofs.Common.{true}
use Rattle.mp4_flat.proofs.NameLemmas.{on_mapped}
use Rattle.mp4_flat.proofs.dash_names.push_rep.Goals as goal

pub returns-clause-each : goal.returns-clause-each
returns-clause-each c = on_mapped c.push_segments.result (λ kept all. kept true tt all) c.push_segments.ensures.each
