use Rattle.mp4_flat.proofs.NameLemmas.{on_mapped}
use Rattle.mp4_flat.proofs.packed_names.push_segment.Goals as goal

pub returns-clause-each : goal.returns-clause-each
returns-clause-each c =
    on_mapped c.push.result (λ kept dash of all. kept dash (of, c.ranges.number.fits, c.requires.sequence, c.requires.asked) all) c.push.ensures.each
