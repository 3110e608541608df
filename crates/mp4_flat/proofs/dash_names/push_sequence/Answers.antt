use Rattle.mp4_flat.proofs.NameLemmas.{on_both, on_mapped}
use Rattle.mp4_flat.proofs.dash_names.push_sequence.Goals as goal

pub returns-clause-names : goal.returns-clause-names
returns-clause-names c = on_both c.push_track-2.result c.args.names.now.items _ _ _ _ c.in_ok-push_track.ensures.names c.push_track-2.ensures.names

pub returns-clause-each : goal.returns-clause-each
returns-clause-each c = on_mapped c.push_track-2.result (λ kept all. kept (c.in_ok-push_track.ensures.each all)) c.push_track-2.ensures.each
