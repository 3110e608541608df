use Rattle.vod_source.proofs.CallLemmas.{told_all, told_with_all}
use Rattle.flat_lists.specs.Asked.{asking_view, setup_of}
use Rattle.flat_lists.proofs.SequenceLemmas.{sequence_found_by, sequence_refused}
use Rattle.flat_lists.proofs.looked_sequences.look_at_sequence.Goals as goal

pub returns-in-Err-clause-told : goal.returns-in-Err-clause-told
returns-in-Err-clause-told g c =
    told_all (g.S.Store.content c.args.files.now) _
    (λ known. λ trues. sequence_refused (setup_of c.args.settings.now c.args.root.now known) (asking_view c.args.asking.now) c.args.number c.args.movies.now c.args.movies.now (g.S.Store.log c.args.files.now) (g.S.Store.log c.args.files.now) c.in-Err.refusal c.in-Err.ensures.answers trues)

pub returns-in-Ok-clause-told : goal.returns-in-Ok-clause-told
returns-in-Ok-clause-told g c =
    told_with_all (g.S.Store.content c.args.files.now) _ _ c.look_at_timeline.ensures.told
    (λ known tour trues. sequence_found_by (setup_of c.args.settings.now c.args.root.now known) (asking_view c.args.asking.now) c.args.number c.args.movies.now _ _ _ c.look_at_timeline.result c.honours_edits.result c.in-Ok.timeline
    c.honours_edits.ensures c.in-Ok.ensures.answers (tour trues))
