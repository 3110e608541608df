-- The timeline of the sequence, or none.
use Rattle.vod_source.proofs.CallLemmas.{told_all, told_with_all}
use Rattle.flat_lists.specs.Asked.{asking_view, setup_of}
use Rattle.vod_meta.specs.Held.{names_held}
use Rattle.seek_lists.proofs.SequenceLemmas.{sequence_found_by, sequence_refused}
use Rattle.seek_lists.proofs.looked_sequences.look_at_sequence.Goals as goal

pub returns-in-Err-clause-told : goal.returns-in-Err-clause-told
returns-in-Err-clause-told g c =
    told_all (g.S.Store.content c.args.store.now) _
    (λ known. sequence_refused (setup_of c.args.settings.now c.args.root.now known) (asking_view c.args.asking.now) c.args.number (names_held c.args.metas.now) (names_held c.args.metas.now) (g.S.Store.log c.args.store.now) (g.S.Store.log c.args.store.now) c.in-Err.refusal c.in-Err.ensures.answers)

pub returns-in-Ok-clause-told : goal.returns-in-Ok-clause-told
returns-in-Ok-clause-told g c =
    told_with_all (g.S.Store.content c.args.store.now) _ _ c.look_at_timeline.ensures.told
    (λ known tour. sequence_found_by (setup_of c.args.settings.now c.args.root.now known) (asking_view c.args.asking.now) c.args.number (names_held c.args.metas.now) _ _ _ c.look_at_timeline.result c.honours_edits.result c.in-Ok.timeline
    c.honours_edits.ensures c.in-Ok.ensures.answers tour)
