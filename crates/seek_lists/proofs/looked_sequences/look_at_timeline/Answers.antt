-- The parts of the timeline.
use Rattle.std.proofs.Common.{refl}
use Rattle.vod_source.proofs.CallLemmas.{told_with_all}
use Rattle.vod_meta.specs.Held.{names_held}
use Rattle.seek_lists.proofs.SequenceLemmas.{timeline_err, timeline_ok}
use Rattle.seek_lists.proofs.looked_sequences.look_at_timeline.Goals as goal

pub returns-in-Ok-clause-told : goal.returns-in-Ok-clause-told
returns-in-Ok-clause-told g c =
    told_with_all (g.S.Store.content c.args.store.now) _ _ c.in-Ok.ensures.told
    (λ known tour. timeline_ok (λ ps. ps.items) known c.args.looking.edits c.args.looking.mapping.now c.args.looking.sequence c.args.timeline.now (names_held c.args.metas.now) _ _ _ c.in-Ok.parts
    (record { number = c.args.looking.sequence; parts = c.in-Ok.parts }) refl tour)

pub returns-in-Err-clause-told : goal.returns-in-Err-clause-told
returns-in-Err-clause-told g c =
    told_with_all (g.S.Store.content c.args.store.now) _ _ c.in-Err.ensures.told
    (λ known tour. timeline_err (λ ps. ps.items) known c.args.looking.edits c.args.looking.mapping.now c.args.looking.sequence c.args.timeline.now (names_held c.args.metas.now) _ _ _ c.in-Err.refusal tour)
