use Rattle.std.proofs.Common.{false, refl, ap}
use Rattle.flat_lists.specs.Asked.{asking_view, setup_of}
use Rattle.vod_source.proofs.CallLemmas.{told_with_all}
use Rattle.mp4_flat.proofs.HlsNames.{sequence_put}
use Rattle.mp4_flat.proofs.NameLemmas.{on_mapped}
use Rattle.mp4_flat.proofs.hls_names.push_sequence.Goals as goal

pub returns-in-Ok-push-clause-told : goal.returns-in-Ok-push-clause-told
returns-in-Ok-push-clause-told g c =
    told_with_all (g.S.Store.content c.args.files.now) _ _ c.in-Ok.ensures.told
    (λ known found. sequence_put (setup_of c.args.settings.now c.args.root.now known) (asking_view c.args.asking.now) c.args.sequence c.args.asked c.push_playlist.result c.in-Ok.rows.items _ _ c.args.names.now.items _ _ c.deref.ensures.value found (ap (λ s. s.hls_fmp4) c.settings.view_is)
    c.in-Ok-push.ensures.names c.push_playlist.ensures.names)

pub returns-in-Ok-push-clause-each : goal.returns-in-Ok-push-clause-each
returns-in-Ok-push-clause-each g c =
    on_mapped c.push_playlist.result (λ kept all. kept (c.in-Ok-push.ensures.each false (refl, c.requires.sequence, c.requires.asked) all)) c.push_playlist.ensures.each
