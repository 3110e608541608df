use Rattle.std.proofs.Common.{List, ap, ◌∙◌}
use Rattle.list_model.specs.Iframes.{iframe_playlist}
use Rattle.vod_types.specs.declared.paths.Leaf.TheVariants.{Iframes}
use Rattle.vod_types.specs.declared.segments.IframeRow.{IframeRow}
use Rattle.flat_lists.specs.Asked.{asking_view, setup_of}
use Rattle.origin_model.specs.Answers.{sequence_iframes}
use Rattle.vod_source.proofs.CallLemmas.{told_with_all}
use Rattle.mp4_flat.proofs.Leaves.{text_refused, text_written, iframes_are, iframes_sampled, iframes_shown, iframes_text}
use Rattle.mp4_flat.proofs.lists.iframes_answer.Goals as goal

pub returns-in-Err-clause-told : goal.returns-in-Err-clause-told
returns-in-Err-clause-told g c =
    told_with_all (g.S.Store.content c.args.files.now) _ _ c.in-Err.ensures.told
    (λ known came. let o = setup_of c.args.settings.now c.args.root.now known in
    let a = asking_view c.args.asking.now in
    text_refused o a (Iframes c.args.sequence c.args.video) (sequence_iframes o a c.args.sequence c.args.video) (iframes_text o a c.args.sequence c.args.video)
    (iframes_are o a c.args.sequence c.args.video) (iframes_sampled o a c.args.sequence c.args.video) (λ rows. rows.items) c.in-Err.refusal _ _ came)

pub returns-in-Ok-iframe_playlist_of-clause-told : goal.returns-in-Ok-iframe_playlist_of-clause-told
returns-in-Ok-iframe_playlist_of-clause-told g c =
    let text = c.in-Ok-iframe_playlist_of.ensures.text ∙ ap (λ (rows : List IframeRow). iframe_playlist rows c.args.sequence c.args.video) c.deref.ensures.value in
    told_with_all (g.S.Store.content c.args.files.now) _ _ c.in-Ok.ensures.told
    (λ known came. let o = setup_of c.args.settings.now c.args.root.now known in
    let a = asking_view c.args.asking.now in
    text_written o a (Iframes c.args.sequence c.args.video) (sequence_iframes o a c.args.sequence c.args.video) (iframes_text o a c.args.sequence c.args.video)
    (iframes_are o a c.args.sequence c.args.video) (iframes_sampled o a c.args.sequence c.args.video) (λ rows. rows.items) c.in-Ok.rows _ _ _ came (iframes_shown c.in-Ok.rows.items c.in-Ok-iframe_playlist_of.bytes.items c.args.sequence c.args.video text))

pub returns-clause-told : goal.returns-clause-told
returns-clause-told g c =
    told_with_all (g.S.Store.content c.args.files.now) _ _ c.in-Ok.ensures.told
    (λ known came. let o = setup_of c.args.settings.now c.args.root.now known in
    let a = asking_view c.args.asking.now in
    text_written o a (Iframes c.args.sequence c.args.video) (sequence_iframes o a c.args.sequence c.args.video) (iframes_text o a c.args.sequence c.args.video)
    (iframes_are o a c.args.sequence c.args.video) (iframes_sampled o a c.args.sequence c.args.video) (λ rows. rows.items) c.in-Ok.rows _ _ _ came (λ other. absurd (other c.in-Err-iframe_playlist_of.ensures.only)))
