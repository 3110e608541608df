use Rattle.std.proofs.Common.{List, map, ap, ◌∙◌}
use Rattle.list_model.specs.Playlist.{media_playlist}
use Rattle.vod_types.specs.declared.paths.Leaf.TheVariants.{Index}
use Rattle.vod_types.specs.declared.segments.Listed.{Listed}
use Rattle.flat_lists.specs.Asked.{asking_view, setup_of}
use Rattle.segment_model.specs.Listing.{listed_view}
use Rattle.origin_model.specs.Lists.{listed_segments}
use Rattle.vod_source.proofs.CallLemmas.{told_with_all}
use Rattle.mp4_flat.proofs.Leaves.{text_refused, text_written, index_is, index_sampled, index_text, playlist_shown}
use Rattle.mp4_flat.proofs.lists.index_answer.Goals as goal

pub returns-in-Err-clause-told : goal.returns-in-Err-clause-told
returns-in-Err-clause-told g c =
    told_with_all (g.S.Store.content c.args.files.now) _ _ c.in-Err.ensures.told
    (λ known came. let o = setup_of c.args.settings.now c.args.root.now known in
    let a = asking_view c.args.asking.now in
    text_refused o a (Index c.args.sequence c.args.asked) (listed_segments o a c.args.sequence c.args.asked) (index_text o a c.args.sequence c.args.asked)
    (index_is o a c.args.sequence c.args.asked) (index_sampled o a c.args.sequence c.args.asked) (λ rows. map listed_view rows.items) c.in-Err.refusal _ _ came)

pub returns-in-Ok-playlist_of-clause-told : goal.returns-in-Ok-playlist_of-clause-told
returns-in-Ok-playlist_of-clause-told g c =
    let text = c.in-Ok-playlist_of.ensures.text ∙ ap (λ (ls : List Listed). media_playlist (map (λ l. l.row) ls) c.args.sequence c.args.asked c.settings.inside.hls_fmp4) c.deref.ensures.value in
    told_with_all (g.S.Store.content c.args.files.now) _ _ c.in-Ok.ensures.told
    (λ known came. let o = setup_of c.args.settings.now c.args.root.now known in
    let a = asking_view c.args.asking.now in
    text_written o a (Index c.args.sequence c.args.asked) (listed_segments o a c.args.sequence c.args.asked) (index_text o a c.args.sequence c.args.asked)
    (index_is o a c.args.sequence c.args.asked) (index_sampled o a c.args.sequence c.args.asked) (λ rows. map listed_view rows.items) c.in-Ok.rows _ _ _ came
    (playlist_shown c.in-Ok.rows.items c.in-Ok-playlist_of.bytes.items c.args.sequence c.args.asked _ _ text (ap (λ s. s.hls_fmp4) c.settings.view_is)))

pub returns-clause-told : goal.returns-clause-told
returns-clause-told g c =
    told_with_all (g.S.Store.content c.args.files.now) _ _ c.in-Ok.ensures.told
    (λ known came. let o = setup_of c.args.settings.now c.args.root.now known in
    let a = asking_view c.args.asking.now in
    text_written o a (Index c.args.sequence c.args.asked) (listed_segments o a c.args.sequence c.args.asked) (index_text o a c.args.sequence c.args.asked)
    (index_is o a c.args.sequence c.args.asked) (index_sampled o a c.args.sequence c.args.asked) (λ rows. map listed_view rows.items) c.in-Ok.rows _ _ _ came
    (λ other. absurd (other c.in-Err-playlist_of.ensures.only)))
