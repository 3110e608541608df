-- The reply gives the answer by the listed rows, or why there are none.
use Rattle.std.proofs.Common.{List, map, None, Err, ap, arith, ◌∙◌}
use Rattle.vod_types.specs.declared.segments.Listed.{Listed}
use Rattle.vod_types.specs.Settled.{Settled}
use Rattle.list_model.specs.Playlist.{media_playlist}
use Rattle.vod_source.proofs.CallLemmas.{told_with_all, told_with_other}
use Rattle.flat_lists.specs.Asked.{setup_of}
use Rattle.vod_origin.proofs.ListLemmas.{list_untimed, listed_with, unlisted}
use Rattle.vod_origin.proofs.MadeLemmas.{answered_begins, answered_replied}
use Rattle.vod_origin.proofs.ReplyLemmas.{refused}
use Rattle.vod_source.proofs.CallLemmas.{told_with_both}
use Rattle.vod_origin.specs.Wanted.{cut_view}
use Rattle.vod_origin.proofs.SoughtReads.{told_pair}
use Rattle.vod_origin.proofs.ListReads.{index_looked}
use Rattle.vod_origin.proofs.MadeReads.{reads_of_made, reads_of_refused, reads_of_unfound, reads_of_unmade}
use Rattle.vod_origin.proofs.lists.playlist_reply.Goals as goal

pub returns-in-Err-clause-replies : goal.returns-in-Err-clause-replies
returns-in-Err-clause-replies g c =
    refused c.args.settings.now c.args.root.now c.args.ask (g.S.Store.content c.args.store.now) _ _ c.in-Err.refusal c.in-Err.ensures.refused (λ failed. c.in-Err.ensures.store_failed (ap Err failed))
    (told_with_all (g.S.Store.content c.args.store.now) _ _ c.in-Err.ensures.told
    (λ files is known_memory known_store. list_untimed (setup_of c.args.settings.now c.args.root.now files) c.args.ask c.args.sequence c.args.asked c.requires.leaf c.in-Err.refusal (is known_memory known_store)))

pub returns-in-Err-listed-clause-replies : goal.returns-in-Err-listed-clause-replies
returns-in-Err-listed-clause-replies g c =
    refused c.args.settings.now c.args.root.now c.args.ask (g.S.Store.content c.args.store.now) _ _ c.in-Err-listed.refusal c.in-Err-listed.ensures.refused
    (λ failed. let rose = c.in-Err-listed.ensures.store_failed (ap Err failed) in omega (arith, rose, c.in-Ok.ensures.later))
    (told_with_other (g.S.Store.content c.args.store.now) _ _ _ _ c.in-Ok.ensures.content c.in-Ok.ensures.told c.in-Err-listed.ensures.told
    (λ files is due known_memory known_store. unlisted (setup_of c.args.settings.now c.args.root.now files) c.args.ask c.args.sequence c.args.asked c.requires.leaf _ _ c.in-Err-listed.refusal is (due known_memory known_store)))

pub returns-in-Ok-playlist_of-clause-replies : goal.returns-in-Ok-playlist_of-clause-replies
returns-in-Ok-playlist_of-clause-replies g c =
    answered_replied c.args.settings.now c.args.root.now c.args.ask (g.S.Store.content c.args.store.now) (record { bytes = c.in-Ok-playlist_of.bytes; cut = None })
    (told_with_other (g.S.Store.content c.args.store.now) _ _ _ _ c.in-Ok.ensures.content c.in-Ok.ensures.told c.in-Ok-listed.ensures.told
    (λ files is due. listed_with (setup_of c.args.settings.now c.args.root.now files) c.args.ask c.args.sequence c.args.asked c.requires.leaf _ _ c.in-Ok-listed.listed.items c.in-Ok-playlist_of.bytes.items is due
    (c.in-Ok-playlist_of.ensures.text
    ∙ ap (λ (ls : List Listed). media_playlist (map (λ l. l.row) ls) c.args.sequence c.args.asked c.settings.inside.hls_fmp4) c.deref.ensures.value
    ∙ ap (λ (s : Settled). media_playlist (map (λ l. l.row) c.in-Ok-listed.listed.items) c.args.sequence c.args.asked s.hls_fmp4) c.settings.view_is)))
    _ _ c.begun.result c.begun.ensures

pub returns-in-Ok-playlist_of-clause-begins : goal.returns-in-Ok-playlist_of-clause-begins
returns-in-Ok-playlist_of-clause-begins g c =
    answered_begins c.args.settings.now c.args.root.now c.args.ask (g.S.Store.content c.args.store.now) (record { bytes = c.in-Ok-playlist_of.bytes; cut = None })
    (told_with_other (g.S.Store.content c.args.store.now) _ _ _ _ c.in-Ok.ensures.content c.in-Ok.ensures.told c.in-Ok-listed.ensures.told
    (λ files is due. listed_with (setup_of c.args.settings.now c.args.root.now files) c.args.ask c.args.sequence c.args.asked c.requires.leaf _ _ c.in-Ok-listed.listed.items c.in-Ok-playlist_of.bytes.items is due
    (c.in-Ok-playlist_of.ensures.text
    ∙ ap (λ (ls : List Listed). media_playlist (map (λ l. l.row) ls) c.args.sequence c.args.asked c.settings.inside.hls_fmp4) c.deref.ensures.value
    ∙ ap (λ (s : Settled). media_playlist (map (λ l. l.row) c.in-Ok-listed.listed.items) c.args.sequence c.args.asked s.hls_fmp4) c.settings.view_is)))
    c.begun.result c.begun.ensures

pub returns-in-Err-clause-reads : goal.returns-in-Err-clause-reads
returns-in-Err-clause-reads g c = λ head_only range.
    told_with_both (g.S.Store.content c.args.store.now) _ _ _ c.in-Err.ensures.told c.in-Err.ensures.logged
    (λ files due logged. reads_of_unfound (setup_of c.args.settings.now c.args.root.now files) head_only range c.args.ask (index_looked (setup_of c.args.settings.now c.args.root.now files) c.args.ask.leaf c.args.sequence c.args.asked c.requires.leaf) _ _ _ c.in-Err.refusal due logged)

pub returns-in-Err-listed-clause-reads : goal.returns-in-Err-listed-clause-reads
returns-in-Err-listed-clause-reads g c = λ head_only range.
    told_with_other (g.S.Store.content c.args.store.now) _ _ _ _ c.in-Ok.ensures.content
    (told_pair (g.S.Store.content c.args.store.now) _ _ c.in-Ok.ensures.told c.in-Ok.ensures.logged) c.in-Err-listed.ensures.turned
    (λ files cut turned.
    reads_of_refused (setup_of c.args.settings.now c.args.root.now files) head_only range c.args.ask (index_looked (setup_of c.args.settings.now c.args.root.now files) c.args.ask.leaf c.args.sequence c.args.asked c.requires.leaf) (cut_view files c.in-Ok.cut) cut.0 _ _ _ _ _ cut.1 c.in-Err-listed.refusal turned)

pub returns-in-Ok-playlist_of-clause-reads : goal.returns-in-Ok-playlist_of-clause-reads
returns-in-Ok-playlist_of-clause-reads g c = λ head_only range.
    told_with_other (g.S.Store.content c.args.store.now) _ _ _ _ c.in-Ok.ensures.content
    (told_pair (g.S.Store.content c.args.store.now) _ _ c.in-Ok.ensures.told c.in-Ok.ensures.logged) c.in-Ok-listed.ensures.turned
    (λ files cut turned.
    reads_of_made (setup_of c.args.settings.now c.args.root.now files) head_only range c.args.ask (index_looked (setup_of c.args.settings.now c.args.root.now files) c.args.ask.leaf c.args.sequence c.args.asked c.requires.leaf) (cut_view files c.in-Ok.cut) cut.0 _ _ _ _ _ cut.1
    c.in-Ok-listed.listed turned _ _ c.begun.result c.begun.ensures)

pub returns-clause-reads : goal.returns-clause-reads
returns-clause-reads g c = λ head_only range.
    told_with_other (g.S.Store.content c.args.store.now) _ _ _ _ c.in-Ok.ensures.content
    (told_pair (g.S.Store.content c.args.store.now) _ _ c.in-Ok.ensures.told c.in-Ok.ensures.logged) c.in-Ok-listed.ensures.turned
    (λ files cut turned.
    reads_of_unmade (setup_of c.args.settings.now c.args.root.now files) head_only range c.args.ask (index_looked (setup_of c.args.settings.now c.args.root.now files) c.args.ask.leaf c.args.sequence c.args.asked c.requires.leaf) (cut_view files c.in-Ok.cut) cut.0 _ _ _ _ _ cut.1
    c.in-Ok-listed.listed turned c.in-Err-playlist_of.refusal c.in-Err-playlist_of.ensures.only)
