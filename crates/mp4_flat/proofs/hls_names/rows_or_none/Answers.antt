use Rattle.std.proofs.Common.{List, map, All, IfOk, subst, sym, ◌∙◌}
use Rattle.std.proofs.lemmas.List.Elements.{All-map}
use Rattle.vod_types.specs.declared.segments.SegmentRow.{SegmentRow}
use Rattle.list_model.specs.Playlist.{HasRowNumbers}
use Rattle.flat_lists.specs.Asked.{asking_view, setup_of}
use Rattle.vod_source.proofs.CallLemmas.{told_with_all}
use Rattle.mp4_flat.proofs.HlsNames.{no_rows_found, rows_found}
use Rattle.mp4_flat.proofs.NameLemmas.{rows_numbered}
use Rattle.mp4_flat.proofs.hls_names.rows_or_none.Goals as goal

pub returns-in-Ok-clause-told : goal.returns-in-Ok-clause-told
returns-in-Ok-clause-told g c =
    told_with_all (g.S.Store.content c.args.files.now) _ _ c.in-Ok.ensures.told
    (λ known came. rows_found (setup_of c.args.settings.now c.args.root.now known) (asking_view c.args.asking.now) (λ rows. rows.items) c.args.sequence c.args.asked c.rows_of.result c.in-Ok.listed.items _ c.deref.ensures.value came.answered c.rows_of.ensures.rows)

pub returns-in-Ok-clause-parts : goal.returns-in-Ok-clause-parts
returns-in-Ok-clause-parts g c = rows_numbered (λ rows. rows.items) c.rows_of.result c.in-Ok.listed.items _ c.deref.ensures.value c.in-Ok.ensures.parts c.rows_of.ensures.rows

pub returns-else-has_failed-clause-told : goal.returns-else-has_failed-clause-told
returns-else-has_failed-clause-told g c =
    told_with_all (g.S.Store.content c.args.files.now) _ _ c.in-Err.ensures.told
    (λ known came. no_rows_found (setup_of c.args.settings.now c.args.root.now known) (asking_view c.args.asking.now) c.args.sequence c.args.asked c.in-Err.refusal _ c.new.ensures.items
    (came.answered (c.has_failed.ensures.memory c.if-has_failed.false) (c.has_failed.ensures.store c.if-has_failed.false)))
