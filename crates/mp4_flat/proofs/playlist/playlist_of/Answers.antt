use Rattle.std.proofs.Common.{All, List, subst, sym, ◌∙◌}
use Rattle.std.proofs.lemmas.List.Elements.{All-map}
use Rattle.vod_types.specs.declared.segments.SegmentRow.{SegmentRow}
use Rattle.list_model.specs.Playlist.{HasRowNumbers}
use Rattle.mp4_flat.proofs.playlist.playlist_of.Goals as goal

pub media-requires-clause-rows : goal.media-requires-clause-rows
media-requires-clause-rows c =
    subst (λ (rows : List SegmentRow). All HasRowNumbers rows) (sym (c.deref.ensures.value ∙ c.in-Ok.ensures.rows)) (All-map HasRowNumbers (λ l. l.row) c.args.listed.now c.requires.parts)
