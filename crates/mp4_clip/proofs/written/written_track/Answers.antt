-- The track of the range, as its file's metadata show it.
use Rattle.std.proofs.Common.{rules, ◌≡◌, ℕ, List, sym, ap, ◌∙◌, subst}
use Rattle.vod_types.specs.declared.segments.Row.{Row}
use Rattle.mp4_model.specs.GoodTracks.{GoodTrack}
use Rattle.mp4_tracks.specs.Views.{good_of}
use Rattle.media_model.specs.Clip.{ClipTrack}
use Rattle.media_model.specs.InitSegment.{IsEntry}
use Rattle.mp4_clip.proofs.ClipRows.{small-some, track-some}
use Rattle.mp4_clip.proofs.FirstRows.{has-range}
use Rattle.mp4_clip.proofs.TrackLemmas.{track-shown}
use Rattle.mp4_clip.proofs.written.written_track.Goals as goal

of_track : GoodTrack → List Row → ClipTrack
of_track t rows = record { entry = t.entry; width = t.width; height = t.height; rows = rows }

track_is : goal.returns-in_ok-written_rows-in-Ok-clause-track
unfolding of_track
track_is c =
    let kind = c.args.kind in
    let p = c.args.rows.now in
    let view = c.in-Ok.view in
    let rows : List Row = c.in_ok-written_rows-in-Ok.field-0.items in
    let has = has-range kind p c.requires.rows (sym c.has.ensures ∙ c.if-not-has.false) in
    let entry : c.in_ok-to_vec-in-Ok.field-0.items ≡ view.entry.now = search rules in
    let is = track-shown kind p c.range.result has.range c.deref.result.now c.range.ensures.span has.is c.deref.ensures (good_of view) c.in-Ok.ensures.view.0 in
    ap (λ (entry : List ℕ). let t : ClipTrack = record { entry = entry; width = view.width; height = view.height; rows = rows } in t) entry
    ∙ ap (λ (t : GoodTrack). of_track t rows) is
    ∙ ap (of_track has.range.track) c.in_ok-written_rows-in-Ok.ensures
    ∙ sym (track-some kind p has.range has.is)

pub returns-in_ok-written_rows-in-Ok-clause-track : goal.returns-in_ok-written_rows-in-Ok-clause-track
returns-in_ok-written_rows-in-Ok-clause-track c = track_is c

pub returns-in_ok-written_rows-in-Ok-clause-small : goal.returns-in_ok-written_rows-in-Ok-clause-small
returns-in_ok-written_rows-in-Ok-clause-small c =
    let kind = c.args.kind in
    let p = c.args.rows.now in
    let has = has-range kind p c.requires.rows (sym c.has.ensures ∙ c.if-not-has.false) in
    let entry : c.in_ok-to_vec-in-Ok.field-0.items ≡ c.in-Ok.view.entry.now = search rules in
    small-some kind p _ has.range has.is c.requires.rows c.requires.kept c.requires.few (track_is c) (subst IsEntry (sym entry) c.in-Ok.ensures.entry)
