-- The entry is that of the track of the range.
use Rattle.std.proofs.Common.{length, Option, sym, ap, ◌∙◌}
use Rattle.std.specs.Prelude.{option_map}
use Rattle.mp4_model.specs.GoodTracks.{GoodTrack}
use Rattle.mp4_tracks.specs.Views.{good_of}
use Rattle.origin_model.specs.Clips.{clip_track}
use Rattle.vod_plan.specs.Ranges.{RowRange}
use Rattle.mp4_clip.specs.Kept.{kept_rows}
use Rattle.mp4_clip.proofs.FirstRows.{range-of-rows}
use Rattle.mp4_clip.proofs.TrackLemmas.{track-shown, track-there}
use Rattle.mp4_clip.proofs.sizes.entry_size.Goals as goal

pub returns-in-Ok : goal.returns-in-Ok
returns-in-Ok c =
    let p = c.args.rows.now in
    let has = range-of-rows c.args.kind p c.requires.rows c.requires.some in
    let is = track-shown c.args.kind p c.range.result has.range c.deref.result.now c.range.ensures.span has.is c.deref.ensures (good_of c.in-Ok.view) c.in-Ok.ensures.view.0 in
    ap (λ (t : GoodTrack). length t.entry) is
    ∙ sym (ap (λ (o : Option RowRange). length (clip_track (option_map (λ r. r.track) o) (kept_rows c.args.kind p)).entry) has.is)

pub returns-in-Err : goal.returns-in-Err
returns-in-Err c =
    let p = c.args.rows.now in
    let has = range-of-rows c.args.kind p c.requires.rows c.requires.some in
    absurd (track-there c.args.kind p c.range.result has.range c.deref.result.now c.range.ensures.span has.is c.deref.ensures c.in-Err.field-0 c.in-Err.ensures.view)
