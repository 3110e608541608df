use Rattle.std.proofs.Common.{refl}
use Rattle.media_model.specs.Clip.{track_box}
use Rattle.flat_clip.proofs.tracks.put_track.Goals as goal

pub returns : goal.returns
unfolding track_box
returns c =
    rw (c.in_ok-put_box.ensures, c.deref-4.ensures.value, c.into_vec-inside.ensures, c.in_ok-put_media.ensures, c.in_ok-put_edits.ensures, c.in_ok-put_track_header.ensures, c.track_duration.ensures.duration, c.begins_after-after.ensures.after, c.shown_duration-shown.ensures, c.deref.ensures.value, c.deref-2.ensures.value, c.deref-3.ensures.value, c.new-inside.ensures) refl
