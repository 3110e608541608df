-- The asked tracks of a piece, as views of the metadata of its file show them.
use Rattle.std.proofs.Common.{◌≡◌, Option, Some, None, Ok, Err, refl, sym, ap, ◌∙◌}
use Rattle.std.specs.Prelude.{option_map}
use Rattle.std.specs.Result.{result_ok}
use Rattle.std.proofs.lemmas.Option.{same_Some}
use Rattle.vod_types.specs.declared.tracks.TrackName.{TrackName}
use Rattle.mp4_model.specs.declared.TrackFault.{TrackFault}
use Rattle.mp4_model.specs.GoodTracks.{GoodTrack, track_view}
use Rattle.mp4_model.specs.Movie.{Movie}
use Rattle.vod_meta.specs.Shown.{view_in_file}
use Rattle.vod_meta.proofs.ShownLemmas.{shown-good, shown-faulty}
use Rattle.vod_plan.specs.declared.tracks.AskedTrack.{AskedTrack}
use Rattle.vod_plan.specs.Tracks.{track_in}

module _ (m : Movie) (a : Option AskedTrack) (t : AskedTrack) (is : a ≡ Some t) where
  pub seen_good : (g : GoodTrack) → view_in_file m t.track ≡ Ok g → Some g ≡ track_in m a
  seen_good g e = rw (is, shown-good m t.track g e) refl

  pub seen_faulty : (fault : TrackFault) → view_in_file m t.track ≡ Err fault → None ≡ track_in m a
  seen_faulty fault e = rw is (sym (shown-faulty m t.track fault e))

-- what is found of a track without a fault
pub found_as : {X : Type 0} (f : GoodTrack → X) (m : Movie) (track : TrackName) (g : GoodTrack) (x : X) → Some x ≡ option_map f (result_ok (track_view m.tracks track)) → track_view m.tracks track ≡ Ok g → x ≡ f g
found_as f m track g x found is = same_Some x (f g) (found ∙ ap (λ r. option_map f (result_ok r)) is)
