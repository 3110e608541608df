-- What is left of the list exposes the track under the number that is left.
use Rattle.std.proofs.Common.{◌≡◌, ◌<◌, drop}
use Rattle.std.specs.Prelude.{filter}
use Rattle.vod_types.specs.Lists.{nth_from_one}
use Rattle.vod_plan.specs.Tracks.{shown_in}
use Rattle.vod_plan.proofs.tracks.exposed.Given as goal

abbrev pub invariant-loop-track : goal.invariant-loop-track
invariant-loop-track l = record {
  some : 0 < l.left;
  same : nth_from_one (filter (shown_in l.meta.movie l.asked.kind) (drop l.track-index l.listed)) l.left ≡ nth_from_one (filter (shown_in l.meta.movie l.asked.kind) l.listed) l.asked.number;
}
