use Rattle.std.proofs.Common.{◌≡◌, ◌*◌, ◌^◌, ◌<◌, ◌≤◌, length, map, take}
use Rattle.std.specs.Prelude.{sum_by}
use Rattle.segment_model.specs.Listing.{listed_view}
use Rattle.vod_app.specs.Rehearsals.{listed_samples}
use Rattle.vod_app.proofs.rehearsals.samples_of.Given as goal

abbrev pub invariant-loop-row : goal.invariant-loop-row
invariant-loop-row l = record {
  samples : l.samples ≡ sum_by listed_samples (map listed_view (take l.row-index l.rows));
  few : l.samples ≤ l.row-index * 2 ^ 65;
  short : length l.rows < 2 ^ 63;
}
