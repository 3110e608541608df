use Rattle.std.proofs.Common.{◌≡◌}
use Rattle.flat_samples.specs.Rows.{timed_view, IsPlacedRow}
use Rattle.flat_clip.proofs.PieceLemmas.{shown-at}
use Rattle.flat_clip.proofs.rows.written.Goals as goal

pub clip_sample-requires-clause-placed : goal.clip_sample-requires-clause-placed
clip_sample-requires-clause-placed c = shown-at IsPlacedRow timed_view c.args.samples.now c.loop-sample.sample-index _ c.loop-sample-test.true c.requires.placed

pub clip_sample-requires-clause-first : goal.clip_sample-requires-clause-first
clip_sample-requires-clause-first c = shown-at (λ r. r.file ≡ 0) timed_view c.args.samples.now c.loop-sample.sample-index _ c.loop-sample-test.true c.requires.first
