use Rattle.flat_clip.proofs.PlacedLemmas.{placed-step, rows_left, sizes-step}
use Rattle.flat_clip.proofs.placed.placed_samples.Goals as goal

pub loop-row-preserved : goal.loop-row-preserved
loop-row-preserved c =
    let left = rows_left c.args.video.now c.loop-row.row-index c.row-item.result c.loop-row-test.true c.row-item.is in
    record {
      samples = placed-step c.args.video.now c.loop-row.left.now c.loop-row.row-index c.row-item.result c.split_at.result.0.now c.split_at.result.1.now c.audio_before.result _ _ _ _ _ _ _
          left c.audio_before.ensures.count c.split_at.ensures.front c.split_at.ensures.back c.loop-row.invariant.samples
          c.in_ok-add_all.ensures.samples c.in_ok-add_all.ensures.place c.in_ok-add.ensures.samples c.in_ok-add.ensures.place;
      place = sizes-step c.args.video.now c.loop-row.left.now c.loop-row.row-index c.row-item.result c.split_at.result.0.now c.split_at.result.1.now c.audio_before.result _ _ _ _
          left c.split_at.ensures.front c.split_at.ensures.back c.loop-row.invariant.place c.in_ok-add_all.ensures.place c.in_ok-add.ensures.place;
    }
