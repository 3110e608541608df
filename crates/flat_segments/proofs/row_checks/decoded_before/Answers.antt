use Rattle.flat_segments.proofs.PlacedRows.{placed_at}
use Rattle.flat_segments.proofs.row_checks.decoded_before.Goals as goal

pub decode_time-requires : goal.decode_time-requires
decode_time-requires c = placed_at c.args.samples.now c.requires c.loop-place.place c.loop-place-test.true
