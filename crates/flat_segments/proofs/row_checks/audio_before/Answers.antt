use Rattle.std.proofs.Common.{rules, FitsSigned, w64}
use Rattle.std.proofs.lemmas.Int.{to_z-of_z}
use Rattle.flat_segments.proofs.PlacedRows.{rows_before_is}
use Rattle.flat_segments.proofs.row_checks.audio_before.Goals as goal

pub returns-in-Ts-clause-count : goal.returns-in-Ts-clause-count
returns-in-Ts-clause-count c =
    let fits : FitsSigned w64 c.decode_time.result = search rules in
    rows_before_is c.args.form c.args.video.now c.args.left.now c.decode_time.result c.decoded_before.result c.in-Ts.is c.decode_time.ensures (simp to_z-of_z at c.decoded_before.ensures.count)
