use Rattle.std.proofs.Common.{rules, w64}
use Rattle.std.proofs.lemmas.Int.{to_z-of_z}
use Rattle.flat_segments.proofs.RowFaults.{back_is}
use Rattle.flat_segments.proofs.row_checks.is_backward.Goals as goal

pub returns-in-Ts : goal.returns-in-Ts
returns-in-Ts c = λ kind.
    rw (to_z-of_z w64 c.args.sample.now.presentation (search rules), to_z-of_z w64 c.decode_time.result (search rules), c.decode_time.ensures) (back_is c.args.form c.args.sample.now kind c.in-Ts.is)
