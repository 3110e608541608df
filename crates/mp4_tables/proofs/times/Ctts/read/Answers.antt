use Rattle.std.proofs.Common.{sym, arith}
use Rattle.std.proofs.lemmas.Bool.{iff_false}
use Rattle.mp4_tables.proofs.Shown.{ctts_shown, ctts_unread, ctts_unknown}
use Rattle.mp4_tables.proofs.times.Ctts.read.Goals as goal
use Rattle.mp4_tables.proofs.times.Ctts.read.Goals.{else-has_entries-via-then-has_entries+else-body-le1, else-has_entries-via-else-has_entries}

pub returns-then-body-le1 : goal.returns-then-body-le1
returns-then-body-le1 c = sym (ctts_shown _)

pub returns-else-has_entries : goal.returns-else-has_entries
returns-else-has_entries c =
    elim c.else-has_entries.branch [
      | else-has_entries-via-then-has_entries+else-body-le1 w ↦ sym (ctts_unknown c.args.body.now (omega arith))
      | else-has_entries-via-else-has_entries w ↦ sym (ctts_unread c.args.body.now (omega (arith, iff_false c.has_entries.ensures w.if-has_entries.false)))
    ]
