use Rattle.std.proofs.Common.{sym, refl, arith}
use Rattle.std.proofs.lemmas.Bool.{iff_false}
use Rattle.mp4_tables.proofs.Shown.{stco_shown, stco_unread}
use Rattle.mp4_tables.proofs.places.Chunks.read.Goals as goal

pub returns-then-has_entries : goal.returns-then-has_entries
returns-then-has_entries c = sym (stco_shown _ refl)

pub returns-else-has_entries : goal.returns-else-has_entries
returns-else-has_entries c = sym (stco_unread c.args.body.now (omega (arith, iff_false c.has_entries.ensures c.if-has_entries.false)))
