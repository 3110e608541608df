use Rattle.std.proofs.Common.{Global}
use Rattle.std.specs.Prelude.{string_bytes}
use Rattle.vod_app.proofs.RehearsalLemmas.{line_made, line_refused}
use Rattle.vod_app.proofs.rehearsals.rehearsal.Goals as goal

pub returns-in-Ok-listed_rows : goal.returns-in-Ok-listed_rows
returns-in-Ok-listed_rows c =
    line_made c.args.n c.in-Ok.store.files (string_bytes {Z = Global}) c.in-Ok.ensures.film c.listed_rows.new.store.files c.in-Ok-listed_rows.ensures.files c.in-Ok-listed_rows.rows.items c.deref.result.now c.counted.result c.in-Ok-listed_rows.ensures.rows c.deref.ensures.value
    c.counted.ensures.line c.counted.ensures.only

pub returns-in-Err-listed_rows : goal.returns-in-Err-listed_rows
returns-in-Err-listed_rows c = λ memory store. (
  c.in-Ok.store.files,
  c.in-Ok.ensures.film,
  line_refused c.args.n c.in-Ok.store.files c.in-Err-listed_rows.refusal (c.in-Err-listed_rows.ensures.rows memory store),
)
