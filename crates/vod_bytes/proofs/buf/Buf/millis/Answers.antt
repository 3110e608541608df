use Rattle.std.proofs.Common.{append_assoc, refl, ◌/◌}
use Rattle.std.specs.Prelude.{decimal, codes}
use Rattle.vod_bytes.specs.Texts.{millis_text}
use Rattle.vod_bytes.proofs.buf.Buf.millis.Goals as goal

pub returns-clause-ok : goal.returns-clause-ok
unfolding millis_text
returns-clause-ok c =
    rw (c.extend_from_slice-2.ensures.items, c.unwrap-2.ensures, c.extend_from_slice.ensures.items, c.unwrap.ensures)
    (rw (c.reserve.ensures.items, c.self.view_is, c.as_bytes-seconds.ensures.value, c.format.ensures.text)
    (rw (append_assoc (decimal (c.args.ms / 1000)) (codes "."), append_assoc c.args.self.now) refl))
