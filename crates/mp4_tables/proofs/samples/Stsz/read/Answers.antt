use Rattle.std.proofs.Common.{sym, arith}
use Rattle.mp4_tables.proofs.Shown.{stsz_shown, stsz_short, stsz_unread}
use Rattle.mp4_tables.proofs.samples.Stsz.read.Goals as goal

pub returns-then-body-lt12 : goal.returns-then-body-lt12
returns-then-body-lt12 c = sym (stsz_short c.args.body.now (omega arith))

pub returns-then-body-be_u32 : goal.returns-then-body-be_u32
returns-then-body-be_u32 c = sym (stsz_unread c.args.body.now (cc) (omega arith))

pub returns : goal.returns
returns c = sym (stsz_shown _)
