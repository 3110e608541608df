use Rattle.std.proofs.Common.{◌<◌, arith}
use Rattle.mp4_source.proofs.WayLemmas.{told-end, told-bad, told-some}
use Rattle.mp4_source.proofs.seek.next_box.Goals as goal

pub returns-then-left-eq0-clause-told : goal.returns-then-left-eq0-clause-told
returns-then-left-eq0-clause-told g c = told-end c.args.name.now c.args.at c.args.left _ c.requires c.if-left-eq0.true

pub returns-in-Ok-None-clause-told : goal.returns-in-Ok-None-clause-told
returns-in-Ok-None-clause-told g c =
    let some : 0 < c.args.left = omega arith in
    told-bad c.args.name.now c.args.at c.args.left _ c.requires some (rw c.in-Ok-None.field-0-is at c.in-Ok-None.ensures.told)

pub returns-in-Ok-Some-clause-told : goal.returns-in-Ok-Some-clause-told
returns-in-Ok-Some-clause-told g c =
    rw c.top_box.ensures (told-some c.args.name.now c.args.at c.args.left _ c.in-Ok-Some.head c.requires (rw c.in-Ok-Some.field-0-is at c.in-Ok-Some.ensures.told))
