use Rattle.mp4_source.proofs.HeaderLemmas.{found_fits, told_header, told_no_room}
use Rattle.mp4_source.proofs.seek.read_header.Goals as goal

pub returns-then-left-lt8-clause-told : goal.returns-then-left-lt8-clause-told
returns-then-left-lt8-clause-told g c = told_no_room c.args.name.now c.args.at c.args.left _ c.if-left-lt8.true

pub returns-in-Ok-clause-told : goal.returns-in-Ok-clause-told
returns-in-Ok-clause-told g c =
    told_header c.args.name.now c.args.at c.args.left _ c.min.result _ _ c.requires c.min.ensures c.in-Ok.ensures.told c.header.ensures

pub returns-in-Ok-clause-fits : goal.returns-in-Ok-clause-fits
returns-in-Ok-clause-fits g c = found_fits _ _ _ c.header.ensures
