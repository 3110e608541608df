use Rattle.std.proofs.Common.{◌≡◌, rules}
use Rattle.flat_lists.specs.Asked.{asking_view}
use Rattle.flat_lists.proofs.ListedTimelines.{ok_all}
use Rattle.flat_lists.proofs.PeriodsFound.{few_due}
use Rattle.flat_lists.proofs.found_periods.few_found.Goals as goal

pub returns-clause-periods : goal.returns-clause-periods
returns-clause-periods c =
    let align : c.settings.inside.align ≡ c.args.settings.now.align = search rules in
    ok_all c.periods.result _ _ c.periods.ensures.periods
    (λ found is o fs same of. few_due o (asking_view c.args.asking.now) fs c.args.looked.now c.args.asking.now.rules c.args.asking.now.from c.args.asking.now.to of c.args.settings.now c.args.grid.now c.settings.inside.align found.items same c.requires.grid align is)
