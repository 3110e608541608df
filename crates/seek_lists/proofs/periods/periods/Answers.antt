-- One more, or all.
use Rattle.std.proofs.Common.{List, map, ap, ◌∙◌}
use Rattle.std.specs.List.{enumerate_from}
use Rattle.clip_model.specs.declared.Part.{Part}
use Rattle.seek_lists.specs.Looked.{sequence_seen}
use Rattle.flat_lists.specs.Written.{period_seen}
use Rattle.flat_lists.proofs.ListedTimelines.{ok_all}
use Rattle.seek_lists.proofs.PeriodLemmas.{first_are}
use Rattle.seek_lists.proofs.periods.periods.Goals as goal

pub returns-in-Some-clause-periods : goal.returns-in-Some-clause-periods
returns-in-Some-clause-periods g c =
    ok_all c.periods_of.result _ _ c.periods_of.ensures.periods
    (λ periods is.
    is
    ∙ ap (λ (parts : List Part). map (period_seen c.args.writing.mapping.now c.args.writing.grid.now c.args.writing.align (map sequence_seen c.args.looked.now)) (enumerate_from 0 parts))
    (first_are c.args.looked.now c.in-Some.first.now c.in-Some.field-0-1.now c.deref.result.now c.in-Some.ensures.cases.0 c.deref.ensures.value))
