use Rattle.std.proofs.Common.{Global, Vec, refl, sym, subst}
use Rattle.vod_source.proofs.CallLemmas.{told_with_all}
use Rattle.flat_lists.specs.Asked.{asking_view, setup_of}
use Rattle.flat_lists.specs.Described.{AreFound}
use Rattle.flat_lists.specs.declared.looked_sequences.LookedSequence.{LookedSequence}
use Rattle.flat_lists.proofs.PeriodsDue.{periods_refused, periods_taken}
use Rattle.flat_lists.proofs.LookedLemmas.{not_failed_by}
use Rattle.flat_lists.proofs.found_periods.presentation_periods.Goals as goal

pub returns-in-Ok-clause-told : goal.returns-in-Ok-clause-told
returns-in-Ok-clause-told g c =
    told_with_all (g.S.Store.content c.args.files.now) _ _ c.in-Ok.ensures.told
    (λ known looked.
    let o = setup_of c.args.settings.now c.args.root.now known in
    let a = asking_view c.args.asking.now in
    periods_taken o a (λ ss. ss.items) _ _ (λ found. found.items) c.in-Ok.looked c.found_in.result looked
    (λ fs found. c.found_in.ensures.periods o fs refl (subst (λ ss. AreFound o a fs ss) (sym c.deref.ensures.value) found)))

pub returns-in-Ok-clause-store_failed : goal.returns-in-Ok-clause-store_failed
returns-in-Ok-clause-store_failed g c = λ failed. absurd (not_failed_by c.found_in.result c.found_in.ensures.not_failed failed)

pub returns-in-Err-clause-told : goal.returns-in-Err-clause-told
returns-in-Err-clause-told g c =
    told_with_all (g.S.Store.content c.args.files.now) _ _ c.in-Err.ensures.told
    (λ known looked. periods_refused (setup_of c.args.settings.now c.args.root.now known) (asking_view c.args.asking.now) (λ (ss : Vec LookedSequence Global). ss.items) _ _ c.in-Err.refusal looked)
