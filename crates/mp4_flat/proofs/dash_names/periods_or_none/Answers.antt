use Rattle.origin_model.specs.Lists.{periods}
use Rattle.flat_lists.specs.Asked.{asking_view, setup_of}
use Rattle.vod_source.proofs.CallLemmas.{told_with_all}
use Rattle.mp4_flat.proofs.PackedPaths.{found_or_none, none_found}
use Rattle.mp4_flat.proofs.dash_names.periods_or_none.Goals as goal

pub returns-in-Ok-clause-told : goal.returns-in-Ok-clause-told
returns-in-Ok-clause-told g c =
    told_with_all (g.S.Store.content c.args.files.now) _ _ c.in-Ok.ensures.told
    (λ known answered. found_or_none (λ found. found.items) c.in-Ok.periods (periods (setup_of c.args.settings.now c.args.root.now known) (asking_view c.args.asking.now)) answered)

pub returns-else-has_failed-clause-told : goal.returns-else-has_failed-clause-told
returns-else-has_failed-clause-told g c =
    told_with_all (g.S.Store.content c.args.files.now) _ _ c.in-Err.ensures.told
    (λ known answered. none_found c.in-Err.refusal (periods (setup_of c.args.settings.now c.args.root.now known) (asking_view c.args.asking.now)) _ c.new.ensures.items
    (answered (c.has_failed.ensures.memory c.if-has_failed.false) (c.has_failed.ensures.store c.if-has_failed.false)))
