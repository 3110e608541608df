-- One more, or all.
use Rattle.std.proofs.Common.{◌≡◌, rules, ap₂, ◌∙◌}
use Rattle.std.specs.Prelude.{unwrap_or}
use Rattle.flat_lists.specs.Asked.{asking_view}
use Rattle.seek_lists.proofs.DescriptionLemmas.{text_found}
use Rattle.seek_lists.proofs.description.written.Goals as goal

pub returns-in-Ok-clause-text : goal.returns-in-Ok-clause-text
returns-in-Ok-clause-text g c = λ o fs same of.
    let segment_ms : c.settings.inside.segment_ms ≡ c.args.settings.now.segment_ms = search rules in
    let align : c.settings.inside.align ≡ c.args.settings.now.align = search rules in
    c.in-Ok.ensures
    ∙ text_found o (asking_view c.args.asking.now) fs c.args.looked.now c.args.asking.now.rules c.args.asking.now.from c.args.asking.now.to of c.args.settings.now c.args.grid.now c.settings.inside.align _ c.deref.result.now same c.requires.grid align
    (c.unwrap_or-buffer_ms.ensures ∙ ap₂ unwrap_or c.segment_ms.ensures.value segment_ms) (c.deref.ensures.value ∙ c.in_ok-periods.ensures.periods)
