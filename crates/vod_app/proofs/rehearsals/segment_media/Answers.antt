use Rattle.std.proofs.Common.{List, ℕ, ◌-◌, None, ap, ap₂, ◌∙◌}
use Rattle.vod_app.specs.Rehearsals.{answer_length}
use Rattle.vod_app.proofs.rehearsals.segment_media.Goals as goal

pub returns-clause-media : goal.returns-clause-media
returns-clause-media g c =
    λ answers told. c.saturating_sub.ensures
    ∙ ap₂ (λ a b. a - b)
    (c.from.ensures ∙ c.in_ok-length.ensures.length answers told ∙ ap (λ (path : List ℕ). answer_length (answers path None)) (c.deref.ensures ∙ c.in_ok-path.ensures))
    c.front_of.ensures
