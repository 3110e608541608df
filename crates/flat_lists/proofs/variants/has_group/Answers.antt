use Rattle.std.proofs.Common.{true, false, is_none, refl, sym, ◌∙◌}
use Rattle.std.specs.Prelude.{not}
use Rattle.std.specs.List.{list_any}
use Rattle.flat_lists.proofs.VariantLemmas.{group-is}
use Rattle.flat_lists.proofs.variants.has_group.Goals as goal

pub returns-then-has_audio_alone : goal.returns-then-has_audio_alone
returns-then-has_audio_alone c = group-is c.args.shown.now true c.has_video.result (sym c.if-has_audio_alone.true ∙ c.has_audio_alone.ensures) c.has_video.ensures

pub returns-else-has_audio_alone : goal.returns-else-has_audio_alone
returns-else-has_audio_alone c =
    c.if-has_audio_alone.false ∙ group-is c.args.shown.now false (list_any (λ s. not (is_none s.asked.video)) c.args.shown.now) (sym c.if-has_audio_alone.false ∙ c.has_audio_alone.ensures) refl
