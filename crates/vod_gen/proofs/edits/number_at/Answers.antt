use Rattle.std.proofs.Common.{◌∙◌}
use Rattle.media_model.proofs.FieldsRead.{u32_read}
use Rattle.vod_gen.proofs.edits.number_at.Goals as goal

pub returns-else-field-lt4 : goal.returns-else-field-lt4
returns-else-field-lt4 c n more is fits =
    c.be_u32.ensures ∙ u32_read c.behind-field.result.now 0 n more fits (c.behind-field.ensures ∙ is)
