use Rattle.std.proofs.Common.{refl, rules, w64}
use Rattle.std.proofs.lemmas.Int.{to_z-of_z}
use Rattle.segment_model.specs.Rows.{written_row}
use Rattle.flat_clip.proofs.rows.clip_sample.Goals as goal

pub returns-clause-row : goal.returns-clause-row
unfolding written_row
returns-clause-row c =
    rw (c.from.ensures, c.min.ensures, c.requires.first, to_z-of_z w64 c.args.sample.now.place (search rules), to_z-of_z w64 c.args.sample.now.presentation (search rules)) refl
