use Rattle.std.proofs.Common.{length, ap, ◌∙◌, arith}
use Rattle.std.specs.Prelude.{unwrap_or, nat_le}
use Rattle.flat_samples.proofs.ListViews.{unwrap_or-position, position_or_len-le}
use Rattle.flat_lists.proofs.listed_parts.place_in.Goals as goal

pub returns-clause-index : goal.returns-clause-index
returns-clause-index c =
    c.unwrap_or.ensures ∙ ap (λ o. unwrap_or o (length c.args.rows.now)) c.first_at.ensures ∙ unwrap_or-position (λ r. nat_le c.args.place r.file) c.args.rows.now

pub returns-clause-within : goal.returns-clause-within
returns-clause-within c = omega (arith, returns-clause-index c, position_or_len-le (λ r. nat_le c.args.place r.file) c.args.rows.now)
