use Rattle.std.proofs.Common.{length, ap, ◌∙◌, arith}
use Rattle.std.specs.Prelude.{unwrap_or}
use Rattle.flat_segments.specs.Cells.{is_past}
use Rattle.flat_samples.proofs.ListViews.{unwrap_or-position, position_or_len-le}
use Rattle.flat_lists.proofs.listed_part.first_past.Goals as goal

pub returns-clause-index : goal.returns-clause-index
returns-clause-index c =
    c.unwrap_or.ensures ∙ ap (λ o. unwrap_or o (length c.args.rows.now)) c.past_at.ensures ∙ unwrap_or-position (λ r. is_past c.args.bound r.place) c.args.rows.now

pub returns-clause-within : goal.returns-clause-within
returns-clause-within c =
    let index = c.unwrap_or.ensures ∙ ap (λ o. unwrap_or o (length c.args.rows.now)) c.past_at.ensures ∙ unwrap_or-position (λ r. is_past c.args.bound r.place) c.args.rows.now in
    omega (arith, index, position_or_len-le (λ r. is_past c.args.bound r.place) c.args.rows.now)
