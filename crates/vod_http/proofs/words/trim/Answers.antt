use Rattle.std.proofs.Common.{reverse, ap, ◌∙◌}
use Rattle.httparse.specs.Grammar.{skip_ows, trim_ows}
use Rattle.vod_http.proofs.words.trim.Goals as goal

pub returns : goal.returns
unfolding trim_ows
returns c = c.without_last_spaces.ensures ∙ ap (λ l. reverse (skip_ows (reverse l))) c.without_first_spaces.ensures
