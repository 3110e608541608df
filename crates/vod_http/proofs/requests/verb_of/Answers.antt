use Rattle.std.proofs.Common.{rules}
use Rattle.list_model.specs.Head.{verb_of}
use Rattle.vod_http.proofs.requests.verb_of.Goals as goal

pub returns-then-eq : goal.returns-then-eq
unfolding verb_of
returns-then-eq c = search rules

pub returns-then-eq-2 : goal.returns-then-eq-2
unfolding verb_of
returns-then-eq-2 c = search rules

pub returns-else-eq-2 : goal.returns-else-eq-2
unfolding verb_of
returns-else-eq-2 c = search rules
