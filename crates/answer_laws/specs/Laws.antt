-- What every answer keeps; this project's own.
use Rattle.std.specs.Prelude.{◌≡◌, ℕ, ◌%◌, List, length, None, MatchResult}
use Rattle.vod_types.specs.declared.paths.Leaf.{Leaf}
use Rattle.list_model.specs.Reply.{Answer, Body, leaf_body}
use Rattle.origin_model.specs.Answers.{answer}
use Rattle.origin_model.specs.Requests.{Setup}
use Rattle.answer_laws.specs.Refusals.{IsPathRefusal}

-- the body of a leaf, in whole packets of 188 bytes where no length is told
pub record IsLeafBody (leaf : Leaf) (body : Body) : Type 0 where
  pub is : body ≡ leaf_body leaf body.bytes body.end
  pub packets : body.length ≡ None → length body.bytes % 188 ≡ 0

-- the answer of a leaf
abbrev pub IsLeafAnswer : Leaf → Answer → Type 0
IsLeafAnswer leaf answer = MatchResult answer (IsLeafBody leaf) IsPathRefusal

-- of each path
abbrev pub AnswersOfPaths : Type 0
AnswersOfPaths = (o : Setup) (path : List ℕ) → (leaf : Leaf) × IsLeafAnswer leaf (answer o path None)
