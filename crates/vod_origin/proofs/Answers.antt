-- What a path is answered with.
use Rattle.std.proofs.Common.{◌≡◌, ℕ, List, Option, Result, Ok, Err, ap}
use Rattle.vod_types.specs.declared.paths.Ask.{Ask}
use Rattle.vod_types.specs.declared.paths.ByteRange.{ByteRange}
use Rattle.vod_types.specs.declared.refusal.Refusal.{Refusal}
use Rattle.vod_types.specs.Results.{◌>>=◌}
use Rattle.origin_model.specs.Answers.{answer, ask_answer, readable}
use Rattle.origin_model.specs.Requests.{Setup}

module _ (o : Setup) (path : List ℕ) (range : Option ByteRange) where
  pub answer-refused : (e : Refusal) → readable path ≡ Err e → answer o path range ≡ Err e
  unfolding answer
  answer-refused e read = ap (λ (r : Result Ask Refusal). r >>= ask_answer o range) read

  -- it is that of what it asks for
  pub answer-read : (ask : Ask) → readable path ≡ Ok ask → answer o path range ≡ ask_answer o range ask
  unfolding answer
  answer-read ask read = ap (λ (r : Result Ask Refusal). r >>= ask_answer o range) read
