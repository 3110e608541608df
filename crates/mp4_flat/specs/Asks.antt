-- What a path asks for; this project's own.
use Rattle.std.specs.Prelude.{length}
use Rattle.std.specs.Int.{IsInRange}
use Rattle.vod_types.specs.declared.paths.Ask.{Ask}
use Rattle.list_model.specs.Names.{IsLeafOf}
use Rattle.list_model.specs.Path.{is_dash}
use Rattle.origin_model.specs.Requests.{target_names}

-- its leaf is one of its protocol, and its names are few
pub record IsPathAsk (ask : Ask) : Type 0 where
  pub leaf : IsLeafOf (is_dash ask.place) ask.leaf
  pub names : IsInRange 1 32 (length (target_names ask.target))
