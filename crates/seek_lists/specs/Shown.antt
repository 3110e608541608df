-- The sequences of a master playlist over metadata; this project's own.
use Rattle.std.specs.Prelude.{ℕ, List}
use Rattle.origin_model.specs.Lists.{sequence_numbers}
use Rattle.origin_model.specs.Requests.{Setup, Asking}
use Rattle.flat_lists.specs.Shown.{first_names, shown_due}
use Rattle.flat_lists.specs.Steps.{names_through}

-- the names of the files of their first pieces that are looked at
abbrev pub shown_names : Setup → Asking → List (List ℕ)
shown_names o a = names_through (shown_due o a) (first_names o a) (sequence_numbers o a)
