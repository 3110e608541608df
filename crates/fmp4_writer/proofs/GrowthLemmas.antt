-- Lists that grew in two steps.
use Rattle.std.proofs.Common.{◌≡◌, List, ◌++◌, Option, Result, Ok, Err}
use Rattle.vod_source.specs.Told.{told_with, Grows}
use Rattle.vod_source.proofs.ToldLemmas.{told_with-more, GrewByPrefix-after}

-- all of a first part, and then what a call came to with a second one
pub Grows-after : {A T E : Type 0} (before middle now : Option (List A)) (result : Result T E) (first second : List A) → middle ≡ told_with before first
    → Grows middle now result second → Grows before now result (first ++ second)
Grows-after before middle now (Ok x) first second e grown = told_with-more before middle now first second e grown
Grows-after before middle now (Err x) first second e grown = GrewByPrefix-after first e grown
