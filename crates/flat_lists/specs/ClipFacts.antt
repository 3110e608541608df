-- What clips keep are facts, which hold in one way; this project's own.
use Rattle.std.specs.Prelude.{ℕ, List, Option, Some, None}
use Rattle.std.proofs.Props.{props}
use Rattle.clip_model.specs.Mapping.{Clip, source, concat, FitDurations, HasLength, IsClip}

pub clip_fact : (c : Clip) → IsProp (IsClip c)
clip_fact (source s) = Prim.hlevel props
clip_fact (concat c) = Prim.hlevel props

pub length_fact : (c : Clip) → IsProp (HasLength c)
length_fact (source s) = Prim.hlevel props
length_fact (concat c) = Prim.hlevel props

pub fit_fact : (durations : Option (List ℕ)) (clips : List Clip) → IsProp (FitDurations durations clips)
fit_fact None clips = Prim.hlevel (props, length_fact)
fit_fact (Some ds) clips = Prim.hlevel props
