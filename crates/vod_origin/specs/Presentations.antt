-- What presents all sequences of a request, and what is due of it; this project's own.
use Rattle.std.specs.Prelude.{ℕ, List, Result, Ok}
use Rattle.vod_types.specs.declared.paths.Leaf.{Leaf}
use Rattle.vod_types.specs.declared.paths.Leaf.TheVariants as leaves
use Rattle.vod_types.specs.declared.refusal.Refusal.{Refusal}
use Rattle.origin_model.specs.Reads.{turn_names}
use Rattle.origin_model.specs.Requests.{Setup, Asking}
use Rattle.flat_lists.specs.Listings.{description_due, master_due}
use Rattle.vod_origin.specs.declared.presentations.Presentation.{Presentation}
use Rattle.vod_origin.specs.declared.presentations.Presentation.TheVariants.{Master, Description}

-- the leaf that is one
abbrev pub leaf_presented : Presentation → Leaf
leaf_presented Master = leaves.Master
leaf_presented Description = leaves.Mpd

-- its text, or its first refusal
abbrev pub text_due : Presentation → Setup → Asking → Result (List ℕ) Refusal
text_due Master o a = master_due o a
text_due Description o a = description_due o a

-- the files whose movies are looked at for it
abbrev pub names_presented : Presentation → Setup → Asking → List (List ℕ)
names_presented presentation o a = turn_names o a (leaf_presented presentation)

-- what a request is about, as it was found
abbrev pub asking_in : Asking → Result Asking Refusal
asking_in a = Ok a
