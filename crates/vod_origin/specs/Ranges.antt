-- A range of bytes changes no answer but that of a clip; this project's own.
use Rattle.std.proofs.Common.{◌≡◌, ℕ, Option, None, Some, Result, Ok, Err, refl}
use Rattle.vod_types.specs.declared.paths.Ask.{Ask}
use Rattle.vod_types.specs.declared.paths.ByteRange.{ByteRange}
use Rattle.vod_types.specs.declared.paths.Leaf.{Leaf}
use Rattle.vod_types.specs.declared.paths.Leaf.TheVariants.{Master, Mpd, Index, Init, Segment, Iframes, Iframe, Clip}
use Rattle.vod_types.specs.declared.refusal.Refusal.{Refusal}
use Rattle.vod_types.specs.declared.tracks.Asked.{Asked}
use Rattle.vod_types.specs.Results.{◌>>=◌}
use Rattle.origin_model.specs.Answers.{ask_answer, ranged_answer}
use Rattle.origin_model.specs.Requests.{Setup, Asking, asking_of}

-- the sequence and the asked tracks of a clip
abbrev pub clip_of : Leaf → Option (ℕ × Asked)
clip_of (Clip sequence asked) = Some (sequence, asked)
clip_of _ = None

-- a range is passed over, but of a clip
leaf_unranged : (o : Setup) (a : Asking) (range : Option ByteRange) (leaf : Leaf) → clip_of leaf ≡ None → ranged_answer o a range leaf ≡ ranged_answer o a None leaf
leaf_unranged o a range (Clip sequence asked) none = absurd cc
leaf_unranged o a range Master none = refl
leaf_unranged o a range Mpd none = refl
leaf_unranged o a range (Index sequence asked) none = refl
leaf_unranged o a range (Init part sequence asked) none = refl
leaf_unranged o a range (Segment number sequence asked form) none = refl
leaf_unranged o a range (Iframes sequence video) none = refl
leaf_unranged o a range (Iframe number index sequence video) none = refl

pub ask_unranged : (o : Setup) (range : Option ByteRange) (ask : Ask) → clip_of ask.leaf ≡ None → ask_answer o range ask ≡ ask_answer o None ask
unfolding ask_answer
ask_unranged o range ask none = by_asking (asking_of o ask)
  where
    by_asking : (r : Result Asking Refusal) → (r >>= λ a. ranged_answer o a range ask.leaf) ≡ (r >>= λ a. ranged_answer o a None ask.leaf)
    by_asking (Ok a) = leaf_unranged o a range ask.leaf none
    by_asking (Err e) = refl
