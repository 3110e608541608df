-- The listed rows of a media playlist's path; this project's own.
use Rattle.std.specs.Prelude.{ℕ, Bool, true, false, List, [], map, Option, None, Result}
use Rattle.vod_types.specs.declared.paths.Ask.{Ask}
use Rattle.vod_types.specs.declared.tracks.Asked.{Asked}
use Rattle.vod_types.specs.declared.paths.Leaf.TheVariants.{Index}
use Rattle.vod_types.specs.declared.refusal.Refusal.{Refusal}
use Rattle.vod_types.specs.Results.{◌>>=◌}
use Rattle.vod_types.specs.declared.segments.Listed.{Listed}
use Rattle.segment_model.specs.Listing.{ListedSegment, listed_view}
use Rattle.vod_source.specs.Stored.{Read}
use Rattle.origin_model.specs.Answers.{is_index, path_rows}
use Rattle.origin_model.specs.Lists.{listed_segments}
use Rattle.origin_model.specs.Reads.{AreReads, turn_names, turns}
use Rattle.origin_model.specs.Requests.{Setup, Asking, asking_of}
use Rattle.vod_source.specs.Calls.{AnswersUnlessFailed, LogsReads}

-- the listed rows of a path, or the refusal of its playlist, and these reads were made for them
pub record AreListed (o : Setup) (path : List ℕ) (result : Result (List Listed) Refusal) (log log_now : Option (List Read)) : Type 0 where
  pub answered : AnswersUnlessFailed (map listed_view) result (path_rows o path)
  pub reads : List Read
  pub reads_are : AreReads is_index o [] false path None reads
  pub logged : LogsReads result reads log log_now

-- the reads of the movies for a media playlist of what a request is about
abbrev pub index_turns : Setup → Asking → ℕ → Asked → List Read
index_turns o a sequence asked = (turns o.files [] (turn_names o a (Index sequence asked))).reads

-- the rows of a media playlist that is asked for, or its first refusal
abbrev pub ask_rows : Setup → Ask → ℕ → Asked → Result (List ListedSegment) Refusal
ask_rows o ask sequence asked = asking_of o ask >>= λ a. listed_segments o a sequence asked
