-- The listed rows of a media playlist's path, with what is read for them; this project's own.
use Rattle.std.specs.Prelude.{ℕ, false, List, [], Option, None, Result}
use Rattle.vod_types.specs.declared.paths.Ask.{Ask}
use Rattle.vod_types.specs.declared.refusal.Refusal.{Refusal}
use Rattle.vod_types.specs.declared.tracks.Asked.{Asked}
use Rattle.segment_model.specs.Listing.{ListedSegment}
use Rattle.vod_source.specs.Calls.{AnswersUnlessFailed, LogsReads}
use Rattle.vod_source.specs.Stored.{Read}
use Rattle.origin_model.specs.Answers.{is_index, path_rows, readable_as}
use Rattle.origin_model.specs.Reads.{Cache, ask_reads, if_readable, looks_of, path_reads}
use Rattle.origin_model.specs.Requests.{Setup}
use Rattle.mp4_flat.specs.Listings.{ask_rows}
use Rattle.vod_plan.specs.Turned.{LeavesCache}

-- the names of the files that have a turn in the cache
abbrev pub listed_names : Setup → List ℕ → List (List ℕ)
listed_names o path = if_readable (readable_as is_index path) [] (λ ask. (looks_of o None ask).turns)

-- The rows of a path, or the refusal of its playlist, with the reads that the movies that were kept have left, and the cache after them.
pub record ListsPath {X : Type 0} (view : X → List ListedSegment) (o : Setup) (path : List ℕ) (result : Result X Refusal) (cache cache_now : Cache) (log log_now : Option (List Read)) : Type 0 where
  pub answered : AnswersUnlessFailed view result (path_rows o path)
  pub logged : LogsReads result (path_reads is_index o cache false [] path None) log log_now
  pub leaves : LeavesCache o.files (listed_names o path) result cache cache_now

-- the same of what a path asks for
pub record ListsAsk {X : Type 0} (view : X → List ListedSegment) (o : Setup) (ask : Ask) (sequence : ℕ) (asked : Asked) (result : Result X Refusal) (cache cache_now : Cache) (log log_now : Option (List Read)) : Type 0 where
  pub answered : AnswersUnlessFailed view result (ask_rows o ask sequence asked)
  pub logged : LogsReads result (ask_reads o cache false [] None ask) log log_now
  pub leaves : LeavesCache o.files (looks_of o None ask).turns result cache cache_now
