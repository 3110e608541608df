-- Init segments over metadata; this project's own.
use Rattle.std.specs.Prelude.{ℕ, Bool, List, [], ◌∷◌, map, Result, Ok}
use Rattle.vod_types.specs.declared.refusal.Refusal.{Refusal}
use Rattle.vod_types.specs.declared.tracks.Asked.{Asked}
use Rattle.vod_types.specs.Results.{◌>>=◌}
use Rattle.mp4_model.specs.Movie.{Movie}
use Rattle.clip_model.specs.declared.Piece.{Piece}
use Rattle.clip_model.specs.Timeline.{Timeline}
use Rattle.vod_source.specs.Stored.{Files}
use Rattle.origin_model.specs.Bodies.{init_body}
use Rattle.origin_model.specs.Loaded.{checked}
use Rattle.origin_model.specs.Plans.{pieces_or_none}
use Rattle.origin_model.specs.Requests.{init_piece}
use Rattle.vod_plan.specs.Tracks.{checked_in}

-- the init segment of the asked tracks of a piece, whose edits are checked where they are honoured, or its first refusal
abbrev pub piece_init : Files → Bool → Asked → Piece → Result (List ℕ) Refusal
piece_init files edits asked piece = checked files edits asked piece >>= λ c. Ok (init_body c)

-- the same in the movie of its file
abbrev pub init_in_movie : Bool → Asked → Piece → Movie → Result (List ℕ) Refusal
init_in_movie edits asked piece m = checked_in edits asked piece m >>= λ c. Ok (init_body c)

-- that of the first piece of a part, or its first refusal
abbrev pub part_init : Files → Bool → Asked → Timeline → ℕ → Result (List ℕ) Refusal
part_init files edits asked t part = init_piece t part >>= λ piece. checked files edits asked piece >>= λ c. Ok (init_body c)

-- the names of the files that are looked at for it
abbrev pub init_names : Timeline → ℕ → List (List ℕ)
init_names t part = map (λ piece. piece.name) (pieces_or_none (init_piece t part >>= λ piece. Ok (piece ∷ [])))
