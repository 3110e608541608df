-- The listed segments of a sequence; this project's own.
use Rattle.std.specs.Prelude.{ℕ, List, [], map, Result, Ok}
use Rattle.vod_types.specs.declared.segments.Listed.{Listed}
use Rattle.vod_types.specs.declared.paths.Leaf.{Leaf}
use Rattle.vod_types.specs.declared.refusal.Refusal.{Refusal}
use Rattle.vod_types.specs.declared.tracks.Asked.{Asked}
use Rattle.vod_types.specs.Results.{◌>>=◌}
use Rattle.clip_model.specs.Timeline.{Timeline}
use Rattle.list_model.specs.Manifest.{manifest}
use Rattle.list_model.specs.Playlist.{HasRowNumbers}
use Rattle.vod_source.specs.Stored.{Read}
use Rattle.origin_model.specs.Lists.{master_text, periods, shown_sequences}
use Rattle.origin_model.specs.Plans.{Cutting, rows_looks}
use Rattle.origin_model.specs.Reads.{turn_names, turns}
use Rattle.origin_model.specs.Requests.{Setup, Asking, grid_in_use}

-- a listed segment has a part of at most four digits
abbrev pub HasPart : Listed → Type 0
HasPart l = HasRowNumbers l.row

-- the reads of the movies of the pieces of a sequence that are looked at
abbrev pub rows_turns : Cutting → Asked → Timeline → List Read
rows_turns c asked t = (turns c.files [] (map (λ piece. piece.name) (rows_looks c asked t))).reads

-- the reads of the movies of the pieces of a leaf that are looked at
abbrev pub leaf_turns : Setup → Asking → Leaf → List Read
leaf_turns o a leaf = (turns o.files [] (turn_names o a leaf)).reads

-- the text of a master playlist, or its first refusal
abbrev pub master_due : Setup → Asking → Result (List ℕ) Refusal
master_due o a = shown_sequences o a >>= λ found. Ok (master_text o a found)

-- the text of a media presentation description, or its first refusal
abbrev pub description_due : Setup → Asking → Result (List ℕ) Refusal
description_due o a = periods o a >>= λ found. Ok (manifest (grid_in_use o a).step found)
