-- No number's film is refused.
use Rattle.std.specs.Prelude.{◌≡◌, ℕ, List, Ok}
use Rattle.segment_model.specs.Listing.{ListedSegment}
use Rattle.vod_source.specs.Stored.{Files}
use Rattle.origin_model.specs.Answers.{path_rows}
use Rattle.rehearsal_laws.specs.Films.{playlist_path, rehearsal_setup, IsFilm}

-- The playlist has rows, over a film of any number.
abbrev pub EveryNumberIsListed : Type 0
EveryNumberIsListed = (n : ℕ) (files : Files) → IsFilm n files → (rows : List ListedSegment) × (path_rows (rehearsal_setup files) playlist_path ≡ Ok rows)
