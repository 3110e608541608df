-- The parts of a movie that an edit changes, as its steps meet them.
use Rattle.std.specs.Prelude.{◌≡◌, ℕ, ◌+◌, ◌^◌, ◌<◌, Bool, List, [], ◌++◌, length, if◌then◌else◌}
use Rattle.vod_bytes.specs.Fields.{be32}
use Rattle.vod_gen.specs.declared.spec.TrackSpec.{TrackSpec}
use Rattle.vod_gen.specs.MovieFile.{media, track_boxes}

-- the last 8 bytes of `stco`: one chunk and its place, or version and flags 0 and no chunk
abbrev pub chunk_end : Bool → ℕ → List ℕ
chunk_end empty place = if empty then be32 0 ++ be32 0 else be32 1 ++ be32 place

-- The bytes are the boxes of these tracks, all of a movie whose `mdat` has its content at `start`, and 32 bits hold each place and size.
pub record AreTracks (start : ℕ) (tracks : List TrackSpec) (bytes : List ℕ) : Type 0 where
  pub boxes : bytes ≡ track_boxes start tracks [] tracks
  pub places : start + length (media tracks) < 2 ^ 32
  pub sizes : length bytes < 2 ^ 32
