-- The files and the rows of the pieces that a segment needs; this project's own.
use Rattle.std.specs.Prelude.{◌≡◌, ℕ, max, List, [], ◌++◌, length, map, fold, slice_get, Option, All}
use Rattle.std.specs.Option.{option_map_or}
use Rattle.vod_types.specs.declared.segments.Form.{Form}
use Rattle.vod_types.specs.declared.segments.Form.TheVariants.{Ts, Fmp4}
use Rattle.vod_types.specs.declared.tracks.Asked.{Asked}
use Rattle.vod_types.specs.declared.tracks.Kind.{Kind}
use Rattle.vod_types.specs.declared.tracks.Kind.TheVariants.{Video, Audio}
use Rattle.vod_types.specs.SegmentRows.{SegmentRows}
use Rattle.vod_source.specs.Stored.{Files, bytes_of}
use Rattle.fmp4_writer.specs.Progress as fragments
use Rattle.ts_writer.specs.Conditions as streams
use Rattle.ts_writer.specs.Progress.{segment_begun}
use Rattle.origin_model.specs.Loaded.{CheckedPiece}
use Rattle.origin_model.specs.Samples.{SegmentPlan, video_type}
use Rattle.flat_segments.specs.declared.needed.NeededFile.{NeededFile}
use Rattle.flat_segments.specs.declared.rows.FlatRows.{FlatRows}

-- what is kept of the file of a piece: its name, its size, the type of its video's sample entry, and the configurations of its
-- asked tracks
pub record FileFacts : Type 0 where
  pub name : List ℕ
  pub size : ℕ
  pub video_type : List ℕ
  pub video : List ℕ
  pub audio : List ℕ

abbrev pub file_of : CheckedPiece → FileFacts
file_of c = record { name = c.piece.name; size = c.file_size; video_type = video_type c; video = option_map_or (λ t. t.config) c.video []; audio = option_map_or (λ t. t.config) c.audio [] }

abbrev pub facts_of : NeededFile → FileFacts
facts_of f = record { name = f.name; size = f.size; video_type = option_map_or (λ kind. kind) f.video_type []; video = f.video.items; audio = f.audio.items }

abbrev pub config_of : Kind → FileFacts → List ℕ
config_of Video f = f.video
config_of Audio f = f.audio

-- the rows with the names and the configurations of their files
abbrev pub flat_rows_view : FlatRows → SegmentRows
flat_rows_view r = record {
  video = r.video.items;
  audio = r.audio.items;
  name = λ file. option_map_or (λ f. f.name) (slice_get (map facts_of r.files.items) file) [];
  config = λ file kind. option_map_or (config_of kind) (slice_get (map facts_of r.files.items) file) [];
}

-- the same as a plan
abbrev pub flat_plan : FlatRows → SegmentPlan
flat_plan r = record { hevc = r.hevc; rows = flat_rows_view r }

-- the greatest size of a sample
abbrev pub largest_of : FlatRows → ℕ
largest_of r = fold max 0 (map (λ row. row.sample.size) (r.video.items ++ r.audio.items))

-- rows that the writer of a form takes
abbrev pub AreWritableBy : Form → Asked → Option Files → FlatRows → Type 0
AreWritableBy Ts asked content r = streams.AreWritable content (flat_rows_view r) (segment_begun (largest_of r) asked r.hevc)
AreWritableBy Fmp4 asked content r = fragments.AreWritable content (flat_rows_view r)

-- each is as long as the file of its name
abbrev pub SizesAreTrue : Files → List NeededFile → Type 0
SizesAreTrue files needed = All (λ f. length (bytes_of files f.name) ≡ f.size) needed
