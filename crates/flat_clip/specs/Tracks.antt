-- The tracks of a clip as they are held, and where their rows stand; this project's own.
use Rattle.std.specs.Prelude.{◌≡◌, ℕ, ◌+◌, ◌++◌, codes, ◌≤◌, ◌^◌, ◌-ℤ◌, unsigned_abs, FitsSigned, All, List, length, map, filter}
use Rattle.std.specs.List.{enumerate_from}
use Rattle.std.specs.Int.{w32}
use Rattle.vod_types.specs.declared.segments.Row.{Row}
use Rattle.vod_types.specs.declared.tracks.Kind.{Kind}
use Rattle.vod_types.specs.Tracks.{same_kind}
use Rattle.vod_bytes.specs.Fields.{be32}
use Rattle.media_model.specs.Boxes.{box, full_box}
use Rattle.media_model.specs.InitSegment.{data_information, kind_header, payload_place, with_data_reference}
use Rattle.media_model.specs.Clip.{ClipTrack, PlacedRow, IfRows, sample_table}
use Rattle.media_model.specs.WritingOrder.{of_track}
use Rattle.flat_clip.specs.declared.tracks.TrackRows.{TrackRows}
use Rattle.flat_clip.specs.declared.placed.PlacedSample.{PlacedSample}

-- a track that is held
abbrev pub track_view : TrackRows → ClipTrack
track_view t = record { entry = t.entry.items; width = t.width; height = t.height; rows = t.rows.items }

-- a row of the first file, that is decoded less than two years from time 0, and whose composition offset fits 32 bits
pub record IsClipRow (row : Row) : Type 0 where
  pub first : row.file ≡ 0
  pub time : unsigned_abs row.sample.dts ≤ 2 ^ 42
  pub offset : FitsSigned w32 (row.sample.pts -ℤ row.sample.dts)

-- a sample entry with room for its data reference
abbrev pub HasRoom : List ℕ → Type 0
HasRoom entry = payload_place entry + 8 ≤ length entry

-- a track whose rows are few enough, and whose sample entry isn't too long
pub record IsSmallTrack (t : ClipTrack) : Type 0 where
  pub few : length t.rows ≤ 2000000
  pub short : length t.entry ≤ 33554432
  pub room : IfRows t.rows (HasRoom t.entry)
  pub rows : All IsClipRow t.rows

-- a sample with its place
abbrev pub placed_view : PlacedSample → PlacedRow
placed_view p = record { place = p.place; row = of_track p.kind p.row }

-- the places of those of a kind
abbrev pub places_in : Kind → List PlacedRow → List ℕ
places_in kind placed = map (λ p. p.place) (filter (λ p. same_kind p.row.kind kind) placed)

-- `stsd` with the one entry (ISO/IEC 14496-12, 8.5.2)
unfoldable pub description : List ℕ → List ℕ
description entry = full_box (codes "stsd") 0 0 (be32 1 ++ with_data_reference entry)

-- `minf` (8.4.4)
unfoldable pub information : Kind → List ℕ → List ℕ → List Row → List ℕ
information kind entry places rows = box (codes "minf") (kind_header kind ++ data_information ++ sample_table kind entry places rows)

-- the numbers of the sync rows, where the first row has this number
abbrev pub sync_numbers_from : ℕ → List Row → List ℕ
sync_numbers_from number rows = map (λ r. r.0) (filter (λ r. r.1.sample.sync) (enumerate_from number rows))
