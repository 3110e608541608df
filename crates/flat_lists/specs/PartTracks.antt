-- The tracks of the parts of a sequence, each asked alone; this project's own.
use Rattle.std.specs.Prelude.{ℕ, List, [], ◌∷◌, map, sum, Option, Some, None, option_map, option_and_then, IfSome, Bool, Result, Ok}
use Rattle.vod_types.specs.declared.refusal.Refusal.{Refusal}
use Rattle.vod_types.specs.declared.tracks.Asked.{Asked}
use Rattle.vod_types.specs.declared.tracks.Kind.{Kind}
use Rattle.vod_types.specs.declared.tracks.Kind.TheVariants.{Video, Audio}
use Rattle.vod_types.specs.Results.{◌>>=◌}
use Rattle.mp4_model.specs.Edits.{no_edit}
use Rattle.mp4_model.specs.GoodTracks.{GoodTrack}
use Rattle.mp4_model.specs.Movie.{Movie}
use Rattle.mp4_model.specs.Samples.{sample_sizes, sample_deltas}
use Rattle.mp4_model.specs.Video.{video_codec_name}
use Rattle.clip_model.specs.declared.Piece.{Piece}
use Rattle.clip_model.specs.Mapping.{Mapping, bitrate_of, sequence_at}
use Rattle.segment_model.specs.Timeline.{TrackRows, timeline}
use Rattle.list_model.specs.Playlist.{bandwidth_of}
use Rattle.origin_model.specs.Lists.{aac_of, rate_of, asked_first, first_track}
use Rattle.origin_model.specs.Loaded.{CheckedPiece}
use Rattle.origin_model.specs.Samples.{checked_track}
use Rattle.origin_model.specs.Sources.{source_piece}
use Rattle.flat_samples.specs.Checks.{checked_in}
use Rattle.flat_samples.specs.Rows.{part_rows, rows_with, ArePlacedRows}
use Rattle.flat_lists.specs.declared.part_tracks.PartTrack.{PartTrack}
use Rattle.flat_lists.specs.declared.part_tracks.PartTracks.{PartTracks}
use Rattle.flat_lists.specs.declared.part_tracks.TrackFacts.{TrackFacts}

-- ---- what a representation says of its track

abbrev pub bandwidth_due : Mapping → ℕ → Kind → GoodTrack → ℕ
bandwidth_due m sequence kind t = bandwidth_of (option_and_then (bitrate_of kind) (sequence_at m sequence)) (sum (sample_sizes t.tables)) t.timescale (sum (sample_deltas t.tables))

abbrev pub facts_due : Mapping → ℕ → Kind → GoodTrack → TrackFacts
facts_due m sequence Video t = record {
  kind = Video;
  bandwidth = bandwidth_due m sequence Video t;
  size = (t.width, t.height);
  video = Some (video_codec_name t);
  aac = 0;
  rate = 0;
}
facts_due m sequence Audio t = record {
  kind = Audio;
  bandwidth = bandwidth_due m sequence Audio t;
  size = (0, 0);
  video = None;
  aac = aac_of t;
  rate = rate_of t;
}

-- ---- tracks asked alone

-- a piece as if no track of the other kind was asked
abbrev pub alone : Kind → CheckedPiece → CheckedPiece
alone Video c = record { piece = c.piece; file_size = c.file_size; video = c.video; audio = None; video_edit = c.video_edit; audio_edit = no_edit }
alone Audio c = record { piece = c.piece; file_size = c.file_size; video = None; audio = c.audio; video_edit = no_edit; audio_edit = c.audio_edit }

-- the rows of a kind in pieces
abbrev pub rows_alone : Kind → List CheckedPiece → TrackRows
rows_alone kind cs = timeline (map (λ c. source_piece (alone kind c)) cs)

-- what is kept of a track: what its representation says, and its rows
abbrev pub Seen : Type 0
Seen = TrackFacts × TrackRows

pub record PartSeen : Type 0 where
  pub video : Option Seen
  pub audio : Option Seen

abbrev pub seen_of : PartTrack → Seen
seen_of t = (t.facts, part_rows t.rows)

abbrev pub part_seen : PartTracks → PartSeen
part_seen p = record { video = option_map seen_of p.video; audio = option_map seen_of p.audio }

-- the same with the rows of one more piece
abbrev pub seen_with : Kind → ℕ → CheckedPiece → Option Seen → Option Seen
seen_with kind place c seen = option_map (λ s. (s.0, rows_with s.1 place (source_piece (alone kind c)))) seen

abbrev pub part_with : ℕ → CheckedPiece → PartSeen → PartSeen
part_with place c seen = record { video = seen_with Video place c seen.video; audio = seen_with Audio place c seen.audio }

-- a track that the first piece exposes, with these rows
abbrev pub seen_due : Mapping → ℕ → Kind → CheckedPiece → TrackRows → Option Seen
seen_due m sequence kind first rows = option_map (λ t. (facts_due m sequence kind t, rows)) (checked_track kind first)

-- what is kept of the pieces of a part; the first one tells the tracks
abbrev pub part_due : Mapping → ℕ → List CheckedPiece → PartSeen
part_due m sequence [] = record { video = None; audio = None }
part_due m sequence (first ∷ cs) = record {
  video = seen_due m sequence Video first (rows_alone Video (first ∷ cs));
  audio = seen_due m sequence Audio first (rows_alone Audio (first ∷ cs));
}

-- of the first piece before its rows
abbrev pub no_rows : TrackRows
no_rows = record { lead = []; other = [] }

abbrev pub part_begun : Mapping → ℕ → CheckedPiece → PartSeen
part_begun m sequence first = record { video = seen_due m sequence Video first no_rows; audio = seen_due m sequence Audio first no_rows }

-- all rows have small times
abbrev pub IsPlacedTrack : Option PartTrack → Type 0
IsPlacedTrack track = IfSome track (λ t. ArePlacedRows (part_rows t.rows))

pub record ArePlaced (p : PartTracks) : Type 0 where
  pub video : IsPlacedTrack p.video
  pub audio : IsPlacedTrack p.audio

-- ---- a first piece in the movie of its file

abbrev pub asked_in : Piece → Movie → Result Asked Refusal
asked_in piece m = asked_first piece.name (first_track piece m Video) (first_track piece m Audio)

-- the tracks that it exposes, and its check with them
abbrev pub first_in : Bool → Piece → Movie → Result (Asked × CheckedPiece) Refusal
first_in edits piece m = asked_in piece m >>= λ asked. checked_in edits asked piece m >>= λ c. Ok (asked, c)
