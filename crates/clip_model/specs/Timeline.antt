-- The pieces and the parts of a sequence (this project's own). Times are in milliseconds, but for those of pieces and of parts, which are in units of 1/90000 s.
use Rattle.std.specs.Prelude.{ℕ, ◌+◌, ◌-◌, max, min, List, [], ◌∷◌, length, map, filter, sum, Bool, true, false, ◌==◌, nat_lt, if◌then◌else◌, Option, Some, None, option_map, ok_or, unwrap_or, Result, Ok, Err, ℤ, pos, ◌+ℤ◌, ◌-ℤ◌, flat_map}
use Rattle.std.specs.List.{enumerate_from}
use Rattle.std.specs.Int.{int_max}
use Rattle.vod_types.specs.declared.tracks.TrackName.{TrackName}
use Rattle.vod_types.specs.declared.paths.Window.{Window}
use Rattle.vod_types.specs.declared.refusal.Refusal.{Refusal}
use Rattle.vod_types.specs.declared.refusal.Refusal.TheVariants.{NoSequence, NothingSelected}
use Rattle.clip_model.specs.declared.Piece.{Piece}
use Rattle.clip_model.specs.declared.Part.{Part}
use Rattle.vod_types.specs.Options.{each}
use Rattle.vod_types.specs.Tracks.{default_tracks}
use Rattle.vod_types.specs.Files.{store_name}
use Rattle.clip_model.specs.Mapping.{SourceClip, ConcatFile, ConcatClip, Clip, source, concat, Sequence, Mapping, sequence_at, from_zero, concat_length}
use Rattle.vod_types.specs.Results.{◌>>=◌}
use Rattle.clip_model.specs.Trim.{units, lesser_end, trimmed}

-- ---- the clips in their places

-- the length that a clip has without durations of the mapping
abbrev pub own_length : Clip → Option ℕ
own_length (source c) = None
own_length (concat c) = Some (from_zero (concat_length c))

abbrev pub clip_lengths : Option (List ℕ) → List Clip → List (Option ℕ)
clip_lengths None clips = map own_length clips
clip_lengths (Some durations) clips = map Some durations

pub record Placed : Type 0 where
  pub clip : Clip
  pub start : ℕ
  pub length : Option ℕ

-- one after another, from a time on
abbrev pub placed_from : ℕ → List (Option ℕ) → List Clip → List Placed
placed_from start (n ∷ ns) (c ∷ cs) = record { clip = c; start = start; length = n } ∷ placed_from (start + unwrap_or n 0) ns cs
placed_from start [] cs = []
placed_from start (n ∷ ns) [] = []

abbrev pub placed_clips : Mapping → Sequence → List Placed
placed_clips m s = placed_from 0 (clip_lengths m.durations s.clips) s.clips

-- ---- pieces

-- a source clip that stands at start
abbrev pub source_piece : List ℕ → List TrackName → ℕ → ℕ → Option ℕ → SourceClip → Piece
source_piece root tracks part start length c = record {
  name = store_name root c.path;
  tracks = unwrap_or c.tracks tracks;
  base = units (pos start -ℤ pos c.clip_from);
  lo = units (pos c.clip_from);
  hi = option_map (λ n. units (pos c.clip_from) +ℤ units (pos n)) length;
  part = part;
}

-- each file of a concat clip, and the time at which it begins
abbrev pub files_from : ℤ → List ConcatFile → List (ConcatFile × ℤ)
files_from at [] = []
files_from at (f ∷ fs) = (f, at) ∷ files_from (at +ℤ pos f.duration) fs

-- a file that begins at a time, in a concat clip that stands at start
abbrev pub file_piece : List ℕ → List TrackName → ℕ → ℕ → Option ℕ → ConcatFile → ℤ → Piece
file_piece root tracks part start length f at = record {
  name = store_name root f.path;
  tracks = tracks;
  base = units at;
  lo = int_max (pos 0) (units (pos start) -ℤ units at);
  hi = lesser_end (Some (units (pos f.duration))) (option_map (λ n. units (pos (start + n)) -ℤ units at) length);
  part = part;
}

abbrev pub concat_pieces : List ℕ → List TrackName → ℕ → ℕ → Option ℕ → ConcatClip → List Piece
concat_pieces root tracks part start length c =
    map (λ f. file_piece root (unwrap_or c.tracks tracks) part start length f.0 f.1) (files_from (pos start +ℤ c.offset) c.files)

-- the pieces of a clip, all of it
abbrev pub clip_pieces : List ℕ → List TrackName → ℕ → ℕ → Option ℕ → Clip → List Piece
clip_pieces root tracks part start length (source c) = source_piece root tracks part start length c ∷ []
clip_pieces root tracks part start length (concat c) = concat_pieces root tracks part start length c

abbrev pub placed_pieces : List ℕ → List TrackName → ℕ → Placed → List Piece
placed_pieces root tracks part p = clip_pieces root tracks part p.start p.length p.clip

-- ---- parts

-- clips that make a part, before a window
pub record Span : Type 0 where
  pub start : ℕ
  pub length : Option ℕ
  pub clips : List Placed

abbrev pub total_length : List Placed → Option ℕ
total_length ps = option_map sum (each (λ p. p.length) ps)

-- one clip each, or the whole sequence
abbrev pub spans : Bool → List Placed → List Span
spans true ps = map (λ p. record { start = p.start; length = p.length; clips = p ∷ [] }) ps
spans false ps = record { start = 0; length = total_length ps; clips = ps } ∷ []

-- the end that a window leaves
abbrev pub end_within : Option ℕ → ℕ → ℕ
end_within None end = end
end_within (Some to) end = min end to

-- a part in the times of a window
abbrev pub windowed_span : Window → Span → Span
windowed_span w s = record s {
  start = max s.start w.from - w.from;
  length = option_map (λ n. end_within w.to (s.start + n) - max s.start w.from) s.length;
}

abbrev pub is_lasting : Span → Bool
is_lasting s = nat_lt 0 (unwrap_or s.length 1)

-- the parts that a window leaves
abbrev pub kept_spans : Window → List Span → List Span
kept_spans w ss = filter is_lasting (map (windowed_span w) ss)

-- a kept part and its pieces
abbrev pub with_pieces : List ℕ → List TrackName → Window → ℕ → Span → Span × List Piece
with_pieces root tracks w part s = (s, trimmed w (flat_map (placed_pieces root tracks part) s.clips))

abbrev pub parts_from : ℕ → List (Span × List Piece) → List Part
parts_from first [] = []
parts_from first (s ∷ ss) = record { start = units (pos s.0.start); length_ms = s.0.length; first = first; count = length s.1 } ∷ parts_from (first + length s.1) ss

-- ---- the timeline

pub record Timeline : Type 0 where
  pub pieces : List Piece
  pub parts : List Part

abbrev pub timeline_of_spans : List (Span × List Piece) → Timeline
timeline_of_spans ss = record { pieces = flat_map (λ s. s.1) ss; parts = parts_from 0 ss }

unfoldable pub sequence_timeline : List ℕ → List TrackName → Mapping → Window → Sequence → Timeline
sequence_timeline root tracks m w s = timeline_of_spans (map (λ e. with_pieces root tracks w e.0 e.1) (enumerate_from 0 (kept_spans w (spans m.discontinuity (placed_clips m s)))))

abbrev pub selected : ℕ → Timeline → Result Timeline Refusal
selected number t = if length t.pieces == 0 then Err (NothingSelected number) else Ok t

-- the timeline of a sequence by its number, or why there is none
unfoldable pub timeline_of : List ℕ → Mapping → ℕ → Window → Option (List TrackName) → Result Timeline Refusal
timeline_of root m number w tracks = do
  s ← ok_or (sequence_at m number) (NoSequence number (length m.sequences))
  selected number (sequence_timeline root (unwrap_or tracks default_tracks) m w s)
