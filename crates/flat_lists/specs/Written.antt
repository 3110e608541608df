-- The periods over sequences that were looked at; this project's own.
use Rattle.std.specs.Prelude.{ℕ, ◌+◌, ◌++◌, Bool, List, [], length, map, flat_map, fold, max, slice_get, sum_by, take, pos, Option, option_and_then, option_map, option_to_list, unwrap_or}
use Rattle.std.specs.Int.{IsInRange}
use Rattle.std.specs.List.{enumerate_from}
use Rattle.std.specs.Option.{option_map_or}
use Rattle.vod_types.specs.declared.segments.SegmentRow.{SegmentRow}
use Rattle.vod_types.specs.declared.tracks.Kind.{Kind}
use Rattle.clip_model.specs.declared.Part.{Part}
use Rattle.clip_model.specs.Mapping.{Mapping, sequence_at}
use Rattle.list_model.specs.declared.Period.{Period}
use Rattle.list_model.specs.declared.Rep.{Rep}
use Rattle.list_model.specs.Manifest.{HasCodecName}
use Rattle.segment_model.specs.Laws.{AreTimelineRows}
use Rattle.segment_model.specs.Cut.{listed_part}
use Rattle.segment_model.specs.Grid.{SegmentGrid, PartGrid, cells}
use Rattle.flat_lists.specs.CountedCells.{length_seen, track_cells}
use Rattle.flat_lists.specs.LookedSequences.{SequenceSeen, IsLookedSequence}
use Rattle.flat_lists.specs.PartTracks.{PartSeen, Seen}
use Rattle.flat_lists.specs.declared.looked_sequences.LookedSequence.{LookedSequence}

-- how a part is cut for one of its tracks
abbrev pub grid_seen : SegmentGrid → Bool → Part → Seen → PartGrid
grid_seen g align part s = record { grid = g; align = align; start = part.start; cells = track_cells g part s }

-- the rows of a track in the part of a number, where its first cell has this number
abbrev pub rows_seen : SegmentGrid → Bool → Kind → ℕ → ℕ → Part → Seen → List SegmentRow
rows_seen g align kind number first part s = map (λ l. l.0) (listed_part kind number first (grid_seen g align part s) s.1)

-- the declared cells of parts
abbrev pub declared_cells : SegmentGrid → Part → ℕ
declared_cells g part = cells g (unwrap_or part.length_ms 0)

-- the number of the first cell of the part at a place
abbrev pub first_cell : SegmentGrid → List Part → ℕ → ℕ
first_cell g parts place = 1 + sum_by (declared_cells g) (take place parts)

-- a representation of a track in the part of a number
abbrev pub rep_seen : Mapping → SegmentGrid → Bool → ℕ → ℕ → ℕ → Part → Seen → Rep
rep_seen m g align sequence number first part s = record {
  sequence = sequence;
  kind = s.0.kind;
  bandwidth = s.0.bandwidth;
  size = s.0.size;
  video = s.0.video;
  aac = s.0.aac;
  rate = s.0.rate;
  language = option_and_then (λ q. q.language) (sequence_at m sequence);
  rows = rows_seen g align s.0.kind number first part s;
}

-- a codec's name where there is one, and rows in order
pub record IsWritable (s : Seen) : Type 0 where
  pub codec : HasCodecName s.0.kind s.0.video
  pub rows : AreTimelineRows (pos 0) s.1

-- those of a part, video first
abbrev pub reps_seen : Mapping → SegmentGrid → Bool → ℕ → ℕ → ℕ → Part × PartSeen → List Rep
reps_seen m g align sequence number first p =
    option_to_list (option_map (rep_seen m g align sequence number first p.0) p.1.video) ++ option_to_list (option_map (rep_seen m g align sequence number first p.0) p.1.audio)

-- ---- periods

-- a sequence of a mapping that was looked at
pub record IsOfMapping (m : Mapping) (s : LookedSequence) : Type 0 where
  pub looked : IsLookedSequence s
  pub number : IsInRange 1 (length m.sequences) s.number

-- the parts of a sequence without their tracks
abbrev pub parts_seen : SequenceSeen → List Part
parts_seen s = map (λ p. p.0) s.parts

-- the representations of a sequence at the place of a part
abbrev pub sequence_reps : Mapping → SegmentGrid → Bool → ℕ → SequenceSeen → List Rep
sequence_reps m g align place s = option_map_or (reps_seen m g align s.number (place + 1) (first_cell g (parts_seen s) place)) (slice_get s.parts place) []

-- the length of a part: the declared one, and else that of its longest track
abbrev pub lead_length : Part → Option Seen → ℕ
lead_length part track = option_map_or (λ s. length_seen part s.1.lead) track 0

abbrev pub part_length : Part × PartSeen → ℕ
part_length p = unwrap_or p.0.length_ms (max (lead_length p.0 p.1.video) (lead_length p.0 p.1.audio))

abbrev pub sequence_length : ℕ → SequenceSeen → ℕ
sequence_length place s = option_map_or part_length (slice_get s.parts place) 0

-- a period for each part of the first sequence
abbrev pub period_seen : Mapping → SegmentGrid → Bool → List SequenceSeen → ℕ × Part → Period
period_seen m g align ss (place, part) = record {
  part = place + 1;
  start = part.start;
  length_ms = fold max 0 (map (sequence_length place) ss);
  reps = flat_map (sequence_reps m g align place) ss;
}

abbrev pub first_seen : List SequenceSeen → List Part
first_seen ss = option_map_or parts_seen (slice_get ss 0) []

abbrev pub periods_seen : Mapping → SegmentGrid → Bool → List SequenceSeen → List Period
periods_seen m g align ss = map (period_seen m g align ss) (enumerate_from 0 (first_seen ss))
