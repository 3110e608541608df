-- The cells of the parts of sequences that were looked at; this project's own.
use Rattle.std.specs.Prelude.{ℕ, ◌+◌, List, [], sum_by, Option, Some, None, option_map, unwrap_or}
use Rattle.clip_model.specs.declared.Part.{Part}
use Rattle.segment_model.specs.Grid.{SegmentGrid, cells, milliseconds}
use Rattle.segment_model.specs.Rows.{TimedRow}
use Rattle.segment_model.specs.Timeline.{lead_end}
use Rattle.flat_lists.specs.declared.looked_sequences.LookedSequence.{LookedSequence}
use Rattle.flat_lists.specs.LookedSequences.{looked_seen}
use Rattle.flat_lists.specs.PartTracks.{PartSeen, Seen}

-- the length of a track of a part in milliseconds: the declared one, and else up to the end of its rows
abbrev pub length_seen : Part → List TimedRow → ℕ
length_seen part lead = unwrap_or part.length_ms (milliseconds (lead_end part.start lead))

abbrev pub track_cells : SegmentGrid → Part → Seen → ℕ
track_cells g part s = cells g (length_seen part s.1.lead)

-- those of the tracks of a part, which counts once where it has none
abbrev pub counted : ℕ → Option ℕ → Option ℕ → ℕ
counted once (Some video) audio = video + unwrap_or audio 0
counted once None audio = unwrap_or audio once

abbrev pub part_cells : SegmentGrid → Part × PartSeen → ℕ
part_cells g p = counted (cells g (length_seen p.0 [])) (option_map (track_cells g p.0) p.1.video) (option_map (track_cells g p.0) p.1.audio)

abbrev pub sequence_cells : SegmentGrid → LookedSequence → ℕ
sequence_cells g s = sum_by (λ p. part_cells g (looked_seen p)) s.parts.items

abbrev pub all_cells : SegmentGrid → List LookedSequence → ℕ
all_cells g ss = sum_by (sequence_cells g) ss
