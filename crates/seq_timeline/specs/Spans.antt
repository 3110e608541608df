-- Parts as the definitions see them.
use Rattle.std.specs.Prelude.{ℕ, List, ◌++◌, length, pos, Bool, map, flat_map}
use Rattle.std.specs.List.{enumerate_from}
use Rattle.vod_types.specs.declared.tracks.TrackName.{TrackName}
use Rattle.vod_types.specs.declared.paths.Window.{Window}
use Rattle.clip_model.specs.declared.Part.{Part}
use Rattle.clip_model.specs.declared.Piece.{Piece}
use Rattle.clip_model.specs.Trim.{units}
use Rattle.clip_model.specs.Timeline.{Placed, kept_spans, spans, with_pieces, parts_from, Timeline, timeline_of_spans}
use Rattle.clip_model.specs.Timeline as model
use Rattle.seq_timeline.specs.declared.spans.Span.{Span}

-- a part of these clips
abbrev pub span_view : List Placed → Span → model.Span
span_view clips s = record { start = s.start; length = s.length; clips = clips }

-- a part whose pieces stand from first on
abbrev pub part_of : model.Span → ℕ → ℕ → Part
part_of s first count = record { start = units (pos s.start); length_ms = s.length; first = first; count = count }

-- the kept parts of these and their pieces, where the first kept one is that of number k
abbrev pub kept_shares : List ℕ → List TrackName → Window → ℕ → List model.Span → List (model.Span × List Piece)
kept_shares root tracks w k ss = map (λ e. with_pieces root tracks w e.0 e.1) (enumerate_from k (kept_spans w ss))

-- a timeline with these parts and their pieces behind it
abbrev pub with_shares : Timeline → List (model.Span × List Piece) → Timeline
with_shares t xs = record { pieces = t.pieces ++ flat_map (λ s. s.1) xs; parts = t.parts ++ parts_from (length t.pieces) xs }

-- the timeline of clips in their places, each a part of its own or all of them one part
abbrev pub timeline_of_clips : List ℕ → List TrackName → Window → Bool → List Placed → Timeline
timeline_of_clips root tracks w apart ps = timeline_of_spans (kept_shares root tracks w 0 (spans apart ps))
