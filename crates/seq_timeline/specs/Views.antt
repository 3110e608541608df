-- Clips in their places as the definitions see them.
use Rattle.seq_timeline.specs.declared.places.Placed.{Placed}
use Rattle.clip_map.specs.Views.{clip_view}
use Rattle.clip_model.specs.Mapping.{SourceClip, ConcatClip, source, concat}
use Rattle.clip_model.specs.Timeline as model

abbrev pub placed_view : Placed → model.Placed
placed_view p = record { clip = clip_view p.clip.now; start = p.start; length = p.length }

-- a source clip in that place
abbrev pub as_source : Placed → SourceClip → model.Placed
as_source p c = record { clip = source c; start = p.start; length = p.length }

-- a concat clip in that place
abbrev pub as_concat : Placed → ConcatClip → model.Placed
as_concat p c = record { clip = concat c; start = p.start; length = p.length }
