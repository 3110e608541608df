-- The tracks of the parts of a sequence, each asked alone, with its selected rows by their numbers; this project's own.
use Rattle.std.specs.Prelude.{◌≡◌, ◌≤◌, ℕ, length, map, option_map, All, IfSome}
use Rattle.vod_types.specs.declared.tracks.Kind.{Kind}
use Rattle.vod_types.specs.declared.tracks.Kind.TheVariants.{Video, Audio}
use Rattle.flat_lists.specs.PartTracks.{PartSeen, Seen}
use Rattle.vod_plan.specs.Narrowed.{IsSound}
use Rattle.vod_plan.specs.Selected.{rows_planned}
use Rattle.vod_plan.specs.Spans.{piece_view}
use Rattle.seek_lists.specs.declared.part_tracks.PartTrack.{PartTrack}
use Rattle.seek_lists.specs.declared.part_tracks.PartTracks.{PartTracks}

-- what is kept of a track: what its representation says, and its rows
abbrev pub seen_of : PartTrack → Seen
seen_of t = (t.facts, rows_planned t.facts.kind (map piece_view t.pieces.items))

abbrev pub part_seen : PartTracks → PartSeen
part_seen p = record { video = option_map seen_of p.video; audio = option_map seen_of p.audio }

-- a track of this kind with the rows of so many pieces
pub record IsPlacedTrack (kind : Kind) (count : ℕ) (t : PartTrack) : Type 0 where
  pub kind_is : t.facts.kind ≡ kind
  pub count_is : length t.pieces.items ≡ count
  pub sound : All IsSound t.pieces.items

pub record ArePlaced (count : ℕ) (p : PartTracks) : Type 0 where
  pub video : IfSome p.video (IsPlacedTrack Video count)
  pub audio : IfSome p.audio (IsPlacedTrack Audio count)

-- the same of at most 1024 pieces
pub record IsKeptTrack (t : PartTrack) : Type 0 where
  pub sound : All IsSound t.pieces.items
  pub many : length t.pieces.items ≤ 1024

pub record AreFew (p : PartTracks) : Type 0 where
  pub video : IfSome p.video IsKeptTrack
  pub audio : IfSome p.audio IsKeptTrack
