-- The rows of the clip of a sequence as they are held; this project's own.
use Rattle.std.specs.Prelude.{◌≡◌, ℕ, Bool, ◌+◌, ◌≤◌, ◌^◌, ◌==◌, nat_lt, List, [], ◌∷◌, length, find, map, option_map, Result, Ok, All}
use Rattle.std.specs.Bool.{then_some}
use Rattle.vod_types.specs.declared.refusal.Refusal.{Refusal}
use Rattle.vod_types.specs.declared.refusal.Refusal.TheVariants as refusals
use Rattle.vod_types.specs.Results.{◌>>=◌, ◌>>◌, unless}
use Rattle.clip_model.specs.Timeline.{Timeline}
use Rattle.segment_model.specs.Grid.{SegmentGrid}
use Rattle.segment_model.specs.Rows.{TimedRow}
use Rattle.segment_model.specs.Timeline.{TrackRows}
use Rattle.media_model.specs.Clip.{ClipTrack}
use Rattle.media_model.specs.Fragment.{sizes}
use Rattle.vod_source.specs.Stored.{Files}
use Rattle.origin_model.specs.Clips.{PlannedClip, clip_video, clip_audio, one_piece}
use Rattle.origin_model.specs.Plans.{pieces_or_none, Cutting}
use Rattle.flat_clip.specs.declared.rows.ClipRows.{ClipRows}
use Rattle.flat_clip.specs.Tracks.{track_view, IsSmallTrack}

-- what is kept of a clip: the name and the size of its file, and its tracks
pub record ClipFacts : Type 0 where
  pub name : List ℕ
  pub size : ℕ
  pub video : ClipTrack
  pub audio : ClipTrack

abbrev pub facts_of : ClipRows → ClipFacts
facts_of r = record { name = r.name; size = r.file_size; video = track_view r.video; audio = track_view r.audio }

abbrev pub planned_facts : PlannedClip → ClipFacts
planned_facts p = record { name = p.piece.piece.name; size = p.piece.file_size; video = clip_video p; audio = clip_audio p }

-- those of a clip that is due
abbrev pub as_facts : Result PlannedClip Refusal → Result ClipFacts Refusal
as_facts r = r >>= λ p. Ok (planned_facts p)

-- the tracks are small, and so are all samples together
pub record IsSmallClip (f : ClipFacts) : Type 0 where
  pub video : IsSmallTrack f.video
  pub audio : IsSmallTrack f.audio
  pub bytes : sizes f.video.rows + sizes f.audio.rows ≤ 2 ^ 40

-- no lead row, or too many rows of a track
abbrev pub counts_checked : ℕ → TrackRows → Result (Unit {0}) Refusal
counts_checked sequence rows =
    unless (then_some (length rows.lead == 0) (refusals.EmptyClip sequence))
    >> unless (option_map (λ count. refusals.TooManySamples count) (find (nat_lt 2000000) (length rows.lead ∷ length rows.other ∷ [])))

-- the first of one part
abbrev pub AreFirst : List TimedRow → Type 0
AreFirst rows = All (λ r. r.file ≡ 0) rows

-- the names of the files that have a turn
abbrev pub clip_looks : ℕ → Timeline → List (List ℕ)
clip_looks sequence t = map (λ piece. piece.name) (pieces_or_none (one_piece sequence t >>= λ piece. Ok (piece ∷ [])))

-- how parts of a timeline are cut has no say in a clip
abbrev pub cutting_of : Files → Bool → SegmentGrid → Bool → Cutting
cutting_of files edits grid align = record { files = files; edits = edits; grid = grid; align = align }
