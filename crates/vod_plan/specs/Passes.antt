-- A pass over the rows of both kinds in writing order; this project's own.
use Rattle.std.specs.Prelude.{◌≡◌, ℕ, ◌+◌, ◌*◌, Bool, false, List, [], ◌∷◌, map, drop, Option, Some, None, IfSome}
use Rattle.vod_types.specs.declared.tracks.Kind.{Kind}
use Rattle.vod_types.specs.declared.tracks.Kind.TheVariants.{Video, Audio}
use Rattle.vod_types.specs.declared.segments.Form.{Form}
use Rattle.vod_types.specs.declared.segments.Form.TheVariants.{Ts, Fmp4}
use Rattle.vod_types.specs.declared.segments.Row.{Row}
use Rattle.segment_model.specs.Rows.{written_row}
use Rattle.media_model.specs.WritingOrder.{TrackRow, of_track, is_before}
use Rattle.vod_plan.specs.declared.passes.Head.{Head}
use Rattle.vod_plan.specs.declared.passes.Pass.{Pass}
use Rattle.vod_plan.specs.declared.samples.DueRow.{DueRow}
use Rattle.vod_plan.specs.declared.walk.Walk.{Walk}
use Rattle.vod_plan.specs.Dues.{shown, IsDue}
use Rattle.vod_plan.specs.Ranges.{PlannedPiece, planned_of}
use Rattle.vod_plan.specs.RowFaults.{ordered}
use Rattle.vod_plan.specs.Walks.{behind, IsWalk}

-- ---- the rows that are left

-- those behind a row that is due; none where none is
abbrev pub with_next : Form → Option DueRow → List Row → List Row
with_next form None rows = []
with_next form (Some d) rows = shown form d ∷ rows

abbrev pub rows_behind : Form → Kind → List PlannedPiece → Walk → List Row
rows_behind form kind pieces walk = map (written_row form) (drop walk.given (planned_of kind pieces))

abbrev pub head_rows : Form → Kind → List PlannedPiece → Head → List Row
head_rows form kind pieces h = with_next form h.next (rows_behind form kind pieces h.walk)

-- all of them in writing order
abbrev pub ordered_rows : Form → List PlannedPiece → List TrackRow
ordered_rows form pieces = ordered form (map (written_row form) (planned_of Video pieces)) (map (written_row form) (planned_of Audio pieces))

-- those that are left
abbrev pub rows_left : Form → List PlannedPiece → Pass → List TrackRow
rows_left form pieces p = ordered form (head_rows form Video pieces p.video) (head_rows form Audio pieces p.audio)

-- ---- what a pass keeps

pub record IsHead (kind : Kind) (pieces : List PlannedPiece) (h : Head) : Type 0 where
  pub walk : IsWalk kind pieces h.walk
  pub next : IfSome h.next IsDue

pub record IsPass (pieces : List PlannedPiece) (p : Pass) : Type 0 where
  pub video : IsHead Video pieces p.video
  pub audio : IsHead Audio pieces p.audio

-- ---- looks

-- at most so many for the rows that were given: two cursors for each piece that was entered, and a step of both for each row
abbrev pub looks_of : Walk → ℕ
looks_of w = 384 * behind w + 8 * w.given

abbrev pub looks_for : Pass → ℕ
looks_for p = looks_of p.video.walk + looks_of p.audio.walk

-- ---- which row is next

-- a stream writes an audio row before a video row that is decoded later
abbrev pub audio_first : Form → Row → Row → Bool
audio_first Ts video audio = is_before video audio
audio_first Fmp4 video audio = false

abbrev pub next_of : Kind → Pass → Option DueRow
next_of Video p = p.video.next
next_of Audio p = p.audio.next

-- the rows behind it in writing order, where these of each kind stand behind those that are due
abbrev pub behind_turn : Form → Kind → Option DueRow → Option DueRow → List Row → List Row → List TrackRow
behind_turn form Video video audio vs ws = ordered form vs (with_next form audio ws)
behind_turn form Audio video audio vs ws = ordered form (with_next form video vs) ws

-- the row of a kind that is due is the next one in writing order
pub record IsTurn (form : Form) (video audio : Option DueRow) (kind : Kind) (d : DueRow) : Type 0 where
  pub order : (vs ws : List Row) → ordered form (with_next form video vs) (with_next form audio ws) ≡ of_track kind (shown form d) ∷ behind_turn form kind video audio vs ws
