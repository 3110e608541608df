-- A whole clip is refused as a path may be.
use Rattle.std.proofs.Common.{ℕ, None}
use Rattle.vod_types.specs.declared.tracks.Asked.{Asked}
use Rattle.clip_model.specs.Timeline.{Timeline}
use Rattle.origin_model.specs.Clips.{PlannedClip, checked_clip, checked_part, one_piece, planned_clip}
use Rattle.origin_model.specs.Loaded.{CheckedPiece}
use Rattle.origin_model.specs.Plans.{Cutting}
use Rattle.answer_laws.proofs.Segments.{checked_may, sample_may}
use Rattle.answer_laws.proofs.Steps.{May, then_may, after_may, ok_or_may, unless_may, some_may, map_may, first_may}

piece_may : (sequence : ℕ) (t : Timeline) → May (one_piece sequence t)
unfolding one_piece
piece_may sequence t = search (after_may, ok_or_may, unless_may, some_may)

rows_may : (sequence : ℕ) (asked : Asked) (c : CheckedPiece) → May (checked_clip sequence asked c)
unfolding checked_clip
rows_may sequence asked c = search (after_may, unless_may, some_may, map_may) depth 9

pub clip_may : (c : Cutting) (asked : Asked) (t : Timeline) (sequence : ℕ) → May (planned_clip c asked t sequence)
unfolding planned_clip
clip_may c asked t sequence = then_may _ _ (piece_may sequence t) (λ piece. then_may _ _ (checked_may c.files c.edits asked piece) (rows_may sequence asked))

pub whole_may : (clip : PlannedClip) → May (checked_part clip None)
unfolding checked_part
whole_may clip = search (after_may, unless_may, first_may, sample_may)
