use Rattle.std.proofs.Common.{◌≡◌, ℕ, ℤ, ◌+◌, List, [], ◌++◌, length}
use Rattle.vod_gen.specs.declared.spec.TrackSpec.{TrackSpec}
use Rattle.vod_gen.specs.Edited.{edit_box, edited_tracks}
use Rattle.vod_gen.specs.EditSteps.{AreTracks}
use Rattle.vod_gen.proofs.EditedFile.{Walked}
use Rattle.vod_gen.proofs.edits.put_edited_tracks.Given as goal

abbrev pub invariant-loop-left : goal.invariant-loop-left
invariant-loop-left l =
    (start : ℕ) (all : List TrackSpec) (entries : List (ℕ × ℤ)) → AreTracks start all l.tracks → l.edits ≡ edit_box entries →
    Walked l.kind entries start all l.left l.buf (l.fn.buf ++ edited_tracks l.kind entries (start + length l.edits) all [] all)

abbrev pub decreases-loop-left : goal.decreases-loop-left
decreases-loop-left l = length l.left
