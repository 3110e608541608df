use Rattle.std.proofs.Common.{◌≡◌, ◌+◌, drop}
use Rattle.std.specs.List.{prefix_len}
use Rattle.media_model.specs.WritingOrder.{is_before}
use Rattle.flat_clip.proofs.placed.audio_before.Given as goal

abbrev pub invariant-loop-place : goal.invariant-loop-place
invariant-loop-place l = l.place + prefix_len (is_before l.fn.video) (drop l.place l.left) ≡ prefix_len (is_before l.fn.video) l.left
