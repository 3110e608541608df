use Rattle.std.proofs.Common.{◌≡◌, ◌+◌, ◌-◌, [], ◌++◌, length, drop, take, cond, refl, ap, ◌∙◌}
use Rattle.vod_types.specs.Tracks.{same_kind}
use Rattle.vod_gen.specs.Edited.{track_box_with}
use Rattle.vod_gen.specs.EditSteps.{chunk_end}
use Rattle.vod_gen.proofs.EditedFile.{no_samples, track_cut}
use Rattle.vod_gen.proofs.edits.put_edited_track.Goals as goal
use Rattle.vod_gen.proofs.edits.put_edited_track.Goals.{then-is_of, else-is_of}

pub returns : goal.returns
returns c number place t is fits =
    let track = c.args.track.now in
    let edits = c.args.edits.now in
    let boxes = c.if-is_of.added.now in
    let cut = track_cut number place t track is in
    let end = c.saturating_sub-end.ensures in
    let kind = c.is_of.ensures number place t is in
    let added : boxes ≡ cond (same_kind t.kind c.args.kind) edits [] = elim c.if-is_of.branch [
      | then-is_of w ↦ rw (w.added-is, ← kind, w.if-is_of.true) refl
      | else-is_of w ↦ rw (w.added-is, ← kind, w.if-is_of.false) refl
    ] in
    let front : c.behind.result.now ≡ drop 4 (take (length track - 8) track) =
    c.behind.ensures ∙ ap (drop 4) (c.front.ensures ∙ ap (λ n. take n track) end) in
    let back : c.behind-2.result.now ≡ chunk_end (no_samples t) place = c.behind-2.ensures ∙ ap (λ n. drop n track) end ∙ cut.back in
    let moved = c.in_ok-put_moved_chunk.ensures (no_samples t) place back fits in
    rw (c.in_ok-bytes-2.ensures.ok, moved, c.in_ok-bytes.ensures.ok, front, c.in_ok-put_low.ensures) (cut.moved (length edits) c.args.buf.now boxes)
    ∙ ap (λ l. c.args.buf.now ++ track_box_with number (place + length edits) t l) added
