-- The clip of the ranges that were selected.
use Rattle.std.proofs.Common.{ℤ, sym, ap, subst, ◌∙◌, arith, rules, FitsSigned, w64}
use Rattle.std.specs.Prelude.{Ok}
use Rattle.std.proofs.lemmas.Int.{to_z-of_z}
use Rattle.std.specs.Rc.{rc_value}
use Rattle.vod_types.specs.declared.tracks.Kind.TheVariants.{Audio, Video}
use Rattle.media_model.specs.Fragment.{sizes}
use Rattle.clip_model.specs.declared.Piece.{Piece}
use Rattle.vod_plan.specs.Spans.{piece_view}
use Rattle.vod_plan.specs.Tracks.{checked_view}
use Rattle.vod_plan.proofs.FoundLemmas.{kept_in}
use Rattle.mp4_clip.specs.Counts.{HaveRoom}
use Rattle.mp4_clip.specs.Kept.{checked_of, clip_of}
use Rattle.mp4_clip.proofs.DueClip.{checked-is, due-clip, due-counts, due-large, piece-kept}
use Rattle.mp4_clip.proofs.References.{planned-references}
use Rattle.mp4_clip.proofs.StartLemmas.{track-rows}
use Rattle.mp4_clip.proofs.making.checked_clip.Goals as goal

pub returns-in-Err-clause-answers : goal.returns-in-Err-clause-answers
returns-in-Err-clause-answers g c = λ other.
    let s = c.selected-rows.ensures in
    due-counts c.args.sequence c.args.asked c.args.piece.now c.args.tracks c.selected-rows.result s.kept c.requires.found c.requires.sound s.meta s.selected c.in-Err.refusal (sym c.in-Err.is ∙ c.check_counts.ensures.answers)

pub returns-then-bytes-gt1099511627776-clause-answers : goal.returns-then-bytes-gt1099511627776-clause-answers
returns-then-bytes-gt1099511627776-clause-answers g c = λ other.
    let s = c.selected-rows.ensures in
    due-large c.args.sequence c.args.asked c.args.piece.now c.args.tracks c.selected-rows.result s.kept c.requires.found c.requires.sound s.meta s.selected c.in-Ok.field-0 (sym c.in-Ok.is ∙ c.check_counts.ensures.answers)
    c.in-Some.bytes c.in-Some.ensures.bytes c.if-bytes-gt1099511627776.true

pub invariant_of-result : goal.invariant_of-result
invariant_of-result g c =
    let s = c.selected-rows.ensures in
    let p = c.selected-rows.result in
    let is = checked-is c.args.sequence c.args.asked c.args.piece.now c.args.tracks p s.kept c.requires.found c.requires.sound s.meta s.selected in
    let room : HaveRoom (checked_of c.args.piece.now p) = subst HaveRoom is c.requires.room in
    let video = ap (λ (xs : _). sizes xs) (track-rows Video p) in
    let audio = ap (λ (xs : _). sizes xs) (track-rows Audio p) in
    record {
      rows = s.kept;
      video = c.in-Ok.ensures.video;
      audio = c.in-Ok.ensures.audio;
      video_kept = kept_in Video (checked_view c.args.piece.now c.args.tracks) (piece_view p) s.selected;
      audio_kept = kept_in Audio (checked_view c.args.piece.now c.args.tracks) (piece_view p) s.selected;
      bytes = omega (arith, c.in-Some.ensures.bytes, c.if-bytes-gt1099511627776.false);
      references = planned-references (clip_of c.args.piece.now p) room.0 room.1;
      start = c.in-Some-media_start.ensures.start;
      length = omega (arith, c.in-Some.ensures.bytes, c.in-Some-media_start.ensures.start, video, audio);
    }

pub returns-clause-answers : goal.returns-clause-answers
returns-clause-answers g c =
    let s = c.selected-rows.ensures in
    let p = c.selected-rows.result in
    let piece = c.args.piece.now in
    let fits : FitsSigned w64 piece.lo = search rules in
    let lo = to_z-of_z w64 piece.lo fits in
    due-clip c.args.sequence c.args.asked piece c.args.tracks p s.kept c.requires.found c.requires.sound s.meta s.selected c.in-Ok.field-0 (sym c.in-Ok.is ∙ c.check_counts.ensures.answers)
    c.in-Some.bytes c.in-Some.ensures.bytes c.if-bytes-gt1099511627776.false
    ∙ ap (λ (q : Piece). Ok (clip_of q p)) (sym (piece-kept piece p s.selected.name s.selected.base))
    ∙ ap (λ (l : ℤ). Ok (clip_of (record { name = (rc_value p.meta).name; tracks = piece.tracks; base = p.base; lo = l; hi = piece.hi; part = piece.part }) p)) (sym lo)
