-- The narrowed range is one of the same track.
use Rattle.std.proofs.Common.{◌≡◌, ◌≤◌, Some, sym, subst}
use Rattle.vod_types.specs.declared.tracks.Kind.{Kind}
use Rattle.vod_plan.specs.declared.spans.RowSpan.{RowSpan}
use Rattle.vod_plan.specs.Narrowed.{IsSound}
use Rattle.vod_plan.specs.Spans.{piece_view, rows_in, span_of}
use Rattle.vod_plan.proofs.SoundLemmas.{with_video, with_audio, video_sound, audio_sound}
use Rattle.vod_plan.proofs.cell.narrow.Goals as goal

pub returns-in-Video-clause-piece : goal.returns-in-Video-clause-piece
returns-in-Video-clause-piece c =
    let p = c.args.piece.now in
    let s = c.in-Some.span in
    let at = subst (λ (k : Kind). span_of k p ≡ Some s) c.in-Video.is (sym c.in-Some.ensures) in
    let from = subst (λ (k : Kind). c.args.from ≤ rows_in k (piece_view p)) c.in-Video.is c.requires.from in
    let to = subst (λ (k : Kind). c.args.to ≤ rows_in k (piece_view p)) c.in-Video.is c.requires.to in
    subst (λ (t : RowSpan). IsSound (with_video p t)) (sym c.narrow_span-span.ensures) (video_sound p s c.args.from c.args.to at c.requires.piece from to)

pub returns-in-Audio-clause-piece : goal.returns-in-Audio-clause-piece
returns-in-Audio-clause-piece c =
    let p = c.args.piece.now in
    let s = c.in-Some.span in
    let at = subst (λ (k : Kind). span_of k p ≡ Some s) c.in-Audio.is (sym c.in-Some.ensures) in
    let from = subst (λ (k : Kind). c.args.from ≤ rows_in k (piece_view p)) c.in-Audio.is c.requires.from in
    let to = subst (λ (k : Kind). c.args.to ≤ rows_in k (piece_view p)) c.in-Audio.is c.requires.to in
    subst (λ (t : RowSpan). IsSound (with_audio p t)) (sym c.narrow_span-span.ensures) (audio_sound p s c.args.from c.args.to at c.requires.piece from to)
