use Rattle.std.proofs.Common.{◌++◌, ◌+◌, All, map, drop, sym, ap, ◌∙◌, subst}
use Rattle.flat_samples.specs.Rows.{timed_view, IsPlacedRow}
use Rattle.flat_segments.specs.RowFaults.{kind_fault, ordered_fault, shown}
use Rattle.vod_types.specs.declared.tracks.Kind.TheVariants.{Audio}
use Rattle.flat_segments.specs.Segments.{facts_of}
use Rattle.flat_segments.proofs.PlacedRows.{placed_at, placed_front, placed_later}
use Rattle.flat_segments.proofs.RowFaults.{audio_found, video_found, both_left, audio_more, rows_more}
use Rattle.flat_segments.proofs.row_checks.written_rows.Goals as goal

pub audio_before-requires-clause-video : goal.audio_before-requires-clause-video
audio_before-requires-clause-video c = placed_at c.args.samples.video.now c.requires.video c.loop-sample.sample-index c.loop-sample-test.true

pub add_rows-requires-clause-placed : goal.add_rows-requires-clause-placed
add_rows-requires-clause-placed c =
    subst (λ front. All IsPlacedRow (map timed_view front)) (sym c.split_at.ensures.front) (placed_front c.loop-sample.left.now c.loop-sample.invariant.placed c.audio_before.result)

pub returns-in-Err-clause-refused : goal.returns-in-Err-clause-refused
returns-in-Err-clause-refused c = λ other.
    audio_found c.args.form (map facts_of c.args.files.now) c.args.samples.video.now c.loop-sample.left.now c.loop-sample.sample-index c.loop-sample-test.true c.audio_before.result _
    c.loop-sample.invariant.fault c.audio_before.ensures.count c.in-Err.refusal
    (ap (kind_fault c.args.form Audio (map facts_of c.args.files.now)) (sym c.split_at.ensures.front) ∙ c.in-Err.ensures.refused other)

pub add_row-requires-clause-placed : goal.add_row-requires-clause-placed
add_row-requires-clause-placed c = placed_at c.args.samples.video.now c.requires.video c.loop-sample.sample-index c.loop-sample-test.true

pub returns-in-Err-add_row-clause-refused : goal.returns-in-Err-add_row-clause-refused
returns-in-Err-add_row-clause-refused c = λ other.
    video_found c.args.form (map facts_of c.args.files.now) c.args.samples.video.now c.loop-sample.left.now c.loop-sample.sample-index c.loop-sample-test.true c.audio_before.result _
    c.loop-sample.invariant.fault c.audio_before.ensures.count
    (ap (kind_fault c.args.form Audio (map facts_of c.args.files.now)) (sym c.split_at.ensures.front) ∙ c.in-Ok.ensures.sound)
    c.in-Err-add_row.refusal (c.in-Err-add_row.ensures.refused other)

pub loop-sample-preserved : goal.loop-sample-preserved
loop-sample-preserved c = record {
  video = rows_more c.args.form c.args.samples.video.now c.loop-sample.sample-index c.loop-sample-test.true c.loop-sample.video.items c.add_row.new.rows.items _ c.loop-sample.invariant.video c.in-Ok-add_row.ensures.rows;
  audio = ap (λ later. c.add_rows.new.rows.items ++ map (shown c.args.form) later) c.split_at.ensures.back
      ∙ audio_more c.args.form c.audio_before.result c.loop-sample.left.now c.loop-sample.audio.items c.add_rows.new.rows.items _ c.loop-sample.invariant.audio
      (c.in-Ok.ensures.rows ∙ ap (λ front. c.loop-sample.audio.items ++ map (shown c.args.form) front) c.split_at.ensures.front);
  fault = ap (ordered_fault c.args.form (map facts_of c.args.files.now) (drop (c.loop-sample.sample-index + 1) c.args.samples.video.now)) c.split_at.ensures.back
      ∙ both_left c.args.form (map facts_of c.args.files.now) c.args.samples.video.now c.loop-sample.left.now c.loop-sample.sample-index c.loop-sample-test.true c.audio_before.result _
      c.loop-sample.invariant.fault c.audio_before.ensures.count
      (ap (kind_fault c.args.form Audio (map facts_of c.args.files.now)) (sym c.split_at.ensures.front) ∙ c.in-Ok.ensures.sound) c.in-Ok-add_row.ensures.sound;
  placed = subst (λ later. All IsPlacedRow (map timed_view later)) (sym c.split_at.ensures.back) (placed_later c.loop-sample.left.now c.loop-sample.invariant.placed c.audio_before.result);
  video_ends = c.in-Ok-add_row.ensures.ends;
  audio_ends = c.in-Ok.ensures.ends;
}
