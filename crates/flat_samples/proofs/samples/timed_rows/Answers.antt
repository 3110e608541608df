-- The samples of a track one by one.
use Rattle.std.proofs.Common.{◌≡◌, ◌+◌, ◌<◌, ◌≤◌, ◌*◌, ◌++◌, List, [], ◌∷◌, map, sym, ap, subst, ◌∙◌, refl, All, unsigned_abs, arith}
use Rattle.std.proofs.lemmas.List.Elements.{All-nil}
use Rattle.mp4_model.specs.Clock.{to_units}
use Rattle.mp4_model.specs.Samples.{FlatRow, sample_count, flat_row}
use Rattle.mp4_tracks.specs.Views.{good_of}
use Rattle.segment_model.specs.Rows.{TimedRow, timed_rows}
use Rattle.flat_samples.specs.declared.samples.TimedSample.{TimedSample}
use Rattle.flat_samples.specs.Rows.{timed_view, IsFileRow}
use Rattle.flat_samples.specs.Written.{flat_view, most_units}
use Rattle.flat_samples.proofs.TimeLemmas.{first_rows, kept_of, has_sample, row_is, sound_short, sound_shown, next_time, none-kept, kept-more, all-kept}
use Rattle.flat_samples.proofs.samples.timed_rows.Goals as goal

pub sample-sample-requires : goal.sample-sample-requires
sample-sample-requires c =
    let g = good_of c.args.track.now in
    let h : c.loop-number.number < sample_count g.tables = omega (arith, c.requires.samples) in
    has_sample g c.args.tables.now c.loop-number.number c.requires.sound c.requires.tables h

pub push_kept-requires-clause-short : goal.push_kept-requires-clause-short
push_kept-requires-clause-short c =
    let g = good_of c.args.track.now in
    let i = c.loop-number.number in
    let h : i < sample_count g.tables = omega (arith, c.requires.samples) in
    let is : flat_view c.sample-sample.result ≡ flat_row g.tables i = c.sample-sample.ensures ∙ row_is g.tables c.args.tables.now i c.loop-number.decode_time c.requires.tables h c.loop-number.invariant.time in
    let P : FlatRow → Type 0 = λ r. to_units g.timescale (r.decode_time + r.delta) ≤ most_units in
    subst P (sym is) (sound_short g i c.requires.sound h)

pub push_kept-requires-clause-near : goal.push_kept-requires-clause-near
push_kept-requires-clause-near c =
    let g = good_of c.args.track.now in
    let i = c.loop-number.number in
    let h : i < sample_count g.tables = omega (arith, c.requires.samples) in
    let is : flat_view c.sample-sample.result ≡ flat_row g.tables i = c.sample-sample.ensures ∙ row_is g.tables c.args.tables.now i c.loop-number.decode_time c.requires.tables h c.loop-number.invariant.time in
    let P : FlatRow → Type 0 = λ r. unsigned_abs r.composition_offset ≤ 3600 * g.timescale in
    subst P (sym is) (sound_shown g i c.requires.sound h)

pub loop-number-init : goal.loop-number-init
loop-number-init c = record {
  rows = ap (map timed_view) c.new-rows.ensures.items ∙ sym (none-kept c.args.cut (good_of c.args.track.now));
  bounds = subst (λ (items : List TimedSample). All IsFileRow (map timed_view items)) (sym c.new-rows.ensures.items) (All-nil IsFileRow);
  time = refl;
}

pub loop-number-preserved : goal.loop-number-preserved
loop-number-preserved c =
    let g = good_of c.args.track.now in
    let cut = c.args.cut in
    let i = c.loop-number.number in
    let h : i < sample_count g.tables = omega (arith, c.requires.samples) in
    let is : flat_view c.sample-sample.result ≡ flat_row g.tables i = c.sample-sample.ensures ∙ row_is g.tables c.args.tables.now i c.loop-number.decode_time c.requires.tables h c.loop-number.invariant.time in
    record {
      rows = c.in_ok-push_kept.ensures.rows
          ∙ ap (λ (l : List TimedRow). l ++ kept_of cut g.timescale ((i, flat_view c.sample-sample.result) ∷ [])) c.loop-number.invariant.rows
          ∙ ap (λ (s : FlatRow). timed_rows (first_rows cut g i) ++ kept_of cut g.timescale ((i, s) ∷ [])) is
          ∙ sym (kept-more cut g i);
      bounds = c.in_ok-push_kept.ensures.bounds;
      time = omega (arith, ap (λ (r : FlatRow). r.delta) is, c.loop-number.invariant.time, c.from-decode_time.ensures, next_time g i c.requires.sound h);
    }

pub returns-clause-rows : goal.returns-clause-rows
returns-clause-rows c =
    let g = good_of c.args.track.now in
    let all : c.loop-number.number ≡ sample_count g.tables = omega (arith, c.requires.samples) in
    c.loop-number.invariant.rows ∙ ap (λ n. timed_rows (first_rows c.args.cut g n)) all ∙ all-kept c.args.cut g
