-- A pass over all rows, one after another.
use Rattle.std.proofs.Common.{◌≡◌, ℕ, ◌∷◌, max, List, length, map, fold, sym, ap, subst, ◌∙◌, arith}
use Rattle.std.specs.List.{AllByRecursion}
use Rattle.std.proofs.lemmas.List.Sums.{sum_by-cons}
use Rattle.media_model.specs.WritingOrder.{TrackRow, of_track}
use Rattle.origin_model.specs.Samples.{sizes_of}
use Rattle.vod_types.specs.declared.tracks.Kind.TheVariants.{Video, Audio}
use Rattle.vod_plan.specs.Dues.{shown}
use Rattle.vod_plan.specs.Passes.{ordered_rows, rows_behind, rows_left}
use Rattle.vod_plan.specs.RowFaults.{facts_of, first_fault, EndsLow}
use Rattle.vod_plan.specs.Spans.{piece_view}
use Rattle.vod_plan.proofs.PassLemmas.{looks_bound, none_rows, rows_count}
use Rattle.vod_plan.proofs.RowFaults.{fault_found, fault_left, first_fault-none}
use Rattle.vod_plan.proofs.passes.passed.Goals as goal

abbrev size_of : TrackRow → ℕ
size_of r = r.row.sample.size

abbrev AreLow : List TrackRow → Type 0
AreLow rows = AllByRecursion (λ (r : TrackRow). EndsLow r.row) rows

pub loop-turn-init : goal.loop-turn-init
loop-turn-init g c =
    let form = c.args.form in
    let ps = c.args.pieces.now in
    let rows : rows_left form (map piece_view ps) c.begun-pass.result ≡ ordered_rows form (map piece_view ps) = c.begun-pass.ensures.rows form in
    record {
      pass = c.begun-pass.ensures.pass;
      fault = ap (first_fault form (map facts_of ps)) rows;
      ends = λ all. subst AreLow rows all;
      largest = ap (λ (n : ℕ). fold max n (map size_of (rows_left form (map piece_view ps) c.begun-pass.result))) c.begun-pass.ensures.largest ∙ ap (λ (l : List TrackRow). fold max 0 (map size_of l)) rows;
      bytes = omega (arith, c.begun-pass.ensures.bytes, ap sizes_of rows);
      few = omega (arith, c.begun-pass.ensures.bytes, ap length rows, rows_count form ps c.requires.pieces, c.requires.video, c.requires.audio, c.requires.short);
      looks = c.begun-pass.ensures.looks;
    }

pub loop-turn-preserved : goal.loop-turn-preserved
loop-turn-preserved g c =
    let form = c.args.form in
    let ps = c.args.pieces.now in
    let old : List TrackRow = rows_left form (map piece_view ps) c.loop-turn.pass in
    let new : List TrackRow = rows_left form (map piece_view ps) c.in-Ok.now in
    let row : TrackRow = of_track c.in-Some.turn.0 (shown form c.in-Some.turn.1) in
    let rows : old ≡ row ∷ new = c.in-Ok.ensures.rows in
    let loop = c.loop-turn.invariant in
    record {
      pass = c.in-Ok.ensures.pass;
      fault = sym (fault_left form (map facts_of ps) row new c.in-Ok.ensures.sound) ∙ sym (ap (first_fault form (map facts_of ps)) rows) ∙ loop.fault;
      ends = λ all. loop.ends (subst AreLow (sym rows) (c.in-Ok.ensures.ends, all));
      largest = ap (λ (n : ℕ). fold max n (map size_of new)) c.in-Ok.ensures.largest ∙ sym (ap (λ (l : List TrackRow). fold max c.loop-turn.pass.largest (map size_of l)) rows) ∙ loop.largest;
      bytes = omega (arith, c.in-Ok.ensures.bytes, ap sizes_of rows, sum_by-cons size_of row new, loop.bytes);
      few = omega (arith, c.in-Ok.ensures.bytes, c.in-Ok.ensures.short, ap length rows, loop.few);
      looks = omega (arith, c.in-Ok.ensures.looks, loop.looks);
    }

pub returns-in-Err-clause-refused : goal.returns-in-Err-clause-refused
returns-in-Err-clause-refused g c = λ other.
    let form = c.args.form in
    let ps = c.args.pieces.now in
    let pass = c.loop-turn.pass in
    let rows = c.in-Some.ensures.0.order (rows_behind form Video (map piece_view ps) pass.video.walk) (rows_behind form Audio (map piece_view ps) pass.audio.walk) in
    sym c.loop-turn.invariant.fault ∙ ap (first_fault form (map facts_of ps)) rows
    ∙ fault_found form (map facts_of ps) (of_track c.in-Some.turn.0 (shown form c.in-Some.turn.1)) _ c.in-Err.refusal (c.in-Err.ensures.refused other)

pub returns-in-Err-clause-looks : goal.returns-in-Err-clause-looks
returns-in-Err-clause-looks g c =
    let most = looks_bound c.args.pieces.now c.loop-turn.pass c.loop-turn.invariant.pass in
    omega (arith, most, c.loop-turn.invariant.looks, c.in-Err.ensures.same_looks, c.requires.video, c.requires.audio)

pub returns-clause-sound : goal.returns-clause-sound
returns-clause-sound g c =
    let form = c.args.form in
    let ps = c.args.pieces.now in
    let none = none_rows form (map piece_view ps) c.loop-turn.pass c.in_default.ensures.0 c.in_default.ensures.1 in
    sym c.loop-turn.invariant.fault ∙ ap (first_fault form (map facts_of ps)) none ∙ first_fault-none form (map facts_of ps)

pub returns-clause-looks : goal.returns-clause-looks
returns-clause-looks g c =
    let most = looks_bound c.args.pieces.now c.loop-turn.pass c.loop-turn.invariant.pass in
    omega (arith, most, c.loop-turn.invariant.looks, c.requires.video, c.requires.audio)
