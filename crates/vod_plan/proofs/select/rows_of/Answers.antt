-- A track that was found has as many rows as its view says.
use Rattle.std.proofs.Common.{◌≡◌, ◌≤◌, ◌^◌, ℤ, of_z, to_z, w64, sym, ap, ◌∙◌, arith}
use Rattle.std.specs.Prelude.{unsigned_abs}
use Rattle.std.specs.Result.{result_ok}
use Rattle.std.proofs.lemmas.Int.{ints, to_z-of_z}
use Rattle.mp4_model.specs.GoodTracks.{GoodTrack}
use Rattle.mp4_model.specs.Samples.{sample_count}
use Rattle.mp4_tracks.specs.Views.{good_of}
use Rattle.vod_meta.proofs.ShownLemmas.{shown-good, shown-faulty}
use Rattle.vod_plan.proofs.FoundSpans.{whole-in, whole-is}
use Rattle.vod_plan.proofs.select.rows_of.Goals as goal

fits : (units : ℤ) → unsigned_abs units ≤ 2 ^ 40 → to_z w64 (of_z w64 units) ≡ units
fits units h = to_z-of_z w64 units (omega (arith, ints, h))

pub returns-in-Ok-clause-kept : goal.returns-in-Ok-clause-kept
returns-in-Ok-clause-kept c =
    let m = c.args.meta.now.movie in
    let same = sym (shown-good m c.args.asked.track (good_of c.in-Ok.view) c.in-Ok.ensures.view.0) ∙ c.requires.is in
    let is : good_of c.in-Ok.view ≡ c.requires.good = cc same in
    rw (fits c.args.asked.edit.delay c.requires.delay, fits c.args.asked.edit.skip c.requires.skip) (whole-in m c.args.asked c.requires c.in-Ok.view.samples (c.in-Ok.ensures.view.1 ∙ ap (λ (t : GoodTrack). sample_count t.tables) is))

pub returns-in-Ok-clause-range : goal.returns-in-Ok-clause-range
returns-in-Ok-clause-range c =
    let m = c.args.meta.now.movie in
    let same = sym (shown-good m c.args.asked.track (good_of c.in-Ok.view) c.in-Ok.ensures.view.0) ∙ c.requires.is in
    let is : good_of c.in-Ok.view ≡ c.requires.good = cc same in
    rw (fits c.args.asked.edit.delay c.requires.delay, fits c.args.asked.edit.skip c.requires.skip) (whole-is m c.args.asked c.requires c.in-Ok.view.samples (c.in-Ok.ensures.view.1 ∙ ap (λ (t : GoodTrack). sample_count t.tables) is))

pub returns-in-Err-clause-kept : goal.returns-in-Err-clause-kept
returns-in-Err-clause-kept c =
    let m = c.args.meta.now.movie in
    let none = shown-faulty m c.args.asked.track c.in-Err.field-0 c.in-Err.ensures.view in
    let same = sym none ∙ ap (λ v. result_ok v) c.requires.is in
    absurd cc

pub returns-in-Err-clause-range : goal.returns-in-Err-clause-range
returns-in-Err-clause-range c =
    let m = c.args.meta.now.movie in
    let none = shown-faulty m c.args.asked.track c.in-Err.field-0 c.in-Err.ensures.view in
    let same = sym none ∙ ap (λ v. result_ok v) c.requires.is in
    absurd cc
