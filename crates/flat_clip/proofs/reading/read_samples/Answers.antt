use Rattle.std.proofs.Common.{◌≤◌, ◌++◌, length, flat_map, refl, rules, sym, ap, ◌∙◌, subst, arith}
use Rattle.vod_source.proofs.CallLemmas.{told_with_all, told_with_other}
use Rattle.vod_source.proofs.ToldLemmas.{told_with-more}
use Rattle.vod_source.specs.Told.{told_with}
use Rattle.flat_clip.specs.Parts.{row_part, row_reads, LiesIf}
use Rattle.flat_clip.specs.Tracks.{placed_view}
use Rattle.flat_clip.proofs.PartLemmas.{all-left, flat_map-shown, list_left, logs-cut, more-left}
use Rattle.flat_clip.proofs.PieceLemmas.{shown-at}
use Rattle.flat_clip.proofs.reading.read_samples.Goals as goal

pub read_met-requires : goal.read_met-requires
read_met-requires g c =
    subst (λ content. LiesIf c.args.name.now c.args.part content (placed_view c.sample-item.result)) (sym c.loop-sample.invariant.content)
    (subst (λ s. LiesIf c.args.name.now c.args.part (g.S.Store.content c.args.files.now) (placed_view s)) (sym c.sample-item.is)
    (shown-at (LiesIf c.args.name.now c.args.part (g.S.Store.content c.args.files.now)) placed_view c.args.samples.now c.loop-sample.sample-index c.sample-item.result c.loop-sample-test.true c.requires))

pub returns-in-Err-clause-logged : goal.returns-in-Err-clause-logged
returns-in-Err-clause-logged g c =
    let invariant = c.loop-sample.invariant in
    let reads = row_reads c.args.name.now c.args.part in
    logs-cut c.in-Err.refusal _ invariant.done (reads (placed_view c.sample-item.result)) _ _ _ _
    (flat_map-shown reads placed_view c.args.samples.now ∙ sym invariant.rest ∙ ap (λ left. invariant.done ++ flat_map (λ s. reads (placed_view s)) left)
    (list_left c.args.samples.now c.loop-sample.sample-index c.sample-item.result c.loop-sample-test.true c.sample-item.is))
    invariant.log c.in-Err.ensures.logged c.in-Err.ensures.only

pub loop-sample-preserved : goal.loop-sample-preserved
loop-sample-preserved g c =
    let invariant = c.loop-sample.invariant in
    let reads = row_reads c.args.name.now c.args.part in
    let left = list_left c.args.samples.now c.loop-sample.sample-index c.sample-item.result c.loop-sample-test.true c.sample-item.is in
    record {
      content = c.in-Ok.ensures.content ∙ invariant.content;
      later = search rules;
      told = told_with_other (g.S.Store.content c.args.files.now) (g.S.Store.content c.loop-sample.files) _ _ _ invariant.content invariant.told c.in-Ok.ensures.told
          (λ known was is. more-left (λ s. row_part c.args.name.now c.args.part known (placed_view s)) c.args.samples.now c.loop-sample.sample-index c.sample-item.result _ _ _ left was is);
      done = invariant.done ++ reads (placed_view c.sample-item.result);
      log = told_with-more _ _ _ _ _ invariant.log c.in-Ok.ensures.logged;
      rest = more-left (λ s. reads (placed_view s)) c.args.samples.now c.loop-sample.sample-index c.sample-item.result invariant.done _ _ left invariant.rest refl;
    }

pub returns-clause-told : goal.returns-clause-told
returns-clause-told g c =
    let past : length c.args.samples.now ≤ c.loop-sample.sample-index = omega (arith, c.loop-sample-test.false) in
    told_with_all (g.S.Store.content c.args.files.now) _ _ c.loop-sample.invariant.told
    (λ known was.
    all-left (λ s. row_part c.args.name.now c.args.part known (placed_view s)) c.args.samples.now c.loop-sample.sample-index _ _ past was
    ∙ ap (λ more. c.args.bytes.now.items ++ more) (sym (flat_map-shown (row_part c.args.name.now c.args.part known) placed_view c.args.samples.now)))

pub returns-clause-logged : goal.returns-clause-logged
returns-clause-logged g c =
    let past : length c.args.samples.now ≤ c.loop-sample.sample-index = omega (arith, c.loop-sample-test.false) in
    let reads = row_reads c.args.name.now c.args.part in
    c.loop-sample.invariant.log ∙ ap (told_with (g.S.Store.log c.args.files.now))
    (all-left (λ s. reads (placed_view s)) c.args.samples.now c.loop-sample.sample-index c.loop-sample.invariant.done _ past c.loop-sample.invariant.rest
    ∙ sym (flat_map-shown reads placed_view c.args.samples.now))
