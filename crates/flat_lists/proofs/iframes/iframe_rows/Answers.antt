use Rattle.vod_source.proofs.CallLemmas.{told_with_all}
use Rattle.flat_lists.proofs.CountedIframes.{iframes-counted, iframes-refused}
use Rattle.flat_lists.proofs.iframes.iframe_rows.Goals as goal

pub returns-in-Ok-clause-told : goal.returns-in-Ok-clause-told
returns-in-Ok-clause-told g c =
    let cut = c.args.cut in
    told_with_all (g.S.Store.content c.args.files.now) _ _ c.in-Ok.ensures.told (λ known counted.
    iframes-counted known cut.grid.now cut.align cut.edits c.args.video cut.timeline.now (λ rows. rows.items) _ _ c.in-Ok.counted counted c.counted_rows.result c.counted_rows.ensures.listed c.counted_rows.ensures.more)

pub returns-in-Err-clause-told : goal.returns-in-Err-clause-told
returns-in-Err-clause-told g c =
    let cut = c.args.cut in
    told_with_all (g.S.Store.content c.args.files.now) _ _ c.in-Err.ensures.told (λ known counted.
    iframes-refused known cut.grid.now cut.align cut.edits c.args.video cut.timeline.now (λ rows. rows.items) _ _ c.in-Err.refusal counted)
