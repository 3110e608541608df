-- The rows of those of all parts.
use Rattle.std.proofs.Common.{map, arith}
use Rattle.origin_model.specs.Sources.{source_piece}
use Rattle.vod_plan.specs.ListingParts.{part_over}
use Rattle.vod_plan.proofs.IframeRows.{err_all, ok_all}
use Rattle.vod_plan.proofs.IframesDue.{few_marks, many_marks, more_marks}
use Rattle.vod_plan.proofs.timeline_iframes.iframes_of_parts.Goals as goal

pub returns-in-Ok-clause-rows : goal.returns-in-Ok-clause-rows
returns-in-Ok-clause-rows g c =
    let cut = c.args.cut in
    ok_all c.listed_rows.result _ _ c.listed_rows.ensures.listed
    (λ rows h cs is counts. few_marks cut.grid.now cut.align (map (part_over (map source_piece cs)) c.args.parts.now) rows.items (h _ (c.in-Ok.ensures.marks cs is counts)))

pub returns-in-Ok-clause-more : goal.returns-in-Ok-clause-more
returns-in-Ok-clause-more g c =
    let cut = c.args.cut in
    err_all c.listed_rows.result _ _ c.listed_rows.ensures.only
    (λ e h other cs is counts. more_marks cut.grid.now cut.align (map (part_over (map source_piece cs)) c.args.parts.now) e (h other _ (c.in-Ok.ensures.marks cs is counts)))

pub returns-in-Ok-clause-looks : goal.returns-in-Ok-clause-looks
returns-in-Ok-clause-looks g c = λ cs n is counts follow.
    let cut = c.args.cut in
    omega (arith, c.in-Ok.ensures.looks cs n is counts follow, many_marks cut.grid.now cut.align (map (part_over (map source_piece cs)) c.args.parts.now))

pub returns-in-Err-clause-looks : goal.returns-in-Err-clause-looks
returns-in-Err-clause-looks g c = λ cs n is counts follow.
    let cut = c.args.cut in
    omega (arith, c.in-Err.ensures.looks cs n is counts follow, many_marks cut.grid.now cut.align (map (part_over (map source_piece cs)) c.args.parts.now))
