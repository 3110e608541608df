use Rattle.vod_source.proofs.CallLemmas.{told_with_all}
use Rattle.flat_lists.proofs.ListedTimelines.{looks_at_all, ok_all}
use Rattle.flat_lists.proofs.listed_timeline.all_needed.Goals as goal

pub returns-clause-told : goal.returns-clause-told
returns-clause-told g c =
    told_with_all (g.S.Store.content c.args.files.now) _ _ c.needed_of.ensures.told
    (λ known looks. looks_at_all known c.args.cut.edits c.args.asked c.pieces_of.result.now c.args.cut.timeline.now.pieces c.needed_of.result _ _ c.pieces_of.ensures.pieces looks)

pub returns-clause-placed : goal.returns-clause-placed
returns-clause-placed g c = ok_all c.needed_of.result _ _ c.needed_of.ensures.of (λ n h. h.1.placed)
