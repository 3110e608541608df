-- Memory ran out before any movie was looked at, and none was kept.
use Rattle.std.proofs.Common.{ap, sym, ◌∙◌}
use Rattle.vod_source.proofs.CallLemmas.{told_all}
use Rattle.vod_origin.specs.Reads.{cache_of}
use Rattle.vod_origin.proofs.SoughtReads.{turns_unbegun}
use Rattle.vod_origin.proofs.presentations.text.Goals as goal

pub returns-in-Err-clause-turned : goal.returns-in-Err-clause-turned
returns-in-Err-clause-turned g c =
    told_all (g.S.Store.content c.args.store.now) _
    (λ files. turns_unbegun files _ c.in-Err.refusal _ _ _ c.in-Err.ensures.only (sym (ap cache_of c.take.ensures.value) ∙ c.in-Err.ensures.none) (ap cache_of c.take.ensures.after))
