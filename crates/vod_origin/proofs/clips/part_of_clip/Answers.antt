-- Memory ran out before any movie was looked at, and none was kept.
use Rattle.std.proofs.Common.{inl, refl, sym, ap, ◌∙◌}
use Rattle.vod_source.proofs.CallLemmas.{logs_unmade, told_all}
use Rattle.flat_clip.specs.declared.part.ClipPart.{ClipPart}
use Rattle.vod_origin.specs.Reads.{cache_of}
use Rattle.vod_origin.proofs.SoughtReads.{turns_unbegun}
use Rattle.vod_origin.proofs.clips.part_of_clip.Goals as goal

pub returns-in-Err-clause-told : goal.returns-in-Err-clause-told
returns-in-Err-clause-told g c =
    told_all (g.S.Store.content c.args.store.now) _
    (λ files grid align. record {
      answered = λ known_memory known_store. absurd (known_memory c.in-Err.ensures.only);
      logged = logs_unmade c.in-Err.refusal _ _ _ refl (λ known_memory known_store. absurd (known_memory c.in-Err.ensures.only));
    })

pub returns-in-Err-clause-cache : goal.returns-in-Err-clause-cache
returns-in-Err-clause-cache g c =
    told_all (g.S.Store.content c.args.store.now) _
    (λ files. (turns_unbegun {X = ClipPart} files _ c.in-Err.refusal _ _ (g.S.Store.log c.args.store.now) c.in-Err.ensures.only (sym (ap cache_of c.take.ensures.value) ∙ c.in-Err.ensures.none) (ap cache_of c.take.ensures.after)).cache)

pub returns-in-Err-clause-refused : goal.returns-in-Err-clause-refused
returns-in-Err-clause-refused g c = inl c.in-Err.ensures.refused
