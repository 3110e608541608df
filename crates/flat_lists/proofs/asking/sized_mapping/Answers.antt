use Rattle.std.proofs.Common.{arith, subst}
use Rattle.clip_model.specs.Walk.{mapping_of}
use Rattle.vod_types.specs.Results.{Answers}
use Rattle.vod_source.proofs.CallLemmas.{told_with_all, told_with_both, answers-not_failed}
use Rattle.flat_lists.proofs.AskingLemmas.{mapping_of-not_failed, mapping-long, mapping-read}
use Rattle.answer_laws.proofs.Due.{answers_may}
use Rattle.answer_laws.proofs.Mappings.{mapping_may}
use Rattle.flat_lists.proofs.asking.sized_mapping.Goals as goal

pub returns-then-size-gt-LONGEST_MAPPING-clause-told : goal.returns-then-size-gt-LONGEST_MAPPING-clause-told
returns-then-size-gt-LONGEST_MAPPING-clause-told g c =
    told_with_all (g.S.Store.content c.args.files.now) _ _ c.requires.size
    (λ known e. mapping-long known c.args.name.now _ c.args.size e c.if-size-gt-LONGEST_MAPPING.true)

pub returns-in-Ok-clause-told : goal.returns-in-Ok-clause-told
returns-in-Ok-clause-told g c =
    told_with_both (g.S.Store.content c.args.files.now) _ _ _ c.requires.size c.in-Ok.ensures.told
    (λ known e bytes. mapping-read known c.args.name.now _ c.read_mapping.result c.args.size c.in-Ok.bytes.items e (omega arith) bytes
    (subst (λ bs. Answers (λ m. m) c.read_mapping.result (mapping_of bs)) c.deref.ensures.value c.read_mapping.ensures) c.in-Ok.ensures.log)

pub returns-in-Ok-clause-store_failed : goal.returns-in-Ok-clause-store_failed
returns-in-Ok-clause-store_failed g c =
    λ failed. absurd (answers-not_failed (λ m. m) _ c.read_mapping.result (mapping_of-not_failed _) c.read_mapping.ensures failed)

pub returns-in-Ok-clause-refused : goal.returns-in-Ok-clause-refused
returns-in-Ok-clause-refused g c = answers_may (λ m. m) _ (mapping_may _) c.read_mapping.result c.read_mapping.ensures
