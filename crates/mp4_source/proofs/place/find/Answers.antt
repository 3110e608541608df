use Rattle.mp4_source.proofs.PlaceLemmas.{told-no_file, log-no_file, told-found, log-found, told-fault, log-fault, refused-fault}
use Rattle.mp4_source.proofs.place.find.Goals as goal

pub returns-in-Ok-None-clause-told : goal.returns-in-Ok-None-clause-told
returns-in-Ok-None-clause-told g c = told-no_file c.args.name.now _ c.no_file.result (rw c.in-Ok-None.field-0-is at c.in-Ok-None.ensures.told) c.no_file.ensures

pub returns-in-Ok-None-clause-log : goal.returns-in-Ok-None-clause-log
returns-in-Ok-None-clause-log g c = log-no_file c.args.name.now _ c.no_file.result _ _ (rw c.in-Ok-None.field-0-is at c.in-Ok-None.ensures.told) c.in-Ok-None.ensures.log

pub returns-in-Ok-clause-told : goal.returns-in-Ok-clause-told
returns-in-Ok-clause-told g c =
    told-found c.args.name.now c.in-Ok-Some.file_size _ c.in-Ok.at c.in-Ok.size (rw c.in-Ok-Some.field-0-is at c.in-Ok-Some.ensures.told) (rw c.in-Ok-Some.ensures.content at c.in-Ok.ensures.told)

pub returns-in-Ok-clause-log : goal.returns-in-Ok-clause-log
returns-in-Ok-clause-log g c =
    log-found c.args.name.now c.in-Ok-Some.file_size _ (record { file_size = c.in-Ok-Some.file_size; at = c.in-Ok.at; size = c.in-Ok.size }) _ _ (rw c.in-Ok-Some.field-0-is at c.in-Ok-Some.ensures.told) (rw (c.in-Ok-Some.ensures.content, c.in-Ok-Some.ensures.log) at c.in-Ok.ensures.log)

pub returns-in-Err-seek-clause-told : goal.returns-in-Err-seek-clause-told
returns-in-Err-seek-clause-told g c =
    told-fault c.args.name.now c.in-Ok-Some.file_size _ c.in-Err-seek.fault c.refusal.result (rw c.in-Ok-Some.field-0-is at c.in-Ok-Some.ensures.told)
    (rw c.in-Ok-Some.ensures.content at c.in-Err-seek.ensures.told) c.refusal.ensures

pub returns-in-Err-seek-clause-log : goal.returns-in-Err-seek-clause-log
returns-in-Err-seek-clause-log g c =
    log-fault c.args.name.now c.in-Ok-Some.file_size _ c.in-Err-seek.fault c.refusal.result _ _ (rw c.in-Ok-Some.field-0-is at c.in-Ok-Some.ensures.told)
    (rw (c.in-Ok-Some.ensures.content, c.in-Ok-Some.ensures.log) at c.in-Err-seek.ensures.log) c.refusal.ensures

pub returns-in-Err-seek-clause-refused : goal.returns-in-Err-seek-clause-refused
returns-in-Err-seek-clause-refused g c = refused-fault c.args.name.now c.in-Err-seek.fault c.refusal.result c.refusal.ensures
