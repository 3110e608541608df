-- The reply gives the answer by the init segment, or why there is none.
use Rattle.std.proofs.Common.{None, Err, ap, arith}
use Rattle.vod_source.proofs.CallLemmas.{told_with_all, told_with_both, told_with_other}
use Rattle.flat_lists.specs.Asked.{setup_of}
use Rattle.vod_origin.proofs.InitLemmas.{init_undue, init_untimed, init_with}
use Rattle.vod_origin.proofs.InitReads.{init_looked}
use Rattle.vod_origin.proofs.MadeLemmas.{answered_begins, answered_replied}
use Rattle.vod_origin.proofs.MadeReads.{reads_of_made, reads_of_refused, reads_of_unfound}
use Rattle.vod_origin.proofs.ReplyLemmas.{refused}
use Rattle.vod_origin.proofs.SoughtReads.{told_pair}
use Rattle.vod_origin.proofs.inits.init_reply.Goals as goal

pub returns-in-Err-clause-replies : goal.returns-in-Err-clause-replies
returns-in-Err-clause-replies g c =
    refused c.args.settings.now c.args.root.now c.args.ask (g.S.Store.content c.args.store.now) _ _ c.in-Err.refusal c.in-Err.ensures.refused (λ failed. c.in-Err.ensures.store_failed (ap Err failed))
    (told_with_all (g.S.Store.content c.args.store.now) _ _ c.in-Err.ensures.told
    (λ files is known_memory known_store. init_untimed (setup_of c.args.settings.now c.args.root.now files) c.args.ask c.args.part c.args.sequence c.args.asked c.requires.leaf c.in-Err.refusal (is c.args.settings.now known_memory known_store)))

pub returns-clause-replies : goal.returns-clause-replies
returns-clause-replies g c =
    refused c.args.settings.now c.args.root.now c.args.ask (g.S.Store.content c.args.store.now) _ _ c.in-Err-init_of_part.refusal c.in-Err-init_of_part.ensures.refused
    (λ failed. let rose = c.in-Err-init_of_part.ensures.store_failed (ap Err failed) in omega (arith, rose, c.in-Ok.ensures.later))
    (told_with_other (g.S.Store.content c.args.store.now) _ _ _ _ c.in-Ok.ensures.content c.in-Ok.ensures.told c.in-Err-init_of_part.ensures.told
    (λ files is due known_memory known_store. init_undue (setup_of c.args.settings.now c.args.root.now files) c.args.ask c.args.part c.args.sequence c.args.asked c.requires.leaf _ c.in-Err-init_of_part.refusal (is c.args.settings.now) (due known_memory known_store)))

pub returns-in-Ok-init_of_part-clause-replies : goal.returns-in-Ok-init_of_part-clause-replies
returns-in-Ok-init_of_part-clause-replies g c =
    answered_replied c.args.settings.now c.args.root.now c.args.ask (g.S.Store.content c.args.store.now) (record { bytes = c.in-Ok-init_of_part.bytes; cut = None })
    (told_with_other (g.S.Store.content c.args.store.now) _ _ _ _ c.in-Ok.ensures.content c.in-Ok.ensures.told c.in-Ok-init_of_part.ensures.told
    (λ files is due. init_with (setup_of c.args.settings.now c.args.root.now files) c.args.ask c.args.part c.args.sequence c.args.asked c.requires.leaf _ c.in-Ok-init_of_part.bytes.items (is c.args.settings.now) due))
    _ _ c.begun.result c.begun.ensures

pub returns-in-Ok-init_of_part-clause-begins : goal.returns-in-Ok-init_of_part-clause-begins
returns-in-Ok-init_of_part-clause-begins g c =
    answered_begins c.args.settings.now c.args.root.now c.args.ask (g.S.Store.content c.args.store.now) (record { bytes = c.in-Ok-init_of_part.bytes; cut = None })
    (told_with_other (g.S.Store.content c.args.store.now) _ _ _ _ c.in-Ok.ensures.content c.in-Ok.ensures.told c.in-Ok-init_of_part.ensures.told
    (λ files is due. init_with (setup_of c.args.settings.now c.args.root.now files) c.args.ask c.args.part c.args.sequence c.args.asked c.requires.leaf _ c.in-Ok-init_of_part.bytes.items (is c.args.settings.now) due))
    c.begun.result c.begun.ensures

pub returns-in-Err-clause-reads : goal.returns-in-Err-clause-reads
returns-in-Err-clause-reads g c = λ head_only range.
    told_with_both (g.S.Store.content c.args.store.now) _ _ _ c.in-Err.ensures.told c.in-Err.ensures.logged
    (λ files due logged. reads_of_unfound (setup_of c.args.settings.now c.args.root.now files) head_only range c.args.ask (init_looked (setup_of c.args.settings.now c.args.root.now files) c.args.ask.leaf c.args.part c.args.sequence c.args.asked c.requires.leaf) _ _ _ c.in-Err.refusal (due c.args.settings.now) (logged c.args.settings.now))

pub returns-clause-reads : goal.returns-clause-reads
returns-clause-reads g c = λ head_only range.
    told_with_other (g.S.Store.content c.args.store.now) _ _ _ _ c.in-Ok.ensures.content
    (told_pair (g.S.Store.content c.args.store.now) _ _ c.in-Ok.ensures.told c.in-Ok.ensures.logged) c.in-Err-init_of_part.ensures.turned
    (λ files timed turned.
    reads_of_refused (setup_of c.args.settings.now c.args.root.now files) head_only range c.args.ask (init_looked (setup_of c.args.settings.now c.args.root.now files) c.args.ask.leaf c.args.part c.args.sequence c.args.asked c.requires.leaf) c.in-Ok.timeline (timed.0 c.args.settings.now) _ _ _ _ _ (timed.1 c.args.settings.now) c.in-Err-init_of_part.refusal turned)

pub returns-in-Ok-init_of_part-clause-reads : goal.returns-in-Ok-init_of_part-clause-reads
returns-in-Ok-init_of_part-clause-reads g c = λ head_only range.
    told_with_other (g.S.Store.content c.args.store.now) _ _ _ _ c.in-Ok.ensures.content
    (told_pair (g.S.Store.content c.args.store.now) _ _ c.in-Ok.ensures.told c.in-Ok.ensures.logged) c.in-Ok-init_of_part.ensures.turned
    (λ files timed turned.
    reads_of_made (setup_of c.args.settings.now c.args.root.now files) head_only range c.args.ask (init_looked (setup_of c.args.settings.now c.args.root.now files) c.args.ask.leaf c.args.part c.args.sequence c.args.asked c.requires.leaf) c.in-Ok.timeline (timed.0 c.args.settings.now) _ _ _ _ _ (timed.1 c.args.settings.now)
    c.in-Ok-init_of_part.bytes turned _ _ c.begun.result c.begun.ensures)
