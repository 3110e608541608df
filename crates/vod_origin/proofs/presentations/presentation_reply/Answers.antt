-- The reply gives the answer by the text, or why there is none.
use Rattle.std.proofs.Common.{None, Err, ap, arith, ◌∙◌}
use Rattle.vod_source.proofs.CallLemmas.{told_with_all, told_with_other}
use Rattle.origin_model.specs.Requests as requests
use Rattle.flat_lists.specs.Asked.{asking_view, setup_of}
use Rattle.vod_origin.proofs.MadeLemmas.{answered_begins, answered_replied}
use Rattle.vod_origin.proofs.MadeReads.{reads_of_made, reads_of_refused, reads_of_unfound}
use Rattle.vod_origin.proofs.PresentationLemmas.{asking_due, presentation_unasked, presentation_undue, presentation_with}
use Rattle.vod_origin.proofs.PresentationReads.{presentation_looked}
use Rattle.vod_origin.proofs.ReplyLemmas.{refused}
use Rattle.vod_origin.proofs.presentations.presentation_reply.Goals as goal

pub returns-in-Err-clause-replies : goal.returns-in-Err-clause-replies
returns-in-Err-clause-replies g c =
    refused c.args.settings.now c.args.root.now c.args.ask (g.S.Store.content c.args.store.now) _ _ c.in-Err.refusal c.in-Err.ensures.refused (λ failed. c.in-Err.ensures.store_failed (ap Err failed))
    (told_with_all (g.S.Store.content c.args.store.now) _ _ c.in-Err.ensures.told
    (λ files came known_memory known_store. presentation_unasked (setup_of c.args.settings.now c.args.root.now files) c.args.ask c.args.presentation c.requires.leaf c.in-Err.refusal ((came c.args.settings.now).answered known_memory known_store)))

pub returns-clause-replies : goal.returns-clause-replies
returns-clause-replies g c =
    refused c.args.settings.now c.args.root.now c.args.ask (g.S.Store.content c.args.store.now) _ _ c.in-Err-text.refusal c.in-Err-text.ensures.refused
    (λ failed. let rose = c.in-Err-text.ensures.store_failed (ap Err failed) in omega (arith, rose, c.in-Ok.ensures.later))
    (told_with_other (g.S.Store.content c.args.store.now) _ _ _ _ c.in-Ok.ensures.content c.in-Ok.ensures.told c.in-Err-text.ensures.told
    (λ files came due known_memory known_store. presentation_undue (setup_of c.args.settings.now c.args.root.now files) c.args.ask c.args.presentation c.requires.leaf (asking_view c.in-Ok.asking) c.in-Err-text.refusal (came c.args.settings.now).answered (due known_memory known_store)))

pub returns-in-Ok-text-clause-replies : goal.returns-in-Ok-text-clause-replies
returns-in-Ok-text-clause-replies g c =
    answered_replied c.args.settings.now c.args.root.now c.args.ask (g.S.Store.content c.args.store.now) (record { bytes = c.in-Ok-text.bytes; cut = None })
    (told_with_other (g.S.Store.content c.args.store.now) _ _ _ _ c.in-Ok.ensures.content c.in-Ok.ensures.told c.in-Ok-text.ensures.told
    (λ files came due. presentation_with (setup_of c.args.settings.now c.args.root.now files) c.args.ask c.args.presentation c.requires.leaf (asking_view c.in-Ok.asking) c.in-Ok-text.bytes.items (came c.args.settings.now).answered due))
    _ _ c.begun.result c.begun.ensures

pub returns-in-Ok-text-clause-begins : goal.returns-in-Ok-text-clause-begins
returns-in-Ok-text-clause-begins g c =
    answered_begins c.args.settings.now c.args.root.now c.args.ask (g.S.Store.content c.args.store.now) (record { bytes = c.in-Ok-text.bytes; cut = None })
    (told_with_other (g.S.Store.content c.args.store.now) _ _ _ _ c.in-Ok.ensures.content c.in-Ok.ensures.told c.in-Ok-text.ensures.told
    (λ files came due. presentation_with (setup_of c.args.settings.now c.args.root.now files) c.args.ask c.args.presentation c.requires.leaf (asking_view c.in-Ok.asking) c.in-Ok-text.bytes.items (came c.args.settings.now).answered due))
    c.begun.result c.begun.ensures

pub returns-in-Err-clause-reads : goal.returns-in-Err-clause-reads
returns-in-Err-clause-reads g c = λ head_only range.
    told_with_all (g.S.Store.content c.args.store.now) _ _ c.in-Err.ensures.told
    (λ files came. let o = setup_of c.args.settings.now c.args.root.now files in
    reads_of_unfound o head_only range c.args.ask (presentation_looked o c.args.ask.leaf c.args.presentation c.requires.leaf) _ _ _ c.in-Err.refusal
    (λ known_memory known_store. asking_due (requests.asking_of o c.args.ask) ∙ (came c.args.settings.now).answered known_memory known_store) (came c.args.settings.now).logged)

pub returns-clause-reads : goal.returns-clause-reads
returns-clause-reads g c = λ head_only range.
    told_with_other (g.S.Store.content c.args.store.now) _ _ _ _ c.in-Ok.ensures.content c.in-Ok.ensures.told c.in-Err-text.ensures.turned
    (λ files came turned. let o = setup_of c.args.settings.now c.args.root.now files in
    reads_of_refused o head_only range c.args.ask (presentation_looked o c.args.ask.leaf c.args.presentation c.requires.leaf) (asking_view c.in-Ok.asking)
    (asking_due (requests.asking_of o c.args.ask) ∙ (came c.args.settings.now).answered) _ _ _ _ _ (came c.args.settings.now).logged c.in-Err-text.refusal turned)

pub returns-in-Ok-text-clause-reads : goal.returns-in-Ok-text-clause-reads
returns-in-Ok-text-clause-reads g c = λ head_only range.
    told_with_other (g.S.Store.content c.args.store.now) _ _ _ _ c.in-Ok.ensures.content c.in-Ok.ensures.told c.in-Ok-text.ensures.turned
    (λ files came turned. let o = setup_of c.args.settings.now c.args.root.now files in
    reads_of_made o head_only range c.args.ask (presentation_looked o c.args.ask.leaf c.args.presentation c.requires.leaf) (asking_view c.in-Ok.asking)
    (asking_due (requests.asking_of o c.args.ask) ∙ (came c.args.settings.now).answered) _ _ _ _ _ (came c.args.settings.now).logged c.in-Ok-text.bytes turned _ _ c.begun.result c.begun.ensures)
