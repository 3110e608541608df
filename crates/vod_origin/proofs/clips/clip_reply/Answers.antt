-- The reply gives the part of the clip that was asked for.
use Rattle.std.proofs.Common.{Ok, Err, inl, refl, ap, arith}
use Rattle.vod_source.proofs.CallLemmas.{told_with_all, told_with_both, told_with_other}
use Rattle.origin_model.specs.Requests.{cutting}
use Rattle.flat_lists.specs.Asked.{setup_of}
use Rattle.vod_origin.proofs.ClipAnswered.{clip_due, clip_untimed}
use Rattle.vod_origin.proofs.ClipReads.{clip_made, clip_refused, clip_unread}
use Rattle.vod_origin.proofs.ClipReplies.{bounds_of, made_part, made_whole, part_begins, part_refused, part_replied}
use Rattle.vod_origin.proofs.SoughtReads.{told_pair}
use Rattle.vod_origin.proofs.clips.clip_reply.Goals as goal

pub returns-in-Err-clause-replies : goal.returns-in-Err-clause-replies
returns-in-Err-clause-replies g c =
    part_refused c.args.settings.now c.args.root.now c.args.ask c.args.sequence c.args.asked c.args.range (g.S.Store.content c.args.store.now) c.requires.leaf c.requires.range _ _ c.in-Err.refusal
    (inl c.in-Err.ensures.refused) (λ failed. c.in-Err.ensures.store_failed (ap Err failed))
    (told_with_all (g.S.Store.content c.args.store.now) _ _ c.in-Err.ensures.told
    (λ files due known_memory known_store.
    clip_untimed (setup_of c.args.settings.now c.args.root.now files) c.args.range c.args.ask c.args.sequence c.args.asked c.requires.leaf c.in-Err.refusal (due c.args.settings.now known_memory known_store)))

pub returns-in-Err-clause-reads : goal.returns-in-Err-clause-reads
returns-in-Err-clause-reads g c = λ head_only.
    told_with_both (g.S.Store.content c.args.store.now) _ _ _ c.in-Err.ensures.told c.in-Err.ensures.logged
    (λ files due logged. clip_unread (setup_of c.args.settings.now c.args.root.now files) c.args.range c.args.ask c.args.sequence c.args.asked c.requires.leaf head_only _ _ _ c.in-Err.refusal
    (due c.args.settings.now) (logged c.args.settings.now))

pub returns-in-Err-part_of_clip-clause-replies : goal.returns-in-Err-part_of_clip-clause-replies
returns-in-Err-part_of_clip-clause-replies g c =
    part_refused c.args.settings.now c.args.root.now c.args.ask c.args.sequence c.args.asked c.args.range (g.S.Store.content c.args.store.now) c.requires.leaf c.requires.range _ _ c.in-Err-part_of_clip.refusal
    c.in-Err-part_of_clip.ensures.refused
    (λ failed. let rose = c.in-Err-part_of_clip.ensures.store_failed (ap Err failed) in omega (arith, rose, c.in-Ok.ensures.later))
    (told_with_other (g.S.Store.content c.args.store.now) _ _ _ _ c.in-Ok.ensures.content c.in-Ok.ensures.told c.in-Err-part_of_clip.ensures.told
    (λ files timed came.
    clip_due (setup_of c.args.settings.now c.args.root.now files) c.args.range c.args.ask c.args.sequence c.args.asked c.requires.leaf c.in-Ok.timeline _ (Err c.in-Err-part_of_clip.refusal)
    (timed c.args.settings.now) refl (λ grid align. (came grid align).answered)))

pub returns-in-Err-part_of_clip-clause-reads : goal.returns-in-Err-part_of_clip-clause-reads
returns-in-Err-part_of_clip-clause-reads g c = λ head_only.
    told_with_other (g.S.Store.content c.args.store.now) _ _ _ _ c.in-Ok.ensures.content
    (told_pair (g.S.Store.content c.args.store.now) _ _ c.in-Ok.ensures.told c.in-Ok.ensures.logged)
    (told_pair (g.S.Store.content c.sequence_timeline.new.store) _ _ c.in-Err-part_of_clip.ensures.told c.in-Err-part_of_clip.ensures.cache)
    (λ files timed came. let o = setup_of c.args.settings.now c.args.root.now files in
    clip_refused o c.args.range c.args.ask c.args.sequence c.args.asked c.requires.leaf head_only c.in-Ok.timeline (timed.0 c.args.settings.now) _ _ _ _ _ (timed.1 c.args.settings.now) c.in-Err-part_of_clip.refusal
    (λ a. (came.0 (cutting o a).grid (cutting o a).align).logged) came.1)

pub part_reply-requires-clause-ordered : goal.part_reply-requires-clause-ordered
part_reply-requires-clause-ordered g c = (bounds_of c.args.range _ c.in-Ok-part_of_clip.part c.in-Some.is c.requires.range c.in-Ok-part_of_clip.ensures.asked).0

pub part_reply-requires-clause-within : goal.part_reply-requires-clause-within
part_reply-requires-clause-within g c = (bounds_of c.args.range _ c.in-Ok-part_of_clip.part c.in-Some.is c.requires.range c.in-Ok-part_of_clip.ensures.asked).1

pub returns-in-None-clause-replies : goal.returns-in-None-clause-replies
returns-in-None-clause-replies g c =
    part_replied c.args.settings.now c.args.root.now c.args.ask c.args.sequence c.args.asked c.args.range (g.S.Store.content c.args.store.now) c.requires.leaf c.requires.range c.in-Ok-part_of_clip.part c.in-Ok-part_of_clip.ensures.asked
    (told_with_other (g.S.Store.content c.args.store.now) _ _ _ _ c.in-Ok.ensures.content c.in-Ok.ensures.told c.in-Ok-part_of_clip.ensures.told
    (λ files timed came.
    clip_due (setup_of c.args.settings.now c.args.root.now files) c.args.range c.args.ask c.args.sequence c.args.asked c.requires.leaf c.in-Ok.timeline _ (Ok c.in-Ok-part_of_clip.part)
    (timed c.args.settings.now) refl (λ grid align. (came grid align).answered))) _ _ c.whole_reply.result
    (made_whole c.args.range c.in-Ok-part_of_clip.part _ _ c.whole_reply.result c.in-None.is c.media_of-kind.ensures c.whole_reply.ensures)

pub returns-in-None-clause-begins : goal.returns-in-None-clause-begins
returns-in-None-clause-begins g c =
    part_begins c.args.settings.now c.args.root.now c.args.ask c.args.sequence c.args.asked c.args.range (g.S.Store.content c.args.store.now) c.requires.leaf c.requires.range c.in-Ok-part_of_clip.part c.in-Ok-part_of_clip.ensures.asked
    (told_with_other (g.S.Store.content c.args.store.now) _ _ _ _ c.in-Ok.ensures.content c.in-Ok.ensures.told c.in-Ok-part_of_clip.ensures.told
    (λ files timed came.
    clip_due (setup_of c.args.settings.now c.args.root.now files) c.args.range c.args.ask c.args.sequence c.args.asked c.requires.leaf c.in-Ok.timeline _ (Ok c.in-Ok-part_of_clip.part)
    (timed c.args.settings.now) refl (λ grid align. (came grid align).answered))) c.whole_reply.result
    (made_whole c.args.range c.in-Ok-part_of_clip.part _ _ c.whole_reply.result c.in-None.is c.media_of-kind.ensures c.whole_reply.ensures)

pub returns-in-None-clause-reads : goal.returns-in-None-clause-reads
returns-in-None-clause-reads g c = λ head_only.
    told_with_other (g.S.Store.content c.args.store.now) _ _ _ _ c.in-Ok.ensures.content
    (told_pair (g.S.Store.content c.args.store.now) _ _ c.in-Ok.ensures.told c.in-Ok.ensures.logged)
    (told_pair (g.S.Store.content c.sequence_timeline.new.store) _ _ c.in-Ok-part_of_clip.ensures.told c.in-Ok-part_of_clip.ensures.cache)
    (λ files timed came. let o = setup_of c.args.settings.now c.args.root.now files in
    clip_made o c.args.range c.args.ask c.args.sequence c.args.asked c.requires.leaf head_only c.in-Ok.timeline (timed.0 c.args.settings.now) _ _ _ _ _ (timed.1 c.args.settings.now) c.in-Ok-part_of_clip.part
    (λ a. (came.0 (cutting o a).grid (cutting o a).align).logged) came.1 _ _ _ _ c.whole_reply.result c.whole_reply.ensures)

pub returns-clause-replies : goal.returns-clause-replies
returns-clause-replies g c =
    part_replied c.args.settings.now c.args.root.now c.args.ask c.args.sequence c.args.asked c.args.range (g.S.Store.content c.args.store.now) c.requires.leaf c.requires.range c.in-Ok-part_of_clip.part c.in-Ok-part_of_clip.ensures.asked
    (told_with_other (g.S.Store.content c.args.store.now) _ _ _ _ c.in-Ok.ensures.content c.in-Ok.ensures.told c.in-Ok-part_of_clip.ensures.told
    (λ files timed came.
    clip_due (setup_of c.args.settings.now c.args.root.now files) c.args.range c.args.ask c.args.sequence c.args.asked c.requires.leaf c.in-Ok.timeline _ (Ok c.in-Ok-part_of_clip.part)
    (timed c.args.settings.now) refl (λ grid align. (came grid align).answered))) _ _ c.part_reply.result
    (made_part c.args.range _ c.in-Ok-part_of_clip.part _ _ c.part_reply.result c.in-Some.is c.media_of-kind.ensures c.part_reply.ensures)

pub returns-clause-begins : goal.returns-clause-begins
returns-clause-begins g c =
    part_begins c.args.settings.now c.args.root.now c.args.ask c.args.sequence c.args.asked c.args.range (g.S.Store.content c.args.store.now) c.requires.leaf c.requires.range c.in-Ok-part_of_clip.part c.in-Ok-part_of_clip.ensures.asked
    (told_with_other (g.S.Store.content c.args.store.now) _ _ _ _ c.in-Ok.ensures.content c.in-Ok.ensures.told c.in-Ok-part_of_clip.ensures.told
    (λ files timed came.
    clip_due (setup_of c.args.settings.now c.args.root.now files) c.args.range c.args.ask c.args.sequence c.args.asked c.requires.leaf c.in-Ok.timeline _ (Ok c.in-Ok-part_of_clip.part)
    (timed c.args.settings.now) refl (λ grid align. (came grid align).answered))) c.part_reply.result
    (made_part c.args.range _ c.in-Ok-part_of_clip.part _ _ c.part_reply.result c.in-Some.is c.media_of-kind.ensures c.part_reply.ensures)

pub returns-clause-reads : goal.returns-clause-reads
returns-clause-reads g c = λ head_only.
    told_with_other (g.S.Store.content c.args.store.now) _ _ _ _ c.in-Ok.ensures.content
    (told_pair (g.S.Store.content c.args.store.now) _ _ c.in-Ok.ensures.told c.in-Ok.ensures.logged)
    (told_pair (g.S.Store.content c.sequence_timeline.new.store) _ _ c.in-Ok-part_of_clip.ensures.told c.in-Ok-part_of_clip.ensures.cache)
    (λ files timed came. let o = setup_of c.args.settings.now c.args.root.now files in
    clip_made o c.args.range c.args.ask c.args.sequence c.args.asked c.requires.leaf head_only c.in-Ok.timeline (timed.0 c.args.settings.now) _ _ _ _ _ (timed.1 c.args.settings.now) c.in-Ok-part_of_clip.part
    (λ a. (came.0 (cutting o a).grid (cutting o a).align).logged) came.1 _ _ _ _ c.part_reply.result c.part_reply.ensures)
