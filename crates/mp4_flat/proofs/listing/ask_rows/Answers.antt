use Rattle.std.proofs.Common.{map}
use Rattle.flat_lists.specs.Asked.{asking_view, setup_of}
use Rattle.segment_model.specs.Listing.{listed_view}
use Rattle.vod_source.proofs.CallLemmas.{told_with_all, told_with_other}
use Rattle.mp4_flat.proofs.ListedPaths.{ask_answered, ask_refused}
use Rattle.mp4_flat.proofs.listing.ask_rows.Goals as goal

pub returns-in-Err-clause-told : goal.returns-in-Err-clause-told
returns-in-Err-clause-told g c =
    told_with_all (g.S.Store.content c.args.files.now) _ _ c.in-Err.ensures.told
    (λ known came. ask_refused (λ rows. map listed_view rows.items) (setup_of c.args.settings.now c.args.root.now known) c.args.ask c.args.sequence c.args.asked c.requires.leaf asking_view c.in-Err.refusal _ _ (came c.args.settings.now))

pub returns-in-Ok-clause-told : goal.returns-in-Ok-clause-told
returns-in-Ok-clause-told g c =
    told_with_other (g.S.Store.content c.args.files.now) _ _ _ _ c.in-Ok.ensures.content c.in-Ok.ensures.told c.sequence_rows.ensures.told
    (λ known came rows. let asked = came c.args.settings.now in
    ask_answered (λ rows. map listed_view rows.items) (setup_of c.args.settings.now c.args.root.now known) c.args.ask c.args.sequence c.args.asked c.requires.leaf (asking_view c.in-Ok.asking) c.sequence_rows.result _ _ _ asked.answered asked.logged rows)
