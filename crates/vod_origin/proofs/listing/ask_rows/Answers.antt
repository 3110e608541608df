-- The rows are those of what is asked for.
use Rattle.std.proofs.Common.{map}
use Rattle.segment_model.specs.Listing.{listed_view}
use Rattle.vod_source.proofs.CallLemmas.{told_with_both, told_with_other}
use Rattle.flat_lists.specs.Asked.{setup_of}
use Rattle.vod_origin.specs.Wanted.{cut_view}
use Rattle.vod_origin.proofs.Listings.{rows_listed, rows_untimed}
use Rattle.vod_origin.proofs.SoughtReads.{told_pair}
use Rattle.vod_origin.proofs.listing.ask_rows.Goals as goal

pub returns-in-Err-clause-lists : goal.returns-in-Err-clause-lists
returns-in-Err-clause-lists g c =
    told_with_both (g.S.Store.content c.args.store.now) _ _ _ c.in-Err.ensures.told c.in-Err.ensures.logged
    (λ files due logged. rows_untimed (λ rows. map listed_view rows.items) (setup_of c.args.settings.now c.args.root.now files) c.args.ask c.args.sequence c.args.asked c.requires.leaf _ _ _ c.in-Err.refusal due logged)

pub returns-clause-lists : goal.returns-clause-lists
returns-clause-lists g c =
    told_with_other (g.S.Store.content c.args.store.now) _ _ _ _ c.in-Ok.ensures.content
    (told_pair (g.S.Store.content c.args.store.now) _ _ c.in-Ok.ensures.told c.in-Ok.ensures.logged)
    (told_pair _ _ _ c.listed.ensures.told c.listed.ensures.turned)
    (λ files cut found. rows_listed (λ rows. map listed_view rows.items) (setup_of c.args.settings.now c.args.root.now files) c.args.ask c.args.sequence c.args.asked c.requires.leaf (cut_view files c.in-Ok.cut) cut.0 _ _ _ _ _ cut.1 c.listed.result found.0 found.1)
