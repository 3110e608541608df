-- The rows are those of what the path asks for.
use Rattle.std.proofs.Common.{map}
use Rattle.segment_model.specs.Listing.{listed_view}
use Rattle.vod_source.proofs.CallLemmas.{told_all, told_with_all}
use Rattle.flat_lists.specs.Asked.{setup_of}
use Rattle.vod_origin.proofs.Listings.{path_listed, path_other, path_unread}
use Rattle.vod_origin.proofs.listing.path_rows.Goals as goal

pub returns-in-Err-clause-lists : goal.returns-in-Err-clause-lists
returns-in-Err-clause-lists g c =
    told_all (g.S.Store.content c.args.store.now) _ (λ files. path_unread (λ rows. map listed_view rows.items) (setup_of c.args.settings.now c.args.root.now files) c.args.path.now c.in-Err.refusal c.in-Err.ensures.answers _ _)

pub returns-in-None-clause-lists : goal.returns-in-None-clause-lists
returns-in-None-clause-lists g c =
    told_all (g.S.Store.content c.args.store.now) _ (λ files. path_other (λ rows. map listed_view rows.items) (setup_of c.args.settings.now c.args.root.now files) c.args.path.now c.in-Ok.ask c.in-Ok.ensures.answers c.in-None.ensures _ _)

pub returns-in-Some-clause-lists : goal.returns-in-Some-clause-lists
returns-in-Some-clause-lists g c =
    told_with_all (g.S.Store.content c.args.store.now) _ _ c.ask_rows.ensures.lists
    (λ files lists. path_listed (λ rows. map listed_view rows.items) (setup_of c.args.settings.now c.args.root.now files) c.args.path.now c.in-Ok.ask _ _ c.ask_rows.result _ _ _ _ c.in-Ok.ensures.answers c.in-Some.ensures lists)
