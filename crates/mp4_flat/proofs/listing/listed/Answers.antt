use Rattle.std.proofs.Common.{Vec, Global, []}
use Rattle.vod_types.specs.declared.segments.Listed.{Listed}
use Rattle.flat_lists.specs.Asked.{setup_of}
use Rattle.vod_source.proofs.CallLemmas.{told_all, told_with_all}
use Rattle.mp4_flat.proofs.AnsweredPaths.{few_names}
use Rattle.mp4_flat.proofs.ListedPaths.{path_refused, other_refused, path_answered, index_is_readable}
use Rattle.mp4_flat.proofs.listing.listed.Goals as goal

pub returns-in-Err-clause-told : goal.returns-in-Err-clause-told
returns-in-Err-clause-told g c =
    told_all (g.S.Store.content c.args.files.now) _
    (λ known. path_refused (λ (rows : Vec Listed Global). rows.items) (setup_of c.args.settings.now c.args.root.now known) c.args.path.now c.in-Err.refusal _ c.in-Err.ensures)

pub ask_rows-requires-clause-names : goal.ask_rows-requires-clause-names
ask_rows-requires-clause-names g c = few_names (setup_of c.args.settings.now c.args.root.now []) c.args.path.now c.in-Ok.ask c.in-Ok.ensures

pub returns-in-Some-clause-told : goal.returns-in-Some-clause-told
returns-in-Some-clause-told g c =
    told_with_all (g.S.Store.content c.args.files.now) _ _ c.ask_rows.ensures.told
    (λ known came. path_answered (λ (rows : Vec Listed Global). rows.items) (setup_of c.args.settings.now c.args.root.now known) c.args.path.now c.in-Ok.ask _ _ c.ask_rows.result _ _ c.in-Ok.ensures c.in-Some.ensures came)

pub returns-in-None-clause-told : goal.returns-in-None-clause-told
returns-in-None-clause-told g c =
    told_all (g.S.Store.content c.args.files.now) _
    (λ known. other_refused (λ (rows : Vec Listed Global). rows.items) (setup_of c.args.settings.now c.args.root.now known) c.args.path.now c.in-Ok.ask _ c.in-Ok.ensures c.in-None.ensures)

pub returns-in-Some-clause-unread : goal.returns-in-Some-clause-unread
returns-in-Some-clause-unread g c = λ err.
    absurd (index_is_readable (λ (rows : Vec Listed Global). rows.items) (setup_of c.args.settings.now c.args.root.now []) c.args.path.now c.in-Ok.ask _ _ c.in-Ok.ensures c.in-Some.ensures err)
