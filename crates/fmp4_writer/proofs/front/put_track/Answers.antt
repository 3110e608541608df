use Rattle.std.proofs.Common.{sym, ap, ◌∙◌, subst}
use Rattle.std.proofs.lemmas.Result.{err_from_is_err_and}
use Rattle.vod_source.specs.Told.{told_with, GrewByPrefix, Grows}
use Rattle.vod_source.proofs.ToldLemmas.{told_with-nil, GrewByPrefix-more}
use Rattle.media_model.specs.InitSegment.{track_number}
use Rattle.media_model.specs.Laws.{IsFragmentTrack}
use Rattle.fmp4_writer.proofs.RowsLemmas.{rows_of-first, rows_of-none}
use Rattle.fmp4_writer.proofs.FrontLemmas.{IsRunFrom-track, track_fragment-none, track_fragment-of, track_fragment_head-is}
use Rattle.fmp4_writer.proofs.GrowthLemmas.{Grows-after}
use Rattle.fmp4_writer.proofs.front.put_track.Goals as goal

pub returns-in_default-clause-written : goal.returns-in_default-clause-written
returns-in_default-clause-written g c =
    let none = rows_of-none _ _ _ _ c.restart.ensures.rows c.restart.ensures.places c.in_default.ensures.row in
    sym (ap (told_with _) (track_fragment-none (track_number c.args.kind) c.args.data_offset _ none) ∙ told_with-nil _)

pub returns-in_err-put-clause-written : goal.returns-in_err-put-clause-written
returns-in_err-put-clause-written g c =
    let are = rows_of-first _ _ _ _ _ _ c.in-Some.first c.restart.ensures.rows c.restart.ensures.places c.in-Some.ensures.rows c.in-Some.ensures.places c.in-Some.ensures.row in
    let head = track_fragment_head-is _ _ _ _ _ _ _ _ (c.as_slice.ensures.value ∙ c.track_head-head.ensures) c.number_of.ensures c.count.ensures (c.in-Some.ensures.rows ∙ c.restart.ensures.rows) in
    let p = err_from_is_err_and c.from_residual.result c.from_residual.ensures.1 in
    rw p.1 (subst (GrewByPrefix _ _) (sym (track_fragment-of _ _ _ _ _ _ are head)) (GrewByPrefix-more _ c.in_err-put.ensures.written))

pub put_entries-requires : goal.put_entries-requires
put_entries-requires g c =
    let are = rows_of-first _ _ _ _ _ _ c.in-Some.first c.restart.ensures.rows c.restart.ensures.places c.in-Some.ensures.rows c.in-Some.ensures.places c.in-Some.ensures.row in
    IsRunFrom-track _ _ (subst IsFragmentTrack are c.requires)

pub returns-clause-written : goal.returns-clause-written
returns-clause-written g c =
    let are = rows_of-first _ _ _ _ _ _ c.in-Some.first c.restart.ensures.rows c.restart.ensures.places c.in-Some.ensures.rows c.in-Some.ensures.places c.in-Some.ensures.row in
    let head = track_fragment_head-is _ _ _ _ _ _ _ _ (c.as_slice.ensures.value ∙ c.track_head-head.ensures) c.number_of.ensures c.count.ensures (c.in-Some.ensures.rows ∙ c.restart.ensures.rows) in
    subst (Grows _ _ c.put_entries.result) (sym (track_fragment-of _ _ _ _ _ _ are head)) (Grows-after _ _ _ _ _ _ c.in_ok-put.ensures.written c.put_entries.ensures.written)
