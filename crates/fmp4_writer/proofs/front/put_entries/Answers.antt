use Rattle.std.proofs.Common.{rules, ◌++◌, sym, ap, ◌∙◌, subst, arith, length}
use Rattle.std.proofs.lemmas.Result.{err_from_is_err_and}
use Rattle.vod_source.specs.Told.{GrewByPrefix, Grows}
use Rattle.vod_source.proofs.ToldLemmas.{told_with-more, GrewByPrefix-after, GrewByPrefix-more}
use Rattle.fmp4_writer.specs.Front.{IsRunFrom}
use Rattle.fmp4_writer.proofs.RowsLemmas.{left_before, none_left}
use Rattle.fmp4_writer.proofs.FrontLemmas.{IsRunFrom-step, IsRunFrom-next, run_entries-more, run_entries-last}
use Rattle.fmp4_writer.proofs.GrowthLemmas.{Grows-after}
use Rattle.fmp4_writer.proofs.front.put_entries.Goals as goal

pub run_entry-requires-clause-times : goal.run_entry-requires-clause-times
run_entry-requires-clause-times g c =
    let left = left_before _ _ _ _ _ c.in-Some.following c.in-Some.ensures.rows c.in-Some.ensures.places c.in-Some.ensures.row in
    IsRunFrom-step _ _ _ (subst (IsRunFrom _) left c.loop-following.invariant.run)

pub returns-in_err-put-clause-written : goal.returns-in_err-put-clause-written
returns-in_err-put-clause-written g c =
    let left = left_before _ _ _ _ _ c.in-Some.following c.in-Some.ensures.rows c.in-Some.ensures.places c.in-Some.ensures.row in
    let invariant = c.loop-following.invariant in
    let more = run_entries-more _ _ _ _ _ _ invariant.done _ invariant.others left (c.as_slice.ensures.value ∙ c.run_entry.ensures) in
    let p = err_from_is_err_and c.from_residual.result c.from_residual.ensures.1 in
    rw p.1 (subst (GrewByPrefix _ _) (sym more) (GrewByPrefix-more _ (GrewByPrefix-after _ invariant.written c.in_err-put.ensures.written)))

pub loop-following-smaller : goal.loop-following-smaller
loop-following-smaller g c =
    let left = left_before _ _ _ _ _ c.in-Some.following c.in-Some.ensures.rows c.in-Some.ensures.places c.in-Some.ensures.row in
    omega (arith, ap length left)

pub loop-following-preserved : goal.loop-following-preserved
loop-following-preserved g c =
    let left = left_before _ _ _ _ _ c.in-Some.following c.in-Some.ensures.rows c.in-Some.ensures.places c.in-Some.ensures.row in
    let invariant = c.loop-following.invariant in
    record {
      rows = c.in-Some.ensures.rows ∙ invariant.rows;
      kept = c.in_ok-put.ensures.kept ∙ invariant.kept;
      run = IsRunFrom-next _ _ _ (subst (IsRunFrom _) left invariant.run);
      done = invariant.done ++ c.as_slice.result.now;
      written = told_with-more _ _ _ _ _ invariant.written c.in_ok-put.ensures.written;
      others = run_entries-more _ _ _ _ _ _ invariant.done _ invariant.others left (c.as_slice.ensures.value ∙ c.run_entry.ensures);
      later = search rules;
    }

pub returns-clause-written : goal.returns-clause-written
returns-clause-written g c =
    let left = none_left c.args.kind (g.R.Rows.rows c.loop-following.rows) (g.R.Rows.places c.loop-following.rows) c.in_default.ensures.row in
    let invariant = c.loop-following.invariant in
    let last = run_entries-last _ _ _ _ invariant.done _ invariant.others left (c.as_slice-2.ensures.value ∙ c.run_entry-2.ensures) in
    subst (Grows _ _ c.put-2.result) (sym last) (Grows-after _ _ _ _ _ _ invariant.written c.put-2.ensures.written)
