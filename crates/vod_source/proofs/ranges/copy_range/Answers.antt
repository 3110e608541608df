use Rattle.std.proofs.Common.{rules, ◌+◌, ◌∷◌, [], ◌++◌, refl, sym, ap, ◌∙◌, arith, add-zero}
use Rattle.std.proofs.Math.Nat.{sub-zero}
use Rattle.std.proofs.lemmas.Result.{err_from_is_err_and}
use Rattle.vod_source.specs.Told.{told_with}
use Rattle.vod_source.proofs.ToldLemmas.{told_with-nil, told_with-more, GrewByPrefix-after, GrewByPrefix-front, GrewByCount-none, GrewByCount-more}
use Rattle.vod_source.proofs.RangeLemmas.{copied-none, copied-more, copied-prefix, other_reads, all_reads}
use Rattle.vod_source.proofs.ranges.copy_range.Goals as goal

pub loop-done-init : goal.loop-done-init
loop-done-init g c =
    record {
      within = search rules;
      content = refl;
      kept = refl;
      written = copied-none _ _;
      many = GrewByCount-none _;
      reads = [];
      logged = sym (told_with-nil _);
      others = rw (add-zero, sub-zero) refl;
      store_later = search rules;
      sink_later = search rules;
    }

pub returns-in_err-copy_piece-clause-written : goal.returns-in_err-copy_piece-clause-written
returns-in_err-copy_piece-clause-written g c =
    let p = err_from_is_err_and c.from_residual.result c.from_residual.ensures.1 in
    rw p.1 (copied-prefix _ _ _ c.loop-done.done c.min-piece.result _ _ _ c.args.n (omega arith) c.loop-done.invariant.written
    (rw c.loop-done.invariant.content at c.in_err-copy_piece.ensures.written))

pub returns-in_err-copy_piece-clause-log : goal.returns-in_err-copy_piece-clause-log
returns-in_err-copy_piece-clause-log g c =
    let p = err_from_is_err_and c.from_residual.result c.from_residual.ensures.1 in
    let others = other_reads _ _ _ c.loop-done.done _ (omega arith) c.loop-done.invariant.others c.min-piece.result (search rules) in
    rw p.1 (GrewByPrefix-front _ _ _ others (GrewByPrefix-after _ c.loop-done.invariant.logged c.in_err-copy_piece.ensures.log))

pub loop-done-preserved : goal.loop-done-preserved
loop-done-preserved g c =
    let invariant = c.loop-done.invariant in
    record {
      within = omega arith;
      content = c.copy_piece.ensures.content ∙ invariant.content;
      kept = c.copy_piece.ensures.kept ∙ invariant.kept;
      written = copied-more _ _ _ _ _ _ _ _ invariant.written (rw invariant.content at c.in_ok-copy_piece.ensures.written);
      many = GrewByCount-more invariant.many c.in_ok-copy_piece.ensures.many;
      reads = invariant.reads ++ (c.args.name.now, c.args.at + c.loop-done.done, c.min-piece.result) ∷ [];
      logged = told_with-more _ _ _ _ _ invariant.logged c.in_ok-copy_piece.ensures.log;
      others = other_reads _ _ _ _ _ (omega arith) invariant.others _ (search rules);
      store_later = search rules;
      sink_later = search rules;
    }

pub returns-clause-log : goal.returns-clause-log
returns-clause-log g c =
    c.loop-done.invariant.logged ∙ ap (told_with _) (all_reads _ _ _ c.loop-done.done _ (omega arith) c.loop-done.invariant.others)
