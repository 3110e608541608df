use Rattle.std.proofs.Common.{rules, ◌-◌, [], ◌++◌, refl, sym, ap, ◌∙◌, arith}
use Rattle.std.proofs.lemmas.Result.{err_from_is_err_and}
use Rattle.vod_source.specs.Told.{told_with}
use Rattle.vod_source.proofs.ToldLemmas.{told_with-nil, told_with-more}
use Rattle.mp4_source.specs.Sought.{box_reads}
use Rattle.mp4_source.proofs.WayLemmas.{told_start, way-on, sought-moov, sought-err, sought-none, gains-moov, gains-err, gains-none, of_file-append}
use Rattle.mp4_source.proofs.seek.seek.Goals as goal

pub loop-looked-init : goal.loop-looked-init
loop-looked-init g c =
    record {
      within = search rules;
      content = refl;
      reads = [];
      logged = sym (told_with-nil _);
      way = told_start _ c.args.name.now;
      later = search rules;
    }

pub returns-in_err-size-clause-told : goal.returns-in_err-size-clause-told
returns-in_err-size-clause-told g c =
    let p = err_from_is_err_and c.from_residual.result c.from_residual.ensures.1 in
    let now = c.loop-looked in
    rw (p.1, p.2) (sought-err c.args.name.now now.at c.args.file_size now.invariant.reads _ now._looked c.in_err-size.field-0.0 (omega arith) now.invariant.way (rw now.invariant.content at c.in_err-size.ensures.told))

pub returns-in_err-size-clause-log : goal.returns-in_err-size-clause-log
returns-in_err-size-clause-log g c =
    let p = err_from_is_err_and c.from_residual.result c.from_residual.ensures.1 in
    let now = c.loop-looked in
    rw (p.1, p.2) (gains-err c.args.name.now now.at c.args.file_size now.invariant.reads _ _ _ now.invariant.logged _ now._looked c.in_err-size.field-0.0 (omega arith) c.requires now.invariant.way
    (rw now.invariant.content at c.in_err-size.ensures.told) c.in_err-size.ensures.log)

pub returns-in-Moov-clause-told : goal.returns-in-Moov-clause-told
returns-in-Moov-clause-told g c =
    let now = c.loop-looked in
    sought-moov c.args.name.now now.at c.args.file_size now.invariant.reads _ now._looked c.in-Moov.size (omega arith) now.invariant.way (rw (now.invariant.content, c.in-Moov.is) at c.in_ok-size.ensures.told)

pub returns-in-Moov-clause-log : goal.returns-in-Moov-clause-log
returns-in-Moov-clause-log g c =
    let now = c.loop-looked in
    gains-moov c.args.name.now now.at c.args.file_size now.invariant.reads _ _ _ now.invariant.logged _ now._looked c.in-Moov.size (omega arith) now.invariant.way
    (rw (now.invariant.content, c.in-Moov.is) at c.in_ok-size.ensures.told) c.in_ok-size.ensures.log

pub loop-looked-preserved : goal.loop-looked-preserved
loop-looked-preserved g c =
    let now = c.loop-looked in
    record {
      within = search rules;
      content = c.in_ok-size.ensures.content ∙ now.invariant.content;
      reads = now.invariant.reads ++ box_reads now.at (c.args.file_size - now.at);
      logged = told_with-more _ _ _ _ _ now.invariant.logged c.in_ok-size.ensures.log ∙ ap (told_with _) (sym (of_file-append c.args.name.now now.invariant.reads _));
      way = way-on c.args.name.now now.at c.args.file_size now.invariant.reads _ now._looked c.in-Other.size (omega arith) now.invariant.way (rw (now.invariant.content, c.in-Other.is) at c.in_ok-size.ensures.told);
      later = search rules;
    }

pub returns-clause-told : goal.returns-clause-told
returns-clause-told g c =
    let now = c.loop-looked in
    sought-none c.args.name.now now.at c.args.file_size now.invariant.reads _ (64 - now._looked) (omega arith) now.invariant.way

pub returns-clause-log : goal.returns-clause-log
returns-clause-log g c =
    let now = c.loop-looked in
    gains-none c.args.name.now now.at c.args.file_size now.invariant.reads _ _ _ now.invariant.logged _ (64 - now._looked) (omega arith) now.invariant.way refl
