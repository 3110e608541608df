use Rattle.std.proofs.Common.{sym, ◌∙◌}
use Rattle.mp4_tables.specs.Views.{tables_of, stsz_table, chunks_entries}
use Rattle.mp4_tables.proofs.FirstBroken.{broken_stts, broken_ctts, broken_stss, broken_stsc, broken_stsz, broken_chunks, broken_none, is_some-option_map}
use Rattle.mp4_tables.proofs.validity.valid.Goals as goal

pub returns-then-not-stts_passes : goal.returns-then-not-stts_passes
returns-then-not-stts_passes c = sym (broken_stts (tables_of c.args.tables.now) c.args.timescale (cc))

pub returns-then-not-ctts_passes : goal.returns-then-not-ctts_passes
returns-then-not-ctts_passes c = sym (broken_ctts (tables_of c.args.tables.now) c.args.timescale (cc) (cc))

pub returns-then-not-stss_passes : goal.returns-then-not-stss_passes
returns-then-not-stss_passes c = sym (broken_stss (tables_of c.args.tables.now) c.args.timescale (cc) (cc) (cc))

pub returns-then-not-stsc_passes : goal.returns-then-not-stsc_passes
returns-then-not-stsc_passes c = sym (broken_stsc (tables_of c.args.tables.now) c.args.timescale (cc) (cc) (cc) (cc))

pub returns-then-is_none : goal.returns-then-is_none
returns-then-is_none c = sym (broken_stsz (tables_of c.args.tables.now) c.args.timescale (cc) (cc) (cc) (cc) (is_some-option_map stsz_table c.args.tables.now.stsz ∙ c.if-is_none.ensures))

pub returns-then-is_none-2 : goal.returns-then-is_none-2
returns-then-is_none-2 c = sym (broken_chunks (tables_of c.args.tables.now) c.args.timescale (cc) (cc) (cc) (cc) (is_some-option_map stsz_table c.args.tables.now.stsz ∙ c.if-is_none.ensures) (is_some-option_map chunks_entries c.args.tables.now.chunks ∙ c.if-is_none-2.ensures))

pub returns : goal.returns
returns c = sym (broken_none (tables_of c.args.tables.now) c.args.timescale (cc) (cc) (cc) (cc) (is_some-option_map stsz_table c.args.tables.now.stsz ∙ c.if-is_none.ensures) (is_some-option_map chunks_entries c.args.tables.now.chunks ∙ c.if-is_none-2.ensures))
