-- What the views of sample tables show: the entries of the payload under each, and all tables of a track.
use Rattle.std.specs.Prelude.{ℕ, ℤ, List, [], unwrap_or, option_map, if◌then◌else◌}
use Rattle.mp4_model.specs.Tables.{SampleTables, SizeTable, read_stts, read_ctts, read_stss, read_stsc, read_stsz, read_stco, read_co64}
use Rattle.mp4_tables.specs.declared.times.Stts.{Stts}
use Rattle.mp4_tables.specs.declared.times.Ctts.{Ctts}
use Rattle.mp4_tables.specs.declared.samples.Stss.{Stss}
use Rattle.mp4_tables.specs.declared.samples.Stsz.{Stsz}
use Rattle.mp4_tables.specs.declared.places.Stsc.{Stsc}
use Rattle.mp4_tables.specs.declared.places.Chunks.{Chunks}
use Rattle.mp4_tables.specs.declared.tables.Tables.{Tables}

unfoldable pub stts_entries : Stts → List (ℕ × ℕ)
stts_entries t = unwrap_or (read_stts t.body.now) []

unfoldable pub ctts_entries : Ctts → List (ℕ × ℤ)
ctts_entries t = unwrap_or (read_ctts t.body.now) []

unfoldable pub stss_entries : Stss → List ℕ
stss_entries t = unwrap_or (read_stss t.body.now) []

unfoldable pub stsc_entries : Stsc → List (ℕ × ℕ × ℕ)
stsc_entries t = unwrap_or (read_stsc t.body.now) []

unfoldable pub stsz_table : Stsz → SizeTable
stsz_table t = unwrap_or (read_stsz t.body.now) (record { common = 0; sizes = [] })

-- the size of each sample, written or common
abbrev pub stsz_entries : Stsz → List ℕ
stsz_entries t = (stsz_table t).sizes

unfoldable pub chunks_entries : Chunks → List ℕ
chunks_entries t = unwrap_or (if t.wide then read_co64 t.body.now else read_stco t.body.now) []

-- the tables of a track, as the definitions of its samples take them
abbrev pub tables_of : Tables → SampleTables
tables_of t = record {
  stts = option_map stts_entries t.stts;
  ctts = option_map ctts_entries t.ctts;
  stss = option_map stss_entries t.stss;
  stsc = option_map stsc_entries t.stsc;
  stsz = option_map stsz_table t.stsz;
  chunks = option_map chunks_entries t.chunks;
}
