-- The tables of a track as lists with one element for each sample; this project's own.
use Rattle.std.specs.Prelude.{◌≡◌, ℕ, ◌*◌, ◌<◌, ◌≤◌, ◌^◌, true, pos, map, length, slice_index, slice_index_or, All}
use Rattle.std.specs.List.{range_with_len}
use Rattle.mp4_model.specs.Samples.{FlatRow, sample_count, sample_sizes, sample_chunks, chunk_offsets, sample_deltas, composition_offsets, sample_offset, is_sync}
use Rattle.mp4_model.specs.Tables.{SampleTables}
use Rattle.flat_samples.specs.declared.tables.WrittenTables.{WrittenTables}
use Rattle.flat_samples.specs.declared.tables.FileSample.{FileSample}

pub record IsWrittenOut (t : SampleTables) (w : WrittenTables) : Type 0 where
  pub sizes : w.sizes.items ≡ sample_sizes t
  pub offsets : w.offsets.items ≡ map (sample_offset t) (range_with_len 0 (sample_count t))
  pub deltas : w.deltas.items ≡ sample_deltas t
  pub composition_offsets : w.composition_offsets.items ≡ composition_offsets t
  pub syncs : w.syncs.items ≡ map (is_sync t) (range_with_len 0 (sample_count t))

-- each sample is in a chunk
pub record AreChunks (t : SampleTables) : Type 0 where
  pub each : length (sample_chunks t) ≡ sample_count t
  pub within : All (λ chunk. chunk < length (chunk_offsets t)) (sample_chunks t)

-- the number of one of so many samples, from 1
pub record IsSyncNumber (samples n : ℕ) : Type 0 where
  pub low : 1 ≤ n
  pub high : n ≤ samples

abbrev pub flat_view : FileSample → FlatRow
flat_view s = record {
  offset = s.offset;
  size = s.size;
  decode_time = s.decode_time;
  delta = s.delta;
  composition_offset = s.composition_offset;
  sync = s.sync;
}

-- the sample with a number and its decode time, from the lists
abbrev pub row_of : WrittenTables → ℕ → ℕ → FlatRow
row_of w i time = record {
  offset = slice_index w.offsets.items i;
  size = slice_index w.sizes.items i;
  decode_time = time;
  delta = slice_index w.deltas.items i;
  composition_offset = slice_index_or w.composition_offsets.items i (pos 0);
  sync = slice_index_or w.syncs.items i true;
}

-- each list has a sample of a number
pub record HasSample (w : WrittenTables) (i : ℕ) : Type 0 where
  pub sizes : i < length w.sizes.items
  pub offsets : i < length w.offsets.items
  pub deltas : i < length w.deltas.items
  pub composition_offsets : i < length w.composition_offsets.items
  pub syncs : i < length w.syncs.items

-- the most units that a track lasts, and the units of an hour
abbrev pub most_units : ℕ
most_units = 2 ^ 40

abbrev pub most_shift : ℕ
most_shift = 3600 * 90000
