-- What a track without a fault says of its lists.
use Rattle.std.proofs.Common.{◌≡◌, ℕ, ◌<◌, ◌≤◌, true, List, [], ◌∷◌, length, Option, Some, None, All, IfSome, refl, sym, subst, arith}
use Rattle.std.specs.Prelude.{unwrap_or, nat_le, nat_lt}
use Rattle.std.specs.List.{list_all}
use Rattle.std.proofs.lemmas.Bool.{and_parts, leb-true, ltb-true}
use Rattle.std.proofs.lemmas.List.Elements.{All-nil, All-cons}
use Rattle.mp4_model.specs.Tables.{SampleTables}
use Rattle.mp4_model.specs.Samples.{sample_count, samples_per_chunk, chunk_offsets, chunks_from}
use Rattle.mp4_model.specs.Validity.{rise_from}
use Rattle.mp4_model.specs.GoodTracks.{GoodTrack}
use Rattle.mp4_model.proofs.GoodTables.{AreChunkRuns, good_tables, one_for_each, length-samples_per_chunk}
use Rattle.flat_samples.specs.Checks.{IsSound}
use Rattle.flat_samples.specs.Written.{AreChunks, IsSyncNumber}
use Rattle.flat_samples.proofs.ListLemmas.{chunks_within}

-- ---- chunks

counts_within : (samples chunks : ℕ) (runs : List (ℕ × ℕ × ℕ)) → AreChunkRuns samples chunks runs → length (samples_per_chunk runs chunks) ≤ chunks
counts_within samples chunks [] good = omega arith
counts_within samples chunks (r ∷ runs) good = let e = length-samples_per_chunk samples chunks r runs good in omega (arith, e)

pub sound_chunks : (g : GoodTrack) → IsSound g → AreChunks g.tables
sound_chunks g s =
    let t : SampleTables = g.tables in
    let good = good_tables t g.timescale s.none_broken in
    let chunks : ℕ = length (chunk_offsets t) in
    record {
      each = (one_for_each t g.timescale good).chunks;
      within = subst (λ (o : Option (List (ℕ × ℕ × ℕ))). All (λ c. c < chunks) (chunks_from 0 (samples_per_chunk (unwrap_or o []) chunks))) (sym good.stsc_is)
          (chunks_within chunks 0 (samples_per_chunk good.stsc chunks) (let h = counts_within (sample_count t) chunks good.stsc good.stsc_runs in omega (arith, h)));
    }

-- ---- sync samples

all_numbers : (samples bound : ℕ) (numbers : List ℕ) → rise_from bound numbers ≡ true → list_all (λ (n : ℕ). nat_le n samples) numbers ≡ true → All (IsSyncNumber samples) numbers
all_numbers samples bound [] rise up_to = All-nil (IsSyncNumber samples)
all_numbers samples bound (n ∷ numbers) rise up_to =
    let above = and_parts (nat_lt bound n) (rise_from n numbers) rise in
    let within = and_parts (nat_le n samples) (list_all (λ (m : ℕ). nat_le m samples) numbers) up_to in
    let lt : bound < n = ltb-true bound n above.0 in
    All-cons (IsSyncNumber samples) n numbers (record { low = omega (arith, lt); high = leb-true n samples within.0 }) (all_numbers samples n numbers above.1 within.1)

numbers_of : (samples : ℕ) (o : Option (List ℕ)) → ((numbers : List ℕ) → o ≡ Some numbers → (rise_from 0 numbers ≡ true) × (list_all (λ (n : ℕ). nat_le n samples) numbers ≡ true)) → IfSome o (All (IsSyncNumber samples))
numbers_of samples None rises = tt
numbers_of samples (Some numbers) rises = let r = rises numbers refl in all_numbers samples 0 numbers r.0 r.1

pub sound_syncs : (g : GoodTrack) (samples : ℕ) → samples ≡ sample_count g.tables → IsSound g → IfSome g.tables.stss (All (IsSyncNumber samples))
sound_syncs g samples e s = rw e (numbers_of (sample_count g.tables) g.tables.stss (good_tables g.tables g.timescale s.none_broken).stss_rises)
