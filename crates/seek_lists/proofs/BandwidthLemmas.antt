-- The average of a track, by what stands behind its last sample.
use Rattle.std.proofs.Common.{◌≡◌, ℕ, length, take, List, None, sym, ap, ap₂, ◌∙◌, arith}
use Rattle.std.specs.Prelude.{sum}
use Rattle.std.proofs.lemmas.List.{take_all}
use Rattle.mp4_model.specs.Fitting.{IsUsable}
use Rattle.mp4_model.specs.GoodTracks.{GoodTrack}
use Rattle.mp4_model.specs.Samples.{bytes_before, decode_time, sample_count, sample_deltas, sample_sizes}
use Rattle.mp4_model.proofs.GoodTables.{good_tables, one_for_each}
use Rattle.list_model.specs.Playlist.{bandwidth_of}

all_taken : (xs : List ℕ) (n : ℕ) → n ≡ length xs → sum (take n xs) ≡ sum xs
all_taken xs n e = ap sum (take_all n xs (omega (arith, e)))

module _ (g : GoodTrack) (usable : IsUsable g) (n : ℕ) (all : n ≡ sample_count g.tables) where
  pub all_bytes : bytes_before g.tables n ≡ sum (sample_sizes g.tables)
  all_bytes = all_taken (sample_sizes g.tables) n all

  pub all_time : decode_time g.tables n ≡ sum (sample_deltas g.tables)
  all_time = all_taken (sample_deltas g.tables) n (all ∙ sym (one_for_each g.tables g.timescale (good_tables g.tables g.timescale usable.none_broken)).deltas)

  pub average_is : (bytes time average : ℕ) → bytes ≡ bytes_before g.tables n → time ≡ decode_time g.tables n → average ≡ bandwidth_of None bytes g.timescale time
      → average ≡ bandwidth_of None (sum (sample_sizes g.tables)) g.timescale (sum (sample_deltas g.tables))
  average_is bytes time average bytes_are time_is e = e ∙ ap₂ (λ (bytes time : ℕ). bandwidth_of None bytes g.timescale time) (bytes_are ∙ all_bytes) (time_is ∙ all_time)
