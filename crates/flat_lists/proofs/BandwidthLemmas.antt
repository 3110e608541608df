-- Sums over tables, entry by entry, and averages of them.
use Rattle.std.proofs.Common.{◌≡◌, ℕ, ◌+◌, ◌-◌, ◌*◌, ◌/◌, ◌<◌, max, length, take, sum_by, List, Some, None, refl, sym, ap, ◌∙◌, arith}
use Rattle.std.specs.Prelude.{[], slice_get, sum, option_map, unwrap_or, Option}
use Rattle.std.proofs.lemmas.Bool.Decides.{nat_tests}
use Rattle.std.proofs.lemmas.List.Sums.{sum_by_more}
use Rattle.std.proofs.lemmas.Option.{get_or_from_slice_get}
use Rattle.mp4_model.specs.Runs.{written_out}
use Rattle.mp4_model.specs.Samples.{sample_deltas}
use Rattle.mp4_tables.specs.declared.Stts.{Stts}
use Rattle.mp4_tables.specs.declared.Tables.{Tables}
use Rattle.mp4_tables.specs.Views.{stts_entries, tables_of}
use Rattle.list_model.specs.Playlist.{bandwidth_of}

pub sum_by_entry : {X : Type 0} (f : X → ℕ) (xs : List X) (i : ℕ) (x : X) → i < length xs → slice_get xs i ≡ Some x → sum_by f (take (i + 1) xs) ≡ sum_by f (take i xs) + f x
sum_by_entry f xs i x h at = sum_by_more f xs i x h ∙ ap (λ y. sum_by f (take i xs) + f y) (get_or_from_slice_get xs i x x at)

pub average-zero : (bytes timescale time : ℕ) → time ≡ 0 → 1 ≡ bandwidth_of None bytes timescale time
unfolding bandwidth_of
average-zero bytes timescale time e = rw e refl

pub average-some : (bytes timescale time bits mean : ℕ) → (time ≡ 0 → ⊥) → bits ≡ 8 * bytes * timescale → mean ≡ max ((bits + (time - 1)) / time) 1 → mean ≡ bandwidth_of None bytes timescale time
unfolding bandwidth_of
average-some bytes timescale time bits mean some is e = grind (arith, nat_tests)

pub sum_of_deltas : (t : Tables) (s : Stts) → t.stts ≡ Some s → sum (written_out (stts_entries s)) ≡ sum (sample_deltas (tables_of t))
sum_of_deltas t s is = ap (λ (o : Option Stts). sum (written_out (unwrap_or (option_map stts_entries o) []))) (sym is)

pub named_bitrate : (bitrate : Option ℕ) (bytes timescale time value n : ℕ) → Some n ≡ bitrate → value ≡ n → value ≡ bandwidth_of bitrate bytes timescale time
unfolding bandwidth_of
named_bitrate bitrate bytes timescale time value n is e = e ∙ ap (λ (o : Option ℕ). bandwidth_of o bytes timescale time) is
