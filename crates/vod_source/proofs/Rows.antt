-- Worked examples.
use Rattle.std.proofs.Common.{◌≡◌, ℕ, List, [], ◌∷◌, Some, refl}
use Rattle.vod_source.specs.Stored.{file_named, bytes_at}
use Rattle.vod_source.specs.Ranges.{file_reads}
use Rattle.vod_source.specs.Memory.{skipped, cut, zero_filled}
use Rattle.vod_types.specs.Ranges.{range_reads}

-- a range of 150,000 bytes at 40
row_range : (name : List ℕ) → file_reads name 40 150000 ≡ (name, 40, 65536) ∷ (name, 65576, 65536) ∷ (name, 131112, 18928) ∷ []
unfolding file_reads range_reads
row_range name = refl

-- whole pieces have no rest
row_whole : file_reads (97 ∷ []) 0 131072 ≡ (97 ∷ [], 0, 65536) ∷ (97 ∷ [], 65536, 65536) ∷ []
unfolding file_reads range_reads
row_whole = refl

-- the first of two files with one name counts
row_first : file_named ((97 ∷ [], 1 ∷ []) ∷ (97 ∷ [], 2 ∷ []) ∷ []) (97 ∷ []) ≡ Some (1 ∷ [])
unfolding file_named
row_first = refl

row_part : bytes_at ((97 ∷ [], 1 ∷ 2 ∷ 3 ∷ 4 ∷ []) ∷ []) (97 ∷ []) 1 2 ≡ 2 ∷ 3 ∷ []
unfolding file_named
row_part = refl

row_pieces : cut 1 (skipped ([] ∷ (1 ∷ 2 ∷ []) ∷ (3 ∷ []) ∷ [])) ≡ (2 ∷ []) ∷ (3 ∷ []) ∷ []
row_pieces = refl

row_zeros : zero_filled (1 ∷ 2 ∷ 3 ∷ []) 2 3 ≡ 3 ∷ 0 ∷ 0 ∷ []
row_zeros = refl
