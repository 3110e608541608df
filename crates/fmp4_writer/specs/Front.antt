-- Parts of a movie fragment as they are written.
use Rattle.std.specs.Prelude.{ℕ, ◌+◌, ◌*◌, pos, ◌≤ℤ◌, ◌-ℤ◌, List, [], ◌∷◌, ◌++◌, codes, FitsSigned}
use Rattle.std.specs.List.{AllByRecursion}
use Rattle.std.specs.Int.{w32}
use Rattle.vod_types.specs.declared.segments.Row.{Row}
use Rattle.vod_bytes.specs.Fields.{be24, be32}
use Rattle.media_model.specs.Fragment.{track_fragment_header, decode_time}
use Rattle.media_model.specs.Laws.{NeverFallsFrom}

-- `trun` up to its entries, of so many (ISO/IEC 14496-12, 8.8.8)
unfoldable pub run_head : ℕ → ℕ → List ℕ
run_head rows data_offset = be32 (20 + 16 * rows) ++ codes "trun" ++ 1 ∷ be24 0x000F01 ++ be32 rows ++ be32 data_offset

-- `traf` of a track up to its run's entries, of so many, the first of this row (8.8.6)
unfoldable pub track_fragment_head : ℕ → Row → ℕ → ℕ → List ℕ
track_fragment_head track first rows data_offset =
    be32 (64 + 16 * rows) ++ codes "traf" ++ track_fragment_header track ++ decode_time first.sample.dts ++ run_head rows data_offset

-- presentation minus decode time fits 32 bits
abbrev pub OffsetFits : Row → Type 0
OffsetFits row = FitsSigned w32 (row.sample.pts -ℤ row.sample.dts)

-- the decode time is at least 0 and not above that of the row that follows, if there is one
abbrev pub StepsFrom : Row → List Row → Type 0
StepsFrom row [] = Unit {0}
StepsFrom row (next ∷ rows) = (pos 0 ≤ℤ row.sample.dts) × (row.sample.dts ≤ℤ next.sample.dts)

-- a row and the rows behind it, as a run takes them: decode times that are at least 0 and don't fall, and offsets that fit
pub record IsRunFrom (row : Row) (rows : List Row) : Type 0 where
  pub from_zero : pos 0 ≤ℤ row.sample.dts
  pub times : NeverFallsFrom row.sample.dts rows
  pub offsets : AllByRecursion OffsetFits (row ∷ rows)
