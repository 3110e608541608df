-- The rows of both kinds in their order, cut in two; this project's own.
use Rattle.std.specs.Prelude.{◌≡◌, ℕ, List, [], ◌∷◌, ◌++◌, drop, take, ℤ, ◌≤ℤ◌}
use Rattle.vod_types.specs.declared.segments.Row.{Row}
use Rattle.vod_types.specs.declared.tracks.Kind.TheVariants.{Video, Audio}
use Rattle.media_model.specs.WritingOrder.{TrackRow, writing_order}
use Rattle.media_model.proofs.ClipSizes.{kind_rows}

-- decode times don't fall, and begin at a time or later
abbrev pub RowsRise : ℤ → List Row → Type 0
RowsRise time [] = Unit {0}
RowsRise time (r ∷ rs) = (time ≤ℤ r.sample.dts) × RowsRise r.sample.dts rs

-- So many rows of each kind stand before the others.
pub record Cut (video audio : List Row) (v a : ℕ) : Type 0 where
  pub front : List TrackRow
  pub order : writing_order video audio ≡ front ++ writing_order (drop v video) (drop a audio)
  pub of_video : kind_rows Video front ≡ take v video
  pub of_audio : kind_rows Audio front ≡ take a audio
