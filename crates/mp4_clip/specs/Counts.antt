-- The first checks of a clip, by the numbers of its rows; this project's own.
use Rattle.std.specs.Prelude.{ℕ, ◌==◌, nat_lt, find, [], ◌∷◌, Option, option_map, Result, IfSome}
use Rattle.std.specs.Bool.{then_some}
use Rattle.vod_types.specs.declared.refusal.Refusal.{Refusal}
use Rattle.vod_types.specs.declared.refusal.Refusal.TheVariants.{EmptyClip, TooManySamples}
use Rattle.vod_types.specs.declared.tracks.Asked.{Asked}
use Rattle.vod_types.specs.declared.tracks.Kind.TheVariants.{Video, Audio}
use Rattle.vod_types.specs.Results.{◌>>◌, unless}
use Rattle.vod_types.specs.Tracks.{lead_of}
use Rattle.mp4_model.specs.GoodTracks.{GoodTrack}
use Rattle.media_model.proofs.InitSizes.{HasReference}
use Rattle.origin_model.specs.Loaded.{CheckedPiece}
use Rattle.vod_plan.specs.declared.spans.PlanPiece.{PlanPiece}
use Rattle.vod_plan.specs.RowFaults.{lead_first}
use Rattle.vod_plan.specs.Spans.{piece_view, rows_in}

-- a row of the lead, and few rows of both tracks
abbrev pub counts_checked : ℕ → ℕ × ℕ → Result (Unit {0}) Refusal
counts_checked sequence (lead, other) =
    unless (then_some (lead == 0) (EmptyClip sequence)) >> unless (option_map (λ count. TooManySamples count) (find (nat_lt 2000000) (lead ∷ other ∷ [])))

-- how many rows the lead track has, and the other
abbrev pub counts_of : Asked → PlanPiece → ℕ × ℕ
counts_of asked p = lead_first (lead_of asked) (rows_in Video (piece_view p)) (rows_in Audio (piece_view p))

-- the sample entries of the tracks have room for their data references
abbrev pub HasRoom : Option GoodTrack → Type 0
HasRoom o = IfSome o (λ t. HasReference t.entry)

abbrev pub HaveRoom : CheckedPiece → Type 0
HaveRoom c = HasRoom c.video × HasRoom c.audio
