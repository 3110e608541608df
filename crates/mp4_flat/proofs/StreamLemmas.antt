-- Which leaves are transport streams.
use Rattle.std.proofs.Common.{◌≡◌, ℕ, true, false, refl, ap, ◌∙◌, sym}
use Rattle.vod_types.specs.declared.paths.Leaf.{Leaf}
use Rattle.vod_types.specs.declared.paths.Leaf.TheVariants.{Segment}
use Rattle.vod_types.specs.declared.segments.Form.{Form}
use Rattle.vod_types.specs.declared.segments.Form.TheVariants.{Ts, Fmp4}
use Rattle.vod_types.specs.declared.tracks.Asked.{Asked}
use Rattle.mp4_flat.specs.Flat.{is_stream}

-- another leaf is none
pub no_stream : (leaf other : Leaf) (P : Type 0) → leaf ≡ other → is_stream other ≡ false → is_stream leaf ≡ true → P
no_stream leaf other P is none stream = let e : false ≡ true = sym none ∙ ap is_stream (sym is) ∙ stream in absurd cc

-- a segment is one by its form
pub stream_form : (leaf : Leaf) (number sequence : ℕ) (asked : Asked) (form : Form) → leaf ≡ Segment number sequence asked form → is_stream leaf ≡ true → form ≡ Ts
stream_form leaf number sequence asked Ts is stream = refl
stream_form leaf number sequence asked Fmp4 is stream = no_stream leaf (Segment number sequence asked Fmp4) (Fmp4 ≡ Ts) is refl stream
