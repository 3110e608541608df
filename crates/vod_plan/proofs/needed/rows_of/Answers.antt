-- No track is asked.
use Rattle.std.proofs.Common.{◌≡◌, false, not, ap, ◌∙◌, rules, FitsSigned, w64}
use Rattle.std.specs.Prelude.{is_some}
use Rattle.std.proofs.lemmas.Int.{to_z-of_z}
use Rattle.vod_plan.proofs.FoundLemmas.{bare_tracks}
use Rattle.vod_plan.proofs.needed.rows_of.Goals as goal

pub returns-then-is_none-2-clause-selected : goal.returns-then-is_none-2-clause-selected
returns-then-is_none-2-clause-selected g c =
    let fits : FitsSigned w64 c.args.piece.now.base = search rules in
    let video : is_some c.args.tracks.video ≡ false = c.is_none.ensures ∙ ap not c.if-is_none.true in
    let audio : is_some c.args.tracks.audio ≡ false = c.is_none-then-is_none.ensures ∙ ap not c.if-is_none-2.true in
    simp to_z-of_z (bare_tracks c.args.piece.now c.args.tracks video audio c.requires.named)
