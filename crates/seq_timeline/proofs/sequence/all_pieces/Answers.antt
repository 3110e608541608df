use Rattle.std.proofs.Common.{◌≡◌, ◌++◌, length, length-append, map, drop, ap, arith}
use Rattle.std.specs.Prelude.{flat_map}
use Rattle.clip_model.specs.Trim.{trimmed}
use Rattle.clip_model.specs.Timeline.{placed_pieces}
use Rattle.seq_timeline.specs.Views.{placed_view}
use Rattle.seq_timeline.proofs.ShareLemmas.{pieces_count}
use Rattle.seq_timeline.proofs.sequence.all_pieces.Goals as goal

pub returns-clause-count : goal.returns-clause-count
returns-clause-count c =
    let s = c.args.selection.now in
    let ps = map placed_view c.args.clips.now in
    let made = c.loop-placed.pieces.items in
    let rest = trimmed s.window (flat_map (placed_pieces s.root.now s.tracks 0) (map placed_view (drop c.loop-placed.placed-index c.args.clips.now))) in
    let e : length (made ++ rest) ≡ length (trimmed s.window (flat_map (placed_pieces s.root.now s.tracks 0) ps)) = ap length c.loop-placed.invariant.made in
    omega (arith, e, length-append made rest, pieces_count s.root.now s.tracks s.window 0 ps, c.requires.files)
