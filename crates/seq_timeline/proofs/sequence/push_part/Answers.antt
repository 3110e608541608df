use Rattle.std.proofs.Common.{arith}
use Rattle.seq_timeline.specs.Views.{placed_view}
use Rattle.seq_timeline.proofs.ShareLemmas.{pushed_count}
use Rattle.seq_timeline.proofs.sequence.push_part.Goals as goal

pub overflow_cast-count : goal.overflow_cast-count
overflow_cast-count c =
    let s = c.args.selection.now in
    omega (arith, c.requires.pieces, c.len.ensures, pushed_count s.root.now s.tracks s.window c.len-part.result (placed_view c.args.placed.now) c.args.draft.now.pieces.items c.push_pieces.new.pieces.items c.in_ok-push_pieces.ensures.pieces)
