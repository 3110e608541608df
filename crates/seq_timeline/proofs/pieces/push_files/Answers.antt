use Rattle.std.proofs.Common.{◌<◌, ◌+◌, List, length, map, drop, subst, sym, arith, w64, to_z}
use Rattle.std.specs.Int.{IsInRange}
use Rattle.std.specs.List.{AllByRecursion}
use Rattle.std.proofs.lemmas.Int.{ints}
use Rattle.std.proofs.lemmas.List.{drop_all}
use Rattle.clip_map.specs.declared.clips.ConcatFile.{ConcatFile}
use Rattle.clip_map.specs.Views.{file_view}
use Rattle.seq_timeline.specs.Bounds.{AreUnits}
use Rattle.seq_timeline.proofs.PieceLemmas.{drop_item, file_reach, files_next, files_all}
use Rattle.seq_timeline.proofs.pieces.push_files.Goals as goal

pub push_trimmed-requires : goal.push_trimmed-requires
push_trimmed-requires c =
    let xs = c.deref-file-items.result.now in
    let i = c.loop-file.file-index in
    let x = c.file-item.result in
    let lt : i < length xs = omega arith in
    let P : List ConcatFile → Type 0 = λ fs. AllByRecursion (λ f. IsInRange 1 86400000 f.duration) (map file_view fs) in
    let rest = subst P (drop_item xs i x lt c.file-item.is) c.loop-file.invariant.rest in
    let p = c.args.placed.now in
    subst AreUnits (sym c.in_ok-piece.ensures.piece)
    (file_reach c.args.selection.now.root.now c.unwrap_or-tracks.result c.args.part p.start p.length (file_view x) (to_z w64 c.loop-file.at-bits) c.requires.start c.requires.length rest.0.1
    (record { low = omega (arith, ints, c.loop-file.invariant.low); high = omega (arith, ints, c.loop-file.invariant.high, c.loop-file.invariant.count, lt) }))

pub loop-file-preserved : goal.loop-file-preserved
loop-file-preserved c =
    let xs = c.deref-file-items.result.now in
    let i = c.loop-file.file-index in
    let x = c.file-item.result in
    let lt : i < length xs = omega arith in
    let P : List ConcatFile → Type 0 = λ fs. AllByRecursion (λ f. IsInRange 1 86400000 f.duration) (map file_view fs) in
    let e = drop_item xs i x lt c.file-item.is in
    let k = c.loop-file.invariant in
    let rest = subst P e k.rest in
    let p = c.args.placed.now in
    record {
      pieces = files_next c.args.selection.now.window c.args.selection.now.root.now c.unwrap_or-tracks.result c.args.part p.start p.length (to_z w64 c.loop-file.at-bits) _ (drop i xs) (drop (i + 1) xs) x c.in_ok-piece.piece _ c.loop-file.pieces.items c.push_trimmed.new.pieces.items
          e (omega (arith, ints, c.from-at.ensures)) c.in_ok-piece.ensures.piece c.in_ok-push_trimmed.ensures.pieces k.pieces;
      low = omega (arith, ints, c.from-at.ensures, k.low);
      high = omega (arith, ints, c.from-at.ensures, k.high, rest.0.1);
      count = k.count;
      rest = rest.1;
    }

pub returns-clause-pieces : goal.returns-clause-pieces
returns-clause-pieces c =
    let xs = c.deref-file-items.result.now in
    let p = c.args.placed.now in
    files_all c.args.selection.now.window c.args.selection.now.root.now _ _ c.args.part p.start p.length (to_z w64 c.loop-file.at-bits) _ _ (drop c.loop-file.file-index xs) xs _ c.args.pieces.now.items c.loop-file.pieces.items
    (drop_all c.loop-file.file-index xs (omega arith)) c.unwrap_or-tracks.ensures (omega (arith, ints, c.from.ensures)) c.deref-file-items.ensures.value c.loop-file.invariant.pieces
