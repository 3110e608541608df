use Rattle.std.proofs.Common.{◌≡◌, ◌+◌, ◌*◌, ◌≤◌, drop}
use Rattle.media_model.specs.Fragment.{sizes}
use Rattle.flat_clip.proofs.sizes.bytes_of.Given as goal

abbrev pub invariant-loop-row : goal.invariant-loop-row
invariant-loop-row l = record {
  few : l.bytes ≤ 4294967295 * l.row-index;
  left : l.bytes + sizes (drop l.row-index l.rows) ≡ sizes l.rows;
}
