use Rattle.std.proofs.Common.{◌≡◌, ◌+◌, map, get_or}
use Rattle.std.specs.List.{range_with_len}
use Rattle.mp4_model.specs.Samples.{bytes_before_in_chunk}
use Rattle.flat_samples.proofs.ListLemmas.{AreNext}
use Rattle.flat_samples.proofs.tables.offsets_by.Given as goal

abbrev pub invariant-loop-i : goal.invariant-loop-i
invariant-loop-i l = record {
  offsets : l.list.items ≡ map (λ i. get_or l.fn.next (get_or l.chunks i 0) 0 + bytes_before_in_chunk l.chunks l.sizes i) (range_with_len 0 l.i);
  next : AreNext l.chunks l.sizes l.fn.next l.next l.i;
}
