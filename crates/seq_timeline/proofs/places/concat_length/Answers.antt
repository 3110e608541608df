use Rattle.std.proofs.Common.{◌<◌, ◌+◌, List, length, map, drop, subst, ap, ◌∙◌, arith, ℕ, w64, to_z}
use Rattle.std.specs.Prelude.{sum_by}
use Rattle.std.specs.Int.{IsInRange}
use Rattle.std.specs.List.{AllByRecursion}
use Rattle.std.proofs.lemmas.Int.{ints}
use Rattle.std.proofs.lemmas.List.Sums.{sum_by-cons}
use Rattle.clip_map.specs.declared.clips.ConcatFile.{ConcatFile}
use Rattle.clip_map.specs.Views.{file_view}
use Rattle.clip_model.specs.Mapping as model
use Rattle.seq_timeline.specs.Bounds.{longest}
use Rattle.seq_timeline.proofs.PieceLemmas.{drop_item}
use Rattle.seq_timeline.proofs.PlacedLemmas.{abs_within}
use Rattle.seq_timeline.proofs.places.concat_length.Goals as goal

pub loop-file-preserved : goal.loop-file-preserved
loop-file-preserved c =
    let xs = c.deref-file-items.result.now in
    let i = c.loop-file.file-index in
    let x = c.file-item.result in
    let k = c.loop-file.invariant in
    let lt : i < length xs = omega arith in
    let e = drop_item xs i x lt c.file-item.is in
    let P : List ConcatFile → Type 0 = λ fs. AllByRecursion (λ f. IsInRange 1 86400000 f.duration) (map file_view fs) in
    let rest = subst P e k.rest in
    let f : model.ConcatFile → ℕ = λ g. g.duration in
    let total = ap (λ fs. sum_by f (map file_view fs)) e ∙ sum_by-cons f (file_view x) (map file_view (drop (i + 1) xs)) in
    let added = c.from-length-in-loop-file.ensures in
    record {
      total = omega (arith, ints, total, added, k.total);
      low = omega (arith, ints, added, k.low);
      high = omega (arith, ints, added, k.high, rest.0.1);
      count = k.count;
      rest = rest.1;
    }

pub returns-else-length-lt0-clause-bound : goal.returns-else-length-lt0-clause-bound
returns-else-length-lt0-clause-bound c =
    let k = c.loop-file.invariant in
    abs_within (to_z w64 c.loop-file.length-bits) longest (omega (arith, ints, c.if-length-lt0.false)) (omega (arith, ints, k.high, k.count, c.loop-file.auto.file-index-end))
