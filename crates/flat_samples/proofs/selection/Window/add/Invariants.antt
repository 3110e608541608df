use Rattle.std.proofs.Common.{◌≡◌, ◌++◌, filter, map, take}
use Rattle.segment_model.specs.Timeline.{placed}
use Rattle.flat_samples.specs.Rows.{timed_view}
use Rattle.flat_samples.specs.Selection.{is_within}
use Rattle.flat_samples.proofs.selection.Window.add.Given as goal

-- the samples so far stand behind those that were there
abbrev pub invariant-loop-sample : goal.invariant-loop-sample
invariant-loop-sample l = map timed_view l.out.items ≡ map timed_view l.fn.out.items ++ map (placed l.self.file l.self.base) (filter (is_within l.self.from l.self.hi) (map timed_view (take l.sample-index l.samples)))
