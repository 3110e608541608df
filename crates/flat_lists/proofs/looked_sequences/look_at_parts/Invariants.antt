use Rattle.std.proofs.Common.{◌≡◌, ◌≤◌, length, map, drop, IfSome, All}
use Rattle.clip_model.specs.IsTimeline.{IsTimeline}
use Rattle.flat_samples.specs.Movies.{AreTrue}
use Rattle.flat_lists.specs.LookedSequences.{IsLookedPart, found_in, looked_seen, names_in, part_kept}
use Rattle.flat_lists.proofs.Tours.{IsListWalk}
use Rattle.flat_lists.proofs.looked_sequences.look_at_parts.Given as goal

abbrev pub invariant-loop-place : goal.invariant-loop-place
invariant-loop-place g l = record {
  content : g.S.Store.content l.files ≡ g.S.Store.content l.fn.files;
  later : g.S.Store.faults l.fn.files ≤ g.S.Store.faults l.files;
  kept : IsTimeline l.timeline.pieces l.timeline.parts;
  each : All IsLookedPart l.looked.items;
  count : length l.looked.items ≡ l.place;
  walk : IfSome (g.S.Store.content l.fn.files) (λ known. AreTrue known l.fn.movies →
      IsListWalk known (found_in known l.looking.edits l.timeline) (names_in known l.looking.edits l.timeline) (part_kept l.looking.mapping.now l.looking.sequence) l.timeline.parts (drop l.place l.timeline.parts)
      (map looked_seen l.looked.items) l.fn.movies l.movies (g.S.Store.log l.fn.files) (g.S.Store.log l.files));
}
