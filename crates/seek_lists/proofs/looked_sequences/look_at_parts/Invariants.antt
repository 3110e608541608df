-- So many parts were looked at.
use Rattle.std.proofs.Common.{◌≡◌, ◌≤◌, length, map, drop, IfSome, All}
use Rattle.clip_model.specs.IsTimeline.{IsTimeline}
use Rattle.vod_meta.specs.Held.{names_held, AreTrue}
use Rattle.flat_lists.specs.LookedSequences.{found_in, names_in, part_kept}
use Rattle.seek_lists.specs.Looked.{IsLookedPart, looked_seen}
use Rattle.seek_lists.proofs.Tours.{IsListWalk}
use Rattle.seek_lists.proofs.looked_sequences.look_at_parts.Given as goal

abbrev pub invariant-loop-place : goal.invariant-loop-place
invariant-loop-place g l = record {
  content : g.S.Store.content l.store ≡ g.S.Store.content l.fn.store;
  later : g.S.Store.faults l.fn.store ≤ g.S.Store.faults l.store;
  held : IfSome (g.S.Store.content l.store) (λ known. AreTrue known l.metas);
  kept : IsTimeline l.timeline.pieces l.timeline.parts;
  each : All IsLookedPart l.looked.items;
  count : length l.looked.items ≡ l.place;
  walk : IfSome (g.S.Store.content l.fn.store) (λ known.
      IsListWalk known (found_in known l.looking.edits l.timeline) (names_in known l.looking.edits l.timeline) (part_kept l.looking.mapping.now l.looking.sequence) l.timeline.parts (drop l.place l.timeline.parts)
      (map looked_seen l.looked.items) (names_held l.fn.metas) (names_held l.metas) (g.S.Store.log l.fn.store) (g.S.Store.log l.store));
}
