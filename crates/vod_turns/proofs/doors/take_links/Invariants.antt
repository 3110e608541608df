use Rattle.std.proofs.Common.{◌≡◌, ◌≤◌, length, vec_capacity}
use Rattle.vod_turns.specs.Doors.{AreOut}
use Rattle.vod_turns.proofs.doors.take_links.Given as goal

abbrev pub invariant-loop : goal.invariant-loop
invariant-loop g l =
    record {
      out : AreOut (g.D.Door.coming l.fn.door) (g.D.Door.coming l.door) (g.D.Door.returned l.fn.door) (g.D.Door.returned l.door) (g.D.Door.out l.fn.door) (g.D.Door.out l.door) l.links.items;
      many : length l.links.items ≡ l.counter;
      room : vec_capacity l.links ≡ vec_capacity l.fn.links;
      later : g.D.Door.faults l.fn.door ≤ g.D.Door.faults l.door;
    }
