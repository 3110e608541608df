use Rattle.std.proofs.Common.{◌≡◌, ◌-◌, ◌≤◌, length, IfSome, option_map}
use Rattle.std.specs.Vec.Iter.{into_iter_items, into_iter_len}
use Rattle.vod_source.specs.Told.{told_with}
use Rattle.vod_turns.proofs.doors.give_all.Given as goal

abbrev pub invariant-links : goal.invariant-links
invariant-links g l =
    record {
      len : into_iter_len l.rest ≡ length (into_iter_items l.rest);
      enough : IfSome (g.D.Door.out l.door) (λ n. length (into_iter_items l.rest) ≤ n);
      coming : g.D.Door.coming l.door ≡ g.D.Door.coming l.fn.door;
      returned : told_with (g.D.Door.returned l.door) (into_iter_items l.rest) ≡ told_with (g.D.Door.returned l.fn.door) l.fn.links.items;
      out : option_map (λ n. n - length (into_iter_items l.rest)) (g.D.Door.out l.door) ≡ option_map (λ n. n - length l.fn.links.items) (g.D.Door.out l.fn.door);
      later : g.D.Door.faults l.fn.door ≤ g.D.Door.faults l.door;
    }

abbrev pub decreases-links : goal.decreases-links
decreases-links g l = into_iter_len l.rest
