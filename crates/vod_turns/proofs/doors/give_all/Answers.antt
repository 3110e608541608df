use Rattle.std.proofs.Common.{rules, ◌≡◌, ◌+◌, ◌-◌, ◌≤◌, List, ◌∷◌, length, IfSome, option_map, sym, ap, ◌∙◌, subst, arith}
use Rattle.std.specs.Vec.Iter.{into_iter_items, into_iter_len}
use Rattle.vod_source.specs.Told.{told_with}
use Rattle.vod_source.proofs.ToldLemmas.{told_with-nil}
use Rattle.vod_turns.proofs.DoorLemmas.{gave_one, no_items, one_fewer, still_enough}
use Rattle.vod_turns.proofs.doors.give_all.Goals as goal

pub links-preserved : goal.links-preserved
links-preserved g c =
    let were = c.links.invariant in
    let items : into_iter_items c.links.rest ≡ c.in-Some.link ∷ into_iter_items c.next.new.self = c.in-Some.ensures.items in
    let many : length (into_iter_items c.links.rest) ≡ length (into_iter_items c.next.new.self) + 1 = ap length items ∙ omega arith in
    record {
      len = omega (arith, were.len, many, c.in-Some.ensures.len);
      enough = still_enough (g.D.Door.out c.links.door) (g.D.Door.out c.give_back.new.self) (length (into_iter_items c.next.new.self))
          (subst (λ k. IfSome (g.D.Door.out c.links.door) (λ n. k ≤ n)) many were.enough) c.give_back.ensures.out;
      coming = c.give_back.ensures.coming ∙ were.coming;
      returned = gave_one (g.D.Door.returned c.links.door) (g.D.Door.returned c.give_back.new.self) (g.D.Door.returned c.args.door.now) c.in-Some.link (into_iter_items c.next.new.self) c.args.links.items
          (subst (λ (rest : List g.row.D-L.Denot). told_with (g.D.Door.returned c.links.door) rest ≡ told_with (g.D.Door.returned c.args.door.now) c.args.links.items) items were.returned)
          c.give_back.ensures.returned;
      out = one_fewer (g.D.Door.out c.links.door) (g.D.Door.out c.give_back.new.self) (g.D.Door.out c.args.door.now) (length (into_iter_items c.next.new.self)) (length c.args.links.items)
          (subst (λ k. option_map (λ n. n - k) (g.D.Door.out c.links.door) ≡ option_map (λ n. n - length c.args.links.items) (g.D.Door.out c.args.door.now)) many were.out)
          c.give_back.ensures.out;
      later = omega (arith, were.later, c.give_back.ensures.later);
    }

pub returns-clause-returned : goal.returns-clause-returned
returns-clause-returned g c =
    let none : into_iter_len c.links.rest ≡ 0 = search rules in
    let empty = no_items (into_iter_items c.links.rest) (into_iter_len c.links.rest) c.links.invariant.len none in
    sym (told_with-nil (g.D.Door.returned c.links.door)) ∙ ap (told_with (g.D.Door.returned c.links.door)) (sym empty) ∙ c.links.invariant.returned
