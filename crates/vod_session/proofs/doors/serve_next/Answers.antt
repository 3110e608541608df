use Rattle.std.proofs.Common.{rules, arith, true, false, refl}
use Rattle.vod_session.specs.declared.doors.DoorEnd.TheVariants as ends
use Rattle.vod_session.proofs.DoorLemmas.{door_one, out_again, up_to_all, up_to_none}
use Rattle.vod_session.proofs.doors.serve_next.Goals as goal

pub returns-in-NoMemory-clause-served : goal.returns-in-NoMemory-clause-served
returns-in-NoMemory-clause-served g c = λ answer told. record {
  served = 1;
  within = omega arith;
  all = λ e. refl;
  door = door_one c.in-Ok.link c.serve_link-end.new.link c.serve_link-end.result true c.in-Ok.ensures.given c.give_back.ensures.coming c.next.ensures.returned c.give_back.ensures.returned
      (out_again (g.D.Door.out c.args.door.now) (g.D.Door.out c.next.new.self) (g.D.Door.out c.give_back.new.self) c.in-Ok.ensures.counted c.give_back.ensures.out)
      (c.serve_link-end.ensures.served answer told) (λ found. let unused = c.serve_link-end.ensures.unused found in (unused.1, refl));
}

pub returns-in_default : goal.returns-in_default
returns-in_default g c =
    let out = out_again (g.D.Door.out c.args.door.now) (g.D.Door.out c.next.new.self) (g.D.Door.out c.give_back.new.self) c.in-Ok.ensures.counted c.give_back.ensures.out in
    record {
      served = λ answer told. up_to_all
          (door_one c.in-Ok.link c.serve_link-end.new.link c.serve_link-end.result false c.in-Ok.ensures.given c.give_back.ensures.coming c.next.ensures.returned c.give_back.ensures.returned
          out (c.serve_link-end.ensures.served answer told) (λ found. absurd (c.in_default.not-NoMemory found)));
      out = out;
      door_failed = λ e. absurd cc;
      kept = search rules;
      later = search rules;
      door_later = search rules;
    }

pub returns-in-Err-clause-served : goal.returns-in-Err-clause-served
returns-in-Err-clause-served g c = λ answer told.
    up_to_none 1 ends.DoorFailed (λ e. cc) c.in-Err.ensures.kept c.next.ensures.returned c.in-Err.ensures.uncounted (omega arith)
