use Rattle.vod_turns.proofs.DoorLemmas.{gives_back, turned_links}
use Rattle.vod_turns.proofs.doors.serve_door.Goals as goal

pub returns-clause-served : goal.returns-clause-served
returns-clause-served g c = λ all_served answer told.
    let taken = c.serve_taken-end.ensures.taken in
    let gives = gives_back taken.0 c.serve_taken-end.new.links.items taken.1 taken.2.long c.give_all.ensures.coming c.give_all.ensures.returned c.give_all.ensures.out in
    turned_links gives (taken.2.many all_served) taken.2.long (taken.2.served all_served answer told)
