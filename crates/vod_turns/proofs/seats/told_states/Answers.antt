use Rattle.std.proofs.Common.{List, sym, subst, arith}
use Rattle.vod_turns.specs.declared.link_state.LinkState.{LinkState}
use Rattle.vod_turns.specs.Seats.{AreStates}
use Rattle.vod_turns.proofs.SeatEnds.{whole_new}
use Rattle.vod_turns.proofs.seats.told_states.Goals as goal

pub returns-clause-told : goal.returns-clause-told
returns-clause-told g c =
    let whole = whole_new c.tell_states.new.states c.args.states.items c.args.states.len (omega arith) (omega arith) in
    subst (λ (states : List LinkState). AreStates c.args.seats.now states) (sym whole) c.tell_states.ensures
