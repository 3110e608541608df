use Rattle.std.proofs.Common.{List, sym, subst, arith}
use Rattle.vod_session.specs.declared.state.LinkEnd.{LinkEnd}
use Rattle.vod_turns.specs.Seats.{AreEnds}
use Rattle.vod_turns.proofs.SeatEnds.{whole_new}
use Rattle.vod_turns.proofs.rounds.told_ends.Goals as goal

pub returns-clause-told : goal.returns-clause-told
returns-clause-told g c =
    let whole = whole_new c.tell_ends.new.ends c.args.ends.items c.args.ends.len (omega arith) (omega arith) in
    subst (λ (states : List LinkEnd). AreEnds c.args.seats.now states) (sym whole) c.tell_ends.ensures
