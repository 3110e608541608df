-- Where a session stands.
use Rattle.std.proofs.Common.{◌≡◌, refl}
use Rattle.vod_session.specs.declared.state.State.{State}
use Rattle.vod_session.specs.declared.state.State.TheVariants as at
use Rattle.vod_session.specs.Turns.{IsIdle}

pub idle_is : {C : Type 0} (state : State C) → IsIdle state → state ≡ at.Idle
idle_is at.Idle idle = refl
idle_is (at.Sending sending) idle = absurd idle
idle_is at.Ended idle = absurd idle
