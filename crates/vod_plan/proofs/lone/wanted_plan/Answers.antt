-- The rows of a whole segment are counted as they are checked.
use Rattle.vod_plan.proofs.WritableCalls.{counted_of}
use Rattle.vod_plan.proofs.lone.wanted_plan.Goals as goal

pub returns-in-Whole-clause-counted : goal.returns-in-Whole-clause-counted
returns-in-Whole-clause-counted g c =
    counted_of c.checked_plan.result c.checked_plan.ensures.largest c.checked_plan.ensures.bytes c.checked_plan.ensures.small c.checked_plan.ensures.video_ends c.checked_plan.ensures.audio_ends
