-- Refusals of paths are ones that an answer may have; this project's own.
use Rattle.std.specs.Prelude.{Option}
use Rattle.vod_types.specs.declared.paths.ByteRange.{ByteRange}
use Rattle.vod_types.specs.declared.refusal.Refusal.{Refusal}
use Rattle.vod_types.specs.declared.refusal.Refusal.TheVariants as refusals
use Rattle.vod_http.specs.Answered.{MayRefuse}
use Rattle.answer_laws.specs.Refusals.{IsPathRefusal}

pub may_refuse : (range : Option ByteRange) (why : Refusal) → IsPathRefusal why → MayRefuse range why
may_refuse range refusals.BadHead may = may
may_refuse range refusals.Method may = may
may_refuse range refusals.HeadTooLong may = may
may_refuse range refusals.BodyNotTaken may = may
may_refuse range (refusals.BadSettings rule) may = may
may_refuse range (refusals.BadNal file sample) may = may
may_refuse range (refusals.BadRange length) may = absurd may
may_refuse range why may = tt
