-- Why a path may be refused; this project's own.
use Rattle.std.specs.Prelude.{⊤}
use Rattle.vod_types.specs.declared.refusal.Refusal.{Refusal}
use Rattle.vod_types.specs.declared.refusal.Refusal.TheVariants as refusals

-- where no range of bytes is asked for: not for a head, for settings, for a range or for a cut body
abbrev pub IsPathRefusal : Refusal → Type 0
IsPathRefusal refusals.BadHead = ⊥
IsPathRefusal refusals.Method = ⊥
IsPathRefusal refusals.HeadTooLong = ⊥
IsPathRefusal refusals.BodyNotTaken = ⊥
IsPathRefusal (refusals.BadSettings rule) = ⊥
IsPathRefusal (refusals.BadNal file sample) = ⊥
IsPathRefusal (refusals.BadRange length) = ⊥
IsPathRefusal why = ⊤
