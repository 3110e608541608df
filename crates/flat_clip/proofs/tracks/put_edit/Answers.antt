use Rattle.std.proofs.Common.{append_assoc, rules, FitsSigned, w64}
use Rattle.std.proofs.lemmas.Int.{to_z-of_z}
use Rattle.flat_clip.proofs.tracks.put_edit.Goals as goal

pub returns : goal.returns
returns c =
    let fits : FitsSigned w64 c.args.time = search rules in
    rw (c.in_ok-u32.ensures.ok, c.in_ok-u64-2.ensures.ok, c.in_ok-u64.ensures.ok, c.cast_unsigned.ensures, to_z-of_z w64 c.args.time fits) (simp append_assoc)
