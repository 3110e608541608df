use Rattle.std.proofs.Common.{append-nil, sym}
use Rattle.flat_clip.proofs.EditLemmas.{edits-none}
use Rattle.flat_clip.proofs.tracks.put_edits.Goals as goal

pub returns-then-after-eq0 : goal.returns-then-after-eq0
returns-then-after-eq0 c = rw (edits-none c.args.after c.args.duration c.if-after-eq0.true) (sym (append-nil _))
