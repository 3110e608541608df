use Rattle.std.proofs.Common.{◌≡◌, length, ◌∙◌, arith}
use Rattle.flat_segments.proofs.Looks.{added, typed_view}
use Rattle.flat_segments.proofs.needed.Needed.add.Goals as goal

pub returns-clause-added : goal.returns-clause-added
returns-clause-added c = added _ _ _ c.add.result c.in_ok-file.file c.len-place.result c.in_ok-file.ensures.file (c.in_ok-file.ensures.typed ∙ typed_view c.args.tracks.now.video) c.in_ok-push.ensures.items (let at : c.len-place.result ≡ length c.args.self.now.files.items = omega (arith, c.len-place.ensures) in at) c.add.ensures.rows
