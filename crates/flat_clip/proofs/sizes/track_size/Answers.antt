use Rattle.std.proofs.Common.{◌≡◌, arith}
use Rattle.media_model.specs.Clip.{begins_after, edits_size, track_rest_size, track_size}
use Rattle.flat_clip.proofs.sizes.track_size.Goals as goal

pub returns-clause-size : goal.returns-clause-size
unfolding track_size
returns-clause-size c =
    let rows = c.args.track.now.rows.items in
    let rest : c.track_rest_size-rest.result ≡ track_rest_size c.args.kind rows = cc in
    let edits : c.edits_size-edits.result ≡ edits_size (begins_after c.args.lead.now rows) = cc in
    omega (arith, rest, edits, c.args.track.now.entry.ok.0, c.args.track.now.rows.ok.0, c.len.ensures, c.len-2.ensures)
