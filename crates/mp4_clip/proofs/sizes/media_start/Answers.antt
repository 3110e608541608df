-- The first row stands behind both tracks.
use Rattle.mp4_clip.proofs.StartLemmas.{start-is}
use Rattle.mp4_clip.proofs.sizes.media_start.Goals as goal

pub returns-clause-start : goal.returns-clause-start
returns-clause-start g c = start-is c.args.rows.now c.given_size-video.result c.given_size-audio.result c.given_size-video.ensures.size c.given_size-audio.ensures.size
