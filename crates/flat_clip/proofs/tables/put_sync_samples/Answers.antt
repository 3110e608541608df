use Rattle.std.proofs.Common.{append-nil, sym}
use Rattle.media_model.specs.Clip.{sync_samples}
use Rattle.flat_clip.proofs.tables.put_sync_samples.Goals as goal

pub returns-in-Audio : goal.returns-in-Audio
unfolding sync_samples
returns-in-Audio c = rw (c.in-Audio.is) (sym (append-nil _))
