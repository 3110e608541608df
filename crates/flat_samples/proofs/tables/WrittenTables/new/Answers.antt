use Rattle.mp4_tracks.specs.Views.{good_of}
use Rattle.flat_samples.proofs.SoundLemmas.{sound_chunks, sound_syncs}
use Rattle.flat_samples.proofs.tables.WrittenTables.new.Goals as goal

pub offsets-requires-clause-chunks : goal.offsets-requires-clause-chunks
offsets-requires-clause-chunks g c = sound_chunks (good_of c.args.track.now) c.requires.sound

pub syncs-requires : goal.syncs-requires
syncs-requires g c = sound_syncs (good_of c.args.track.now) c.args.track.now.samples c.requires.samples c.requires.sound
