use Rattle.mp4_source.proofs.PlaceLemmas.{place_in_file}
use Rattle.mp4_source.proofs.movie.read.Goals as goal

pub read_range-requires-clause-within : goal.read_range-requires-clause-within
read_range-requires-clause-within g c = place_in_file c.args.name.now _ c.args.place c.requires.readable c.requires.told
