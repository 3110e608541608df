use Rattle.flat_samples.proofs.samples.written_out.Given as goal

abbrev pub ghosts-counted_out : goal.ghosts-counted_out
ghosts-counted_out a = record { name = a.blank.name; parts = a.blank.parts }
