use Rattle.flat_lists.proofs.bandwidths.bandwidth.Given as goal

abbrev pub ghosts-counted_average : goal.ghosts-counted_average
ghosts-counted_average a = record { name = a.blank.name; parts = a.blank.parts }
