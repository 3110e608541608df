use Rattle.time_runs.proofs.tests.seeks_in_many_runs.Given as goal

abbrev pub ghosts-seek : goal.ghosts-seek
ghosts-seek g a = record { name = a.blank.name; parts = a.blank.parts }
