use Rattle.fault_tests.proofs.long_films.check.Given as goal

abbrev pub ghosts-seek : goal.ghosts-seek
ghosts-seek g a = record { name = a.blank.name; parts = a.blank.parts }
