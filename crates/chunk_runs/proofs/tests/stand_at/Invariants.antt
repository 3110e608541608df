use Rattle.chunk_runs.proofs.tests.stand_at.Given as goal

abbrev pub ghosts-are_at : goal.ghosts-are_at
ghosts-are_at g a = record { name = a.blank.name; parts = a.blank.parts }
