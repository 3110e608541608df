use Rattle.mp4_clip.proofs.part.piece_rows.Given as goal

abbrev pub ghosts-rows_in : goal.ghosts-rows_in
ghosts-rows_in g a = record { name = a.blank.name; parts = a.blank.parts }
