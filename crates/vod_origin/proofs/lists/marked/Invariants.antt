use Rattle.vod_origin.proofs.lists.marked.Given as goal

abbrev pub ghosts-marked_over : goal.ghosts-marked_over
ghosts-marked_over g a = record { name = a.blank.name; parts = a.blank.parts }
