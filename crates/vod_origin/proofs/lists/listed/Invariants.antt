use Rattle.vod_origin.proofs.lists.listed.Given as goal

abbrev pub ghosts-listed_over : goal.ghosts-listed_over
ghosts-listed_over g a = record { name = a.blank.name; parts = a.blank.parts }
