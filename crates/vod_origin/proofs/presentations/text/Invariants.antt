use Rattle.vod_origin.proofs.presentations.text.Given as goal

abbrev pub ghosts-text_over : goal.ghosts-text_over
ghosts-text_over g a = record { name = a.blank.name; parts = a.blank.parts }
