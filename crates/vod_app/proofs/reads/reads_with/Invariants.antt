use Rattle.vod_app.proofs.reads.reads_with.Given as goal

abbrev pub ghosts-answer_logged : goal.ghosts-answer_logged
ghosts-answer_logged g a = record { faults = g.S.Store.faults a.store }
