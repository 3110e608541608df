use Rattle.vod_plan.proofs.plan.Plan.step.Given as goal

abbrev pub ghosts-stepped : goal.ghosts-stepped
ghosts-stepped a = record { name = a.blank.name; parts = a.blank.parts }
