use Rattle.vod_origin.proofs.plans.plan.Given as goal

abbrev pub ghosts-plan_over : goal.ghosts-plan_over
ghosts-plan_over g a = record { name = a.blank.name; parts = a.blank.parts }
