use Rattle.gm_plan.proofs.space.ranges_of.Given as goal

abbrev pub ghosts-ranges_in_bins : goal.ghosts-ranges_in_bins
ghosts-ranges_in_bins g a = record { name = a.blank.name; parts = a.blank.parts }
