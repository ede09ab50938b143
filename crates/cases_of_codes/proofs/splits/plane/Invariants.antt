use Rattle.cases_of_codes.proofs.splits.plane.Given as goal

abbrev pub ghosts-split_in_plane : goal.ghosts-split_in_plane
ghosts-split_in_plane g a = record { name = a.blank.name; parts = a.blank.parts }
