use Rattle.cases_of_codes.proofs.enumerations.space.Given as goal

abbrev pub ghosts-split_in_space : goal.ghosts-split_in_space
ghosts-split_in_space g a = record { name = a.blank.name; parts = a.blank.parts }
