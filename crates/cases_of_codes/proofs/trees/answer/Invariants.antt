use Rattle.cases_of_codes.proofs.trees.answer.Given as goal

abbrev pub ghosts-flat : goal.ghosts-flat
ghosts-flat a = record { name = a.blank.name; parts = a.blank.parts }

abbrev pub ghosts-flat-2 : goal.ghosts-flat-2
ghosts-flat-2 a = record { name = a.blank.name; parts = a.blank.parts }

abbrev pub ghosts-deep : goal.ghosts-deep
ghosts-deep a = record { name = a.blank.name; parts = a.blank.parts }

abbrev pub ghosts-deep-2 : goal.ghosts-deep-2
ghosts-deep-2 a = record { name = a.blank.name; parts = a.blank.parts }
