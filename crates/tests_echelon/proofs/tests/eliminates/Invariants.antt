use Rattle.tests_echelon.proofs.tests.eliminates.Given as goal

abbrev pub ghosts-is_right : goal.ghosts-is_right
ghosts-is_right g a = record { name = a.blank.name; parts = a.blank.parts }

abbrev pub ghosts-is_right-2 : goal.ghosts-is_right-2
ghosts-is_right-2 g a = record { name = a.blank.name; parts = a.blank.parts }
