use Rattle.tests_completion.proofs.tests.raise_from.Given as goal

abbrev pub ghosts-raise_over : goal.ghosts-raise_over
ghosts-raise_over a = record { name = a.blank.name; parts = a.blank.parts }

abbrev pub ghosts-raise_over-2 : goal.ghosts-raise_over-2
ghosts-raise_over-2 a = record { name = a.blank.name; parts = a.blank.parts }
