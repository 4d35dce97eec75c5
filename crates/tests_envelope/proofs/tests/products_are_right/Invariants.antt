use Rattle.tests_envelope.proofs.tests.products_are_right.Given as goal

abbrev pub ghosts-fault_of : goal.ghosts-fault_of
ghosts-fault_of g a = record { name = a.blank.name; parts = a.blank.parts }
