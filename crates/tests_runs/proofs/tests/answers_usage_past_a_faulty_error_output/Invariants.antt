use Rattle.tests_runs.proofs.tests.answers_usage_past_a_faulty_error_output.Given as goal

abbrev pub ghosts-run_counted : goal.ghosts-run_counted
ghosts-run_counted g a = record { name = a.blank.name; parts = a.blank.parts }
