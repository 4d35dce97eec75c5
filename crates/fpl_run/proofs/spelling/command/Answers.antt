use Rattle.std.proofs.Common.{rules, arith}
use Rattle.std.proofs.lemmas.Grind.{common_steps}
use Rattle.fpl_run.proofs.Names.{names, one_command}
use Rattle.fpl_run.proofs.spelling.command.Goals as goal

pub returns-in_ok-limit-in-len2-clause-some : goal.returns-in_ok-limit-in-len2-clause-some
returns-in_ok-limit-in-len2-clause-some c = first_of (search rules, grind (arith, common_steps), grind (arith, names))

pub returns-in_ok-limit-in-len2-clause-one : goal.returns-in_ok-limit-in-len2-clause-one
returns-in_ok-limit-in-len2-clause-one c = λ d is. one_command _ _ _ is (returns-in_ok-limit-in-len2-clause-some c)

pub returns-in_ok-entries-in-len3-clause-some : goal.returns-in_ok-entries-in-len3-clause-some
returns-in_ok-entries-in-len3-clause-some c = first_of (search rules, grind (arith, common_steps), grind (arith, names))

pub returns-in_ok-entries-in-len3-clause-one : goal.returns-in_ok-entries-in-len3-clause-one
returns-in_ok-entries-in-len3-clause-one c = λ d is. one_command _ _ _ is (returns-in_ok-entries-in-len3-clause-some c)
