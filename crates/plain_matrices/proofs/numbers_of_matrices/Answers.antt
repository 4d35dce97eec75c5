use Rattle.plain_matrices.proofs.Respect.{brackets_mean, numbers_mean, matrices_are_one}
use Rattle.plain_matrices.proofs.numbers_of_matrices.Goals as goal

pub returns-clause-bracket : goal.returns-clause-bracket
returns-clause-bracket c = brackets_mean

pub returns-clause-expression : goal.returns-clause-expression
returns-clause-expression c = numbers_mean

pub returns-clause-one : goal.returns-clause-one
returns-clause-one c = matrices_are_one
