use mathlib.Core.Path.{sym, subst}
use Rattle.fpl_numbers.specs.declared.number.Kind.TheVariants.{Prime}
use Rattle.plain_sources.proofs.Fitting.{Always, prime_always, add_at_fits, add_row_fits, axpy_fits, scale_fits, bracket_fits, value_fits, origin_fits}
use Rattle.plain_sources.proofs.prime_fields.Goals as goal

pub returns-clause-at : goal.returns-clause-at
returns-clause-at c = λ p. add_at_fits (Prime p) (prime_always p)

pub returns-clause-sum : goal.returns-clause-sum
returns-clause-sum c = λ p. add_row_fits (Prime p) (prime_always p)

pub returns-clause-axpy : goal.returns-clause-axpy
returns-clause-axpy c = λ p. axpy_fits (Prime p) (prime_always p)

pub returns-clause-multiple : goal.returns-clause-multiple
returns-clause-multiple c = λ p. scale_fits (Prime p) (prime_always p)

pub returns-clause-bracket : goal.returns-clause-bracket
returns-clause-bracket c = λ p T e. bracket_fits T (subst Always (sym e) (prime_always p))

pub returns-clause-value : goal.returns-clause-value
returns-clause-value c = λ p T e. value_fits T (subst Always (sym e) (prime_always p))

pub returns-clause-origin : goal.returns-clause-origin
returns-clause-origin c = λ p T e. origin_fits T (subst Always (sym e) (prime_always p))
