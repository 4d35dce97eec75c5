-- The sides of axioms.
--
--   HasParityIn p e s   e has parity s
--   swap_number q s t   -(-1)^(st), modulo q
--   sign_number q s t   (-1)^(st), modulo q
--   jacobi_sum n a b c  [[a,b],c] + n*[b,[a,c]]
--   relation_at p r     relation r, which counts from 1
use Rattle.std.specs.Prelude.{ℕ, ◌-◌, [], ◌∷◌, get_or}
use Rattle.fpl_numbers.specs.Numbers.{residue}
use Rattle.math_algebra.specs.Degrees.{HasParity}
use Rattle.fpl_model.specs.declared.expr.Expr.{Expr}
use Rattle.fpl_model.specs.declared.expr.Expr.TheVariants.{Zero, Sum, Times, Br}
use Rattle.fpl_model.specs.declared.presentation.Parity.{Parity}
use Rattle.fpl_model.specs.declared.presentation.Parity.TheVariants.{Even, Odd}
use Rattle.fpl_model.specs.declared.presentation.Equation.{Equation}
use Rattle.fpl_model.specs.declared.presentation.Presentation.{Presentation}
use Rattle.fpl_model.specs.Meaning.{tree_in, presentation_in, parity_in}

abbrev pub HasParityIn : Presentation → Expr → Parity → Type 0
HasParityIn p e s = HasParity (presentation_in p) (tree_in p.field e) (parity_in s)

abbrev pub swap_number : ℕ → Parity → Parity → ℕ
swap_number q Even t = q - 1
swap_number q Odd Even = q - 1
swap_number q Odd Odd = 1

abbrev pub sign_number : ℕ → Parity → Parity → ℕ
sign_number q Even t = 1
sign_number q Odd Even = 1
sign_number q Odd Odd = q - 1

abbrev pub jacobi_sum : ℕ → Expr → Expr → Expr → Expr
jacobi_sum n a b c = Sum (Br (Br a b) c ∷ Times (residue n) (Br b (Br a c)) ∷ [])

abbrev pub no_equation : Equation
no_equation = record { left = Zero; right = Zero }

abbrev pub relation_at : Presentation → ℕ → Equation
relation_at p r = get_or p.relations (r - 1) no_equation
