-- What the answers on weights and parities stand for.
--
--   weight_degree d   the weight, or none, or two that differ
--   parity_degree d   the parity, or none, or two that differ
--   IsUpTo n d        where d is one weight, it is at most n
--   is_exactly w d    whether d is the one weight w
use Rattle.std.specs.Prelude.{ℕ, ◌≤◌, nat_eq, Bool, false}
use Rattle.math_algebra.specs.Tree as algebra
use Rattle.math_algebra.specs.Degrees as algebra_degrees
use Rattle.fpl_model.specs.declared.degree.Degree as weight
use Rattle.fpl_model.specs.declared.degree.ParityOf as parity
use Rattle.fpl_model.specs.Meaning.{parity_in}

abbrev pub weight_degree : weight.Degree → algebra_degrees.Degree ℕ
weight_degree weight.TheVariants.Any = algebra_degrees.any
weight_degree (weight.TheVariants.Exact w) = algebra_degrees.exact w
weight_degree weight.TheVariants.Mixed = algebra_degrees.mixed

abbrev pub parity_degree : parity.ParityOf → algebra_degrees.Degree algebra.Parity
parity_degree parity.TheVariants.Any = algebra_degrees.any
parity_degree (parity.TheVariants.Exact s) = algebra_degrees.exact (parity_in s)
parity_degree parity.TheVariants.Mixed = algebra_degrees.mixed

abbrev pub IsUpTo : ℕ → weight.Degree → Type 0
IsUpTo n weight.TheVariants.Any = Unit {0}
IsUpTo n (weight.TheVariants.Exact w) = w ≤ n
IsUpTo n weight.TheVariants.Mixed = Unit {0}

abbrev pub is_exactly : ℕ → algebra_degrees.Degree ℕ → Bool
is_exactly w algebra_degrees.any = false
is_exactly w (algebra_degrees.exact v) = nat_eq v w
is_exactly w algebra_degrees.mixed = false
