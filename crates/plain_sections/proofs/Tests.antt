-- Tests of numbers that pass.
use Rattle.std.specs.Prelude.{◌≡◌, ℕ, ◌≤◌, true, nat_eq, nat_le}
use native.Mathlib.Omega.{arith}
use Rattle.std.proofs.lemmas.Bool.Decides.{nat_tests}

pub most_true : (a b : ℕ) → a ≤ b → nat_le a b ≡ true
most_true a b l = grind (arith, nat_tests)

pub same_true : (a b : ℕ) → a ≡ b → nat_eq a b ≡ true
same_true a b e = grind (arith, nat_tests)
