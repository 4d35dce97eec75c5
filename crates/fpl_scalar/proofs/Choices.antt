-- A value that is there exactly where a test holds, and a number of 128 bits read back from its bits.
use Rattle.std.specs.Prelude.{ℕ, ◌≡◌, ◌≤◌, ℤ, unsigned_abs, Bool, true, false, ◌&&◌, nat_le, Option, Some, None, IfSome, if◌then◌else◌, FitsSigned}
use Rattle.std.specs.Int.{w128}
use Rattle.std.proofs.Common.{to_z, of_z}
use Rattle.std.proofs.lemmas.Int.{to_z-of_z, ints}
use mathlib.Core.Path.{refl, ap}
use native.Mathlib.Omega.{arith}
use Rattle.fpl_numbers.specs.Numbers.{most_number}

abbrev held : {T : Type 0} → T → Option T → T
held d (Some x) = x
held d None = d

pub chosen : {T : Type 0} (t : Bool) (v x : T) → Some x ≡ (if t then Some v else None) → (t ≡ true) × (x ≡ v)
chosen true v x e = (refl, ap (held x) e)
chosen false v x e = absurd (let k : ⊥ = cc in k)

pub unchosen : {T : Type 0} (t : Bool) (v : T) → None ≡ (if t then Some v else None) → t ≡ false
unchosen true v e = absurd (let k : ⊥ = cc in k)
unchosen false v e = refl

pub choose : {T : Type 0} (t : Bool) (v x : T) → t ≡ true → x ≡ v → Some x ≡ (if t then Some v else None)
choose true v x h e = ap Some e
choose false v x h e = absurd (let k : ⊥ = cc in k)

pub choose_none : {T : Type 0} (t : Bool) (v : T) → t ≡ false → None ≡ (if t then Some v else None)
choose_none true v h = absurd (let k : ⊥ = cc in k)
choose_none false v h = refl

pub some_if : {T : Type 0} (r v : Option T) → r ≡ v → IfSome r (λ c. Some c ≡ v)
some_if (Some x) v e = e
some_if None v e = tt

pub false_left : (a b : Bool) → a ≡ false → (a && b) ≡ false
false_left a b e = ap (λ w. w && b) e

pub false_right : (a b : Bool) → b ≡ false → (a && b) ≡ false
false_right true b e = e
false_right false b e = refl

pub true_both : (a b : Bool) → a ≡ true → b ≡ true → (a && b) ≡ true
true_both true b h e = e
true_both false b h e = h

pub within_is : (n : ℕ) → nat_le n most_number ≡ true → n ≤ most_number
within_is n h = grind arith

-- a number within the bound
fits : (z : ℤ) → unsigned_abs z ≤ most_number → FitsSigned w128 z
fits z h = omega (arith, ints)

pub back : (z : ℤ) → unsigned_abs z ≤ most_number → to_z w128 (of_z w128 z) ≡ z
back z h = to_z-of_z w128 z (fits z h)
