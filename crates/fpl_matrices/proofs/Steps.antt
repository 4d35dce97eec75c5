-- Results in turn.
use Rattle.std.proofs.Common.{◌≡◌, refl}
use Rattle.std.specs.Prelude.{Result, Ok, Err, Bool, true, false, if◌then◌else◌}
use Rattle.fpl_numbers.specs.Results.{and_then, map_ok}

pub ok_value : {A E : Type 0} {x y : A} → ◌≡◌ {A = Result A E} (Ok x) (Ok y) → x ≡ y
ok_value e = cc

pub no_err : {A E : Type 0} {x : A} {u : E} → ◌≡◌ {A = Result A E} (Err u) (Ok x) → ⊥
no_err e = cc

pub record Passed {A B E : Type 0} (f : A → Result B E) (r : Result A E) (z : B) : Type 0 where
  pub value : A
  pub was : r ≡ Ok value
  pub gives : f value ≡ Ok z

pub passed : {A B E : Type 0} (f : A → Result B E) (r : Result A E) (z : B) → and_then f r ≡ Ok z → Passed f r z
passed f (Ok x) z e = record { value = x; was = refl; gives = e }
passed f (Err u) z e = absurd (no_err e)

pub record Mapped {A B E : Type 0} (f : A → B) (r : Result A E) (z : B) : Type 0 where
  pub value : A
  pub was : r ≡ Ok value
  pub gives : f value ≡ z

pub mapped : {A B E : Type 0} (f : A → B) (r : Result A E) (z : B) → map_ok f r ≡ Ok z → Mapped f r z
mapped f (Ok x) z e = record { value = x; was = refl; gives = ok_value e }
mapped f (Err u) z e = absurd (no_err e)

pub test_passed : {A E : Type 0} (b : Bool) (x : A) (u : E) (z : A) → (if b then Ok x else Err u) ≡ Ok z → (b ≡ true) × (x ≡ z)
test_passed true x u z e = (refl, ok_value e)
test_passed false x u z e = absurd (no_err e)
