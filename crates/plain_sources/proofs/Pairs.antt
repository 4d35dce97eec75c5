-- The sign and the order of a pair: what the plain run tests, and what the table's product has.
use Rattle.std.specs.Prelude.{◌≡◌, ℕ, ◌+◌, ◌<◌, ◌⊎◌, length}
use mathlib.Core.Path.{sym, refl, ap, ◌∙◌, subst}
use mathlib.Core.Logic.{inl, inr}
use native.Mathlib.Omega.{arith}
use native.Mathlib.Decide.{dec_lt}
use Rattle.math_fields.specs.Field.{Field}
use Rattle.math_linear.specs.Vector.{Vector, vzero, scale}
use Rattle.math_linear.proofs.Numbers.{minus_minus}
use Rattle.math_linear.proofs.Vectors.{scale-unit}
use Rattle.math_algebra.specs.Tree.{Parity, even, odd}
use Rattle.math_algebra.specs.Derives.{sign}
use Rattle.math_algebra.specs.Table.{signed, with_itself}
use Rattle.math_values.proofs.Steps.{signed_below, signed_above, signed_itself}
use Rattle.fpl_table.specs.Plain.{PlainTable, plain_basis, Pairing, nothing, plus, minus, exchanged, itself, pairing}

-- what a pairing says, from the entries
abbrev pub paired : (K : Field) → (ℕ → ℕ → Vector K) → Pairing → Vector K
paired K entry nothing = vzero K
paired K entry (plus i j) = entry i j
paired K entry (minus i j) = scale K (K.minus K.unit) (entry i j)

module _ (T : PlainTable) where
  abbrev pub parity : ℕ → Parity
  parity i = (plain_basis T i).parity

  abbrev pub weight : ℕ → ℕ
  weight i = (plain_basis T i).weight

  pub pairing_below : (i j : ℕ) → i < j → pairing T i j ≡ plus i j
  pairing_below i j l = grind arith

  pairing_above : (i j : ℕ) → j < i → pairing T i j ≡ exchanged (parity i) (parity j) j i
  pairing_above i j l = grind arith

  pub pairing_itself : (i : ℕ) → pairing T i i ≡ itself (parity i) i
  pairing_itself i = grind arith

  exchanged_is : (K : Field) (entry : ℕ → ℕ → Vector K) (s t : Parity) (i j : ℕ) → scale K (K.minus (sign K s t)) (entry i j) ≡
      paired K entry (exchanged s t i j)
  exchanged_is K entry odd odd i j = ap (λ c. scale K c (entry i j)) (minus_minus K K.unit) ∙ scale-unit K (entry i j)
  exchanged_is K entry odd even i j = refl
  exchanged_is K entry even t i j = refl

  itself_is : (K : Field) (entry : ℕ → ℕ → Vector K) (s : Parity) (i : ℕ) → with_itself K s (entry i i) ≡ paired K entry (itself s i)
  itself_is K entry even i = refl
  itself_is K entry odd i = refl

  pub paired_is : (K : Field) (entry : ℕ → ℕ → Vector K) (i j : ℕ) → signed K parity entry i j ≡ paired K entry (pairing T i j)
  paired_is K entry i j = go (dec_lt i j) (dec_lt j i)
    where
      go : Dec (i < j) → Dec (j < i) → signed K parity entry i j ≡ paired K entry (pairing T i j)
      go (yes l) d = signed_below K parity entry i j l ∙ ap (paired K entry) (sym (pairing_below i j l))
      go (no l) (yes d) = signed_above K parity entry i j d ∙ exchanged_is K entry (parity i) (parity j) j i ∙ ap (paired K entry) (sym (pairing_above i j d))
      go (no l) (no d) =
          let e : i ≡ j = omega arith in
          subst (λ j. signed K parity entry i j ≡ paired K entry (pairing T i j)) e
          (signed_itself K parity entry i ∙ itself_is K entry (parity i) i ∙ ap (paired K entry) (sym (pairing_itself i)))

  -- the pair (a, b) that stands for (i, j): itself or exchanged, and regular
  pub record IsPairOf (i j a b : ℕ) : Type 0 where
    pub weights : weight a + weight b ≡ weight i + weight j
    pub regular : (a < b) ⊎ ((a ≡ b) × (parity a ≡ odd))
    pub first : a < length T.basis
    pub second : b < length T.basis

  abbrev pub IsPaired : ℕ → ℕ → Pairing → Type 0
  IsPaired i j nothing = Unit {0}
  IsPaired i j (plus a b) = IsPairOf i j a b
  IsPaired i j (minus a b) = IsPairOf i j a b

  exchanged_pair : (s t : Parity) (i j : ℕ) → i < length T.basis → j < length T.basis → j < i → IsPaired i j (exchanged s t j i)
  exchanged_pair odd odd i j l k m = record { weights = omega arith; regular = inl m; first = k; second = l }
  exchanged_pair odd even i j l k m = record { weights = omega arith; regular = inl m; first = k; second = l }
  exchanged_pair even t i j l k m = record { weights = omega arith; regular = inl m; first = k; second = l }

  itself_pair : (s : Parity) (i : ℕ) → i < length T.basis → parity i ≡ s → IsPaired i i (itself s i)
  itself_pair even i l e = tt
  itself_pair odd i l e = record { weights = refl; regular = inr (refl, e); first = l; second = l }

  pub pairing_is : (i j : ℕ) → i < length T.basis → j < length T.basis → IsPaired i j (pairing T i j)
  pairing_is i j l k = go (dec_lt i j) (dec_lt j i)
    where
      go : Dec (i < j) → Dec (j < i) → IsPaired i j (pairing T i j)
      go (yes m) d = subst (IsPaired i j) (sym (pairing_below i j m)) (record { weights = refl; regular = inl m; first = l; second = k })
      go (no m) (yes d) = subst (IsPaired i j) (sym (pairing_above i j d)) (exchanged_pair (parity i) (parity j) i j l k d)
      go (no m) (no d) =
          let e : i ≡ j = omega arith in
          subst (λ j. IsPaired i j (pairing T i j)) e (subst (IsPaired i i) (sym (pairing_itself i)) (itself_pair (parity i) i l refl))
