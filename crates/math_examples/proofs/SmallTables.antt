-- What the tables of the examples share: the empty table, and tables of weight 2 with three basis elements, whose brackets all stand at the last one.
use Rattle.std.specs.Prelude.{ℕ, zero, suc, [], ◌≡◌, ◌<◌, ◌≤◌, ◌+◌, length}
use mathlib.Core.Path.{sym, refl, ap, ap₂, ◌∙◌, subst}
use native.Mathlib.Omega.{arith}
use native.Mathlib.Decide.{dec_le}
use Rattle.math_fields.specs.Field.{Field}
use Rattle.math_linear.specs.Vector.{vzero, place}
use Rattle.math_linear.proofs.Vectors.{place_same}
use Rattle.math_linear.proofs.Places.{only_vzero, zero_at}
use Rattle.math_algebra.specs.Tree.{Parity, even, odd, parity_sum, Presentation, generator}
use Rattle.math_algebra.specs.Table.{Table, weight_at, parity_at, product, IsIn, IsOf, ObeysLaw}
use Rattle.math_algebra.specs.Extending.{IsEmpty}
use Rattle.math_values.proofs.Parts.{product_past}
use Rattle.math_theorems.proofs.ExampleLaws.{obeys_two, product_only}

abbrev IfEven : Parity → Type 0
IfEven even = Unit {0}
IfEven odd = ⊥

pub even_not_odd : {s : Parity} → s ≡ even → s ≡ odd → ⊥
even_not_odd e f = subst IfEven (sym e ∙ f) tt

pub not_zero : (K : Field) (i : ℕ) → place K i ≡ vzero K → ⊥
not_zero K i e = K.unit≢nought (sym (place_same K i) ∙ ap (λ w. w i) e ∙ zero_at K i)

abbrev pub empty_table : (K : Field) → Table K
empty_table K = record { weight = 0; basis = []; image = λ g. vzero K; entry = λ i j. vzero K }

pub empty_is : (K : Field) (P : Presentation K.Carrier) → IsEmpty K P (empty_table K)
empty_is K P = record { weight = refl; basis = refl; images = λ g l. refl }

pub one_case : (Q : ℕ → Type 0) → Q 0 → (i : ℕ) → i < 1 → Q i
one_case Q a zero l = a
one_case Q a (suc i) l = absurd (omega arith)

pub two_cases : (Q : ℕ → Type 0) → Q 0 → Q 1 → (i : ℕ) → i < 2 → Q i
two_cases Q a b zero l = a
two_cases Q a b (suc zero) l = b
two_cases Q a b (suc (suc i)) l = absurd (omega arith)

pub three_cases : (Q : ℕ → Type 0) → Q 0 → Q 1 → Q 2 → (i : ℕ) → i < 3 → Q i
three_cases Q a b c zero l = a
three_cases Q a b c (suc zero) l = b
three_cases Q a b c (suc (suc zero)) l = c
three_cases Q a b c (suc (suc (suc i))) l = absurd (omega arith)

module _ (K : Field) (P : Presentation K.Carrier) (free : length P.relations ≡ 0) (T : Table K) (weighs : T.weight ≡ 2) (three : length T.basis ≡ 3)
    (entries : (i j : ℕ) → T.entry i j ≡ place K 2) (last_weight : weight_at T 2 ≡ 2) (last_parity : parity_at T 2 ≡ even)
    (positive : (i : ℕ) → i < length T.basis → 0 < weight_at T i) (light : (i : ℕ) → i < length T.basis → weight_at T i ≤ 1 → parity_at T i ≡ odd)
    (image_of : (g : ℕ) → g < length P.generators → IsOf K T (generator P g).weight (T.image g))
    (image_in : (g : ℕ) → g < length P.generators → IsIn K T (generator P g).parity (T.image g)) where
  of_pairs : (i j : ℕ) → i < length T.basis → j < length T.basis → Dec (weight_at T i + weight_at T j ≤ 2) →
      IsOf K T (weight_at T i + weight_at T j) (product K T i j)
  of_pairs i j l m (yes h) =
      product_only K T 2 entries (λ k. (k < length T.basis) × (weight_at T k ≡ weight_at T i + weight_at T j))
      (omega (arith, three), omega (arith, h, last_weight, positive i l, positive j m)) i j
  of_pairs i j l m (no h) = subst (IsOf K T _) (sym (product_past K T i j (omega (arith, h, weighs)))) (only_vzero K _)

  in_pairs : (i j : ℕ) → i < length T.basis → j < length T.basis → Dec (weight_at T i + weight_at T j ≤ 2) →
      IsIn K T (parity_sum (parity_at T i) (parity_at T j)) (product K T i j)
  in_pairs i j l m (yes h) =
      let a = light i l (omega (arith, h, positive i l, positive j m)) in
      let b = light j m (omega (arith, h, positive i l, positive j m)) in
      product_only K T 2 entries (λ k. (k < length T.basis) × (parity_at T k ≡ parity_sum (parity_at T i) (parity_at T j)))
      (omega (arith, three), last_parity ∙ sym (ap₂ parity_sum a b)) i j
  in_pairs i j l m (no h) = subst (IsIn K T _) (sym (product_past K T i j (omega (arith, h, weighs)))) (only_vzero K _)

  pub odd_obeys : ObeysLaw K P T
  odd_obeys =
      obeys_two K P free T weighs positive image_of image_in (λ i j l m. of_pairs i j l m (dec_le (weight_at T i + weight_at T j) 2))
      (λ i j l m. in_pairs i j l m (dec_le (weight_at T i + weight_at T j) 2))
