-- Sums over the terms of a form are sums over the atoms.
use Rattle.std.proofs.Common.{◌≡◌, ◌<◌, ℕ, suc, List, [], ◌∷◌, Bool, true, false, nat_eq, cond, if◌then◌else◌, length, map, drop, get_or, refl, ap, ap₂, sym, ◌∙◌, arith, All}
use Rattle.math_fields.specs.Field.{Field}
use Rattle.math_linear.specs.Vector.{Vector, vzero, vplus, scale, place, total, bilinear}
use Rattle.math_linear.proofs.Numbers.{times-nought}
use Rattle.math_linear.proofs.Vectors.{plus-scale, scale_scale, scale-nought, total_same, total_vplus, total_scale, total_vzero, total_place}
use Rattle.fpl_numbers.specs.declared.number.Kind.{Kind}
use Rattle.fpl_numbers.specs.Numbers.{residue}
use Rattle.fpl_numbers.specs.Kinds.{Number, field_of, number_of}
use Rattle.fpl_forms.specs.declared.term.Term.{Term}
use Rattle.fpl_forms.specs.declared.term.Fact.{Fact}
use Rattle.fpl_forms.specs.Combining.{terms_of}
use Rattle.fpl_forms.specs.Laws.{number_at, number_in, weighted, weighted_rows}
use Rattle.fpl_forms.proofs.Gathering.{first_of, others_of}

module _ (k : Kind) where
  abbrev pub K : Field
  K = field_of k

  abbrev pub number : Term → Number k
  number t = number_of k (residue t.number)

  -- the sum of the values of a function at the atoms, each times the number of its term
  unfoldable pub terms_sum : List Term → (ℕ → Vector K) → Vector K
  terms_sum [] g = vzero K
  terms_sum (t ∷ ts) g = vplus K (scale K (number t) (g t.atom)) (terms_sum ts g)

  by_test : (c : Number k) (b : Bool) → (if b then c else K.nought) ≡ K.times c (cond b K.unit K.nought)
  by_test c true = sym (K.times-unit c)
  by_test c false = sym (times-nought K c)

  pub number_is : (t : Term) (a : ℕ) → number_at k a t ≡ K.times (number t) (place K t.atom a)
  unfolding place
  number_is t a = by_test (number t) (nat_eq t.atom a)

  once : (n : ℕ) (t : Term) (g : ℕ → Vector K) → t.atom < n → total K n (λ a. scale K (number_at k a t) (g a)) ≡ scale K (number t) (g t.atom)
  once n t g lt =
      total_same K n _ _ (λ a. ap (λ c. scale K c (g a)) (number_is t a) ∙ sym (scale_scale K (number t) (place K t.atom a) (g a)))
      ∙ total_scale K n (number t) _ ∙ ap (scale K (number t)) (total_place K n t.atom g lt)

  pub terms_total : (n : ℕ) (ts : List Term) (g : ℕ → Vector K) → All (λ t. t.atom < n) ts →
      terms_sum ts g ≡ total K n (λ a. scale K (number_in k ts a) (g a))
  unfolding terms_sum
  terms_total n [] g h = sym (total_same K n _ _ (λ a. scale-nought K (g a)) ∙ total_vzero K n)
  terms_total n (t ∷ ts) g h =
      ap₂ (vplus K) (sym (once n t g (first_of (λ t. t.atom < n) t ts h))) (terms_total n ts g (others_of (λ t. t.atom < n) t ts h))
      ∙ sym (total_same K n _ _ (λ a. plus-scale K (number_at k a t) (number_in k ts a) (g a)) ∙ total_vplus K n _ _)

  -- for two lists of terms, and a value for each two atoms
  pub both_totals : (n : ℕ) (form : ℕ → ℕ → Vector K) (ss ts : List Term) → All (λ t. t.atom < n) ss → All (λ t. t.atom < n) ts →
      terms_sum ss (λ a. terms_sum ts (form a)) ≡ bilinear K n form (number_in k ss) (number_in k ts)
  unfolding bilinear
  both_totals n form ss ts h l =
      terms_total n ss (λ a. terms_sum ts (form a)) h
      ∙ total_same K n _ _ (λ a. ap (scale K (number_in k ss a)) (terms_total n ts (form a) l)
      ∙ sym (total_scale K n (number_in k ss a) (λ b. scale K (number_in k ts b) (form a b)))
      ∙ total_same K n _ _ (λ b. scale_scale K (number_in k ss a) (number_in k ts b) (form a b)))

  -- the numbers of facts at i
  abbrev pub numbers_at : List Fact → ℕ → List (Number k)
  numbers_at fs i = map (λ f. number_in k (terms_of f) i) fs

  pub head_same : {A : Type 0} (x y : A) (xs ys : List A) → x ∷ xs ≡ y ∷ ys → x ≡ y
  head_same x y xs ys e = ap (λ l. get_or l 0 x) e

  pub tail_same : {A : Type 0} (x y : A) (xs ys : List A) → x ∷ xs ≡ y ∷ ys → xs ≡ ys
  tail_same x y xs ys e = ap (drop 1) e

  pub weighted_sum : (ts : List Term) (fs : List Fact) (g : ℕ → Vector K) (i : ℕ) → numbers_at fs i ≡ map (λ t. g t.atom i) ts →
      weighted k ts fs i ≡ terms_sum ts g i
  unfolding terms_sum vplus scale vzero
  weighted_sum [] fs g i e = refl
  weighted_sum (t ∷ ts) [] g i e = absurd (let n : 0 ≡ suc (length (map (λ t. g t.atom i) ts)) = ap length e in omega (arith, n))
  weighted_sum (t ∷ ts) (f ∷ fs) g i e =
      ap₂ (λ x y. K.plus (K.times (number t) x) y) (head_same _ _ _ _ e) (weighted_sum ts fs g i (tail_same _ _ _ _ e))

  pub rows_sum : (ss ts : List Term) (rows : List (List Fact)) (form : ℕ → ℕ → Vector K) (i : ℕ) →
      map (λ fs. numbers_at fs i) rows ≡ map (λ s. map (λ t. form s.atom t.atom i) ts) ss →
      weighted_rows k ss ts rows i ≡ terms_sum ss (λ a. terms_sum ts (form a)) i
  unfolding terms_sum vplus scale vzero
  rows_sum [] ts rows form i e = refl
  rows_sum (s ∷ ss) ts [] form i e =
      absurd (let n : 0 ≡ suc (length (map (λ s. map (λ t. form s.atom t.atom i) ts) ss)) = ap length e in omega (arith, n))
  rows_sum (s ∷ ss) ts (r ∷ rows) form i e =
      ap₂ (λ x y. K.plus (K.times (number s) x) y) (weighted_sum ts r (form s.atom) i (head_same _ _ _ _ e))
      (rows_sum ss ts rows form i (tail_same _ _ _ _ e))
