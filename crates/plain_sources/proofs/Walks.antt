-- Walks over the places of a row, ascending, that skip those that are 0: what is added on the way is a sum over the places.
use Rattle.std.specs.Prelude.{◌≡◌, ℕ, zero, suc, ◌+◌, ◌<◌, ◌≤◌, List, [], ◌∷◌, length, get_or, Result, Ok, true, false, Bool, if◌then◌else◌}
use mathlib.Core.Path.{sym, refl, ap, ap₂, ◌∙◌, subst}
use native.Mathlib.Omega.{arith}
use Rattle.std.proofs.lemmas.List.Elements.{All-head, All-tail}
use Rattle.math_fields.specs.Field.{Field}
use Rattle.math_linear.specs.Vector.{Vector, vzero, vplus, scale, total, bilinear}
use Rattle.math_linear.specs.Lists.{vector_of}
use Rattle.math_linear.proofs.Vectors.{vplus_assoc, vplus_comm, vplus-vzero, total_same, total_none, total_scale, scale_scale, scale_comm, scale-nought}
use Rattle.fpl_numbers.specs.declared.number.Num.{Num}
use Rattle.fpl_numbers.specs.declared.number.Kind.{Kind}
use Rattle.fpl_numbers.specs.declared.number.Unfit.{Unfit}
use Rattle.fpl_numbers.specs.Numbers.{IsElement, is_nought}
use Rattle.fpl_numbers.specs.Reads.{Reads}
use Rattle.fpl_scalar.specs.Vectors.{AreElements}
use Rattle.fpl_rows.proofs.Fits.{ok_same, first_fits}
use Rattle.fpl_table.specs.Sums.{add_each}
use Rattle.plain_sources.specs.Premises.{IsFor}
use Rattle.plain_sources.proofs.Rows.{HasUnits, for_same}

total_first : (K : Field) (n : ℕ) (f : ℕ → Vector K) → total K (suc n) f ≡ vplus K (f 0) (total K n (λ i. f (suc i)))
unfolding total
total_first K zero f = vplus_comm K _ _
total_first K (suc n) f = ap (λ w. vplus K w (f (suc n))) (total_first K n f) ∙ vplus_assoc K _ _ _

-- a bilinear form as a sum of sums
bilinear_nested : (K : Field) (n : ℕ) (form : ℕ → ℕ → Vector K) (x y : Vector K) →
    total K n (λ i. scale K (x i) (total K n (λ j. scale K (y j) (form i j)))) ≡ bilinear K n form x y
unfolding bilinear
bilinear_nested K n form x y =
    total_same K n _ _ (λ i. sym (total_scale K n (x i) (λ j. scale K (y j) (form i j))) ∙ total_same K n _ _ (λ j. scale_scale K (x i) (y j) (form i j)))

-- the places of a row from the place t on that aren't 0 are of the kind S
abbrev pub Places : (ℕ → Type 0) → ℕ → List Num → Type 0
Places S t cs = (s : ℕ) (d : Num) → s < length cs → is_nought (get_or cs s d) ≡ false → S (t + s)

module _ (kind : Kind) (K : Field) (value : Num → K.Carrier) (reads : Reads kind K value) (units : HasUnits kind K value) where
  -- the sum of the row's numbers times form t, form (t + 1), ..
  pub walked : (ℕ → Vector K) → ℕ → List Num → Vector K
  walked form t [] = vzero K
  walked form t (c ∷ cs) = vplus K (scale K (value c) (form t)) (walked form (t + 1) cs)

  walked_total : (form : ℕ → Vector K) (t : ℕ) (cs : List Num) (n : ℕ) → length cs ≤ n → walked form t cs ≡
      total K n (λ s. scale K (vector_of K value cs s) (form (t + s)))
  unfolding walked
  walked_total form t [] n l = sym (total_none K n _ (λ s k. scale-nought K _))
  walked_total form t (c ∷ cs) zero l = absurd (omega arith)
  walked_total form t (c ∷ cs) (suc n) l =
      ap₂ (vplus K) (ap (λ u. scale K (value c) (form u)) (omega arith))
      (walked_total form (t + 1) cs n (omega arith) ∙ total_same K n _ _ (λ s. ap (λ u. scale K (vector_of K value cs s) (form u)) (omega arith)))
      ∙ sym (total_first K n (λ s. scale K (vector_of K value (c ∷ cs) s) (form (t + s))))

  pub walked_is : (form : ℕ → Vector K) (cs : List Num) (n : ℕ) → length cs ≤ n → walked form 0 cs ≡ total K n (λ s. scale K (vector_of K value cs s) (form s))
  walked_is form cs n l = walked_total form 0 cs n l ∙ total_same K n _ _ (λ s. ap (λ u. scale K (vector_of K value cs s) (form u)) (omega arith))

  abbrev pub Step : Type 0
  Step = ℕ → Num → List Num → Result (List Num) Unfit

  -- a step adds its number times form t
  abbrev pub Adds : ℕ → (ℕ → Type 0) → Step → (ℕ → Vector K) → Type 0
  Adds m S step form =
      (t : ℕ) (c : Num) (v z : List Num) (w : Vector K) → S t → IsElement kind c → IsFor kind K value m w v → step t c v ≡ Ok z →
      IsFor kind K value m (vplus K w (scale K (value c) (form t))) z

  walk_from : (m : ℕ) (S : ℕ → Type 0) (step : Step) (form : ℕ → Vector K) → Adds m S step form → (t : ℕ) (cs v z : List Num) (w : Vector K) →
      AreElements kind cs → Places S t cs →
      IsFor kind K value m w v → add_each step t cs v ≡ Ok z → IsFor kind K value m (vplus K w (walked form t cs)) z
  unfolding walked
  walk_from m S step form each t [] v z w a h k e =
      subst (IsFor kind K value m (vplus K w (vzero K))) (ok_same e) (for_same kind K value reads units m w _ v (sym (vplus-vzero K w)) k)
  walk_from m S step form each t (c ∷ cs) v z w a h k e =
      let f = first_fits _ (if is_nought c then Ok v else step t c v) z e in
      for_same kind K value reads units m _ _ z (vplus_assoc K _ _ _)
      (walk_from m S step form each (t + 1) cs f.0 z (vplus K w (scale K (value c) (form t))) (All-tail (IsElement kind) c cs a)
      (λ s d l n. subst S (let g : t + suc s ≡ t + 1 + s = omega arith in g) (h (suc s) d (omega arith) n)) (go (is_nought c) f.0 refl f.1.0) f.1.1)
    where
      go : (b : Bool) (y : List Num) → is_nought c ≡ b → (if b then Ok v else step t c v) ≡ Ok y →
          IsFor kind K value m (vplus K w (scale K (value c) (form t))) y
      go true y z f =
          subst (IsFor kind K value m (vplus K w (scale K (value c) (form t)))) (ok_same f)
          (for_same kind K value reads units m w _ v
          (sym (ap (vplus K w) (ap (λ u. scale K u (form t)) (reads.zero_is c (All-head (IsElement kind) c cs a) z) ∙ scale-nought K (form t)) ∙
          vplus-vzero K w)) k)
      go false y z f = each t c v y w (subst S (let g : t + 0 ≡ t = omega arith in g) (h 0 c (omega arith) z)) (All-head (IsElement kind) c cs a) k f

  -- a walk over a row adds the sum over its places
  pub walk_reads : (n m : ℕ) (S : ℕ → Type 0) (step : Step) (form : ℕ → Vector K) → Adds m S step form → (cs v z : List Num) (w : Vector K) →
      AreElements kind cs → length cs ≤ n → Places S 0 cs →
      IsFor kind K value m w v → add_each step 0 cs v ≡ Ok z → IsFor kind K value m (vplus K w (total K n (λ s. scale K (vector_of K value cs s) (form s)))) z
  walk_reads n m S step form each cs v z w a l h k e =
      for_same kind K value reads units m _ _ z (ap (vplus K w) (walked_is form cs n l)) (walk_from m S step form each 0 cs v z w a h k e)

  -- a walk over two rows adds the bilinear form
  pub both_walks : (n m : ℕ) (S R : ℕ → Type 0) (step : ℕ → ℕ → Num → Num → List Num → Result (List Num) Unfit) (form : ℕ → ℕ → Vector K) →
      ((i j : ℕ) (x y : Num) (v z : List Num) (w : Vector K) → S i → R j → IsElement kind x → IsElement kind y → IsFor kind K value m w v →
      step i j x y v ≡ Ok z →
      IsFor kind K value m (vplus K w (scale K (value y) (scale K (value x) (form i j)))) z) →
      (x y v z : List Num) (w : Vector K) → AreElements kind x → AreElements kind y → length x ≤ n → length y ≤ n → Places S 0 x → Places R 0 y →
      IsFor kind K value m w v → add_each (λ i a v. add_each (λ j b v. step i j a b v) 0 y v) 0 x v ≡ Ok z →
      IsFor kind K value m (vplus K w (bilinear K n form (vector_of K value x) (vector_of K value y))) z
  both_walks n m S R step form each x y v z w a b l l' h h' k e =
      for_same kind K value reads units m _ _ z (ap (vplus K w) (bilinear_nested K n form (vector_of K value x) (vector_of K value y)))
      (walk_reads n m S (λ i a v. add_each (λ j b v. step i j a b v) 0 y v) (λ i. total K n (λ j. scale K (vector_of K value y j) (form i j)))
      (λ i c v z w s d k e.
      for_same kind K value reads units m _ _ z
      (ap (vplus K w) (total_same K n _ _ (λ j. scale_comm K (vector_of K value y j) (value c) (form i j)) ∙
      total_scale K n (value c) (λ j. scale K (vector_of K value y j) (form i j))))
      (walk_reads n m R (λ j b v. step i j c b v) (λ j. scale K (value c) (form i j)) (λ j d' v z w r q k e. each i j c d' v z w s r d q k e) y v z w
      b l' h' k e))
      x v z w a l h k e)
