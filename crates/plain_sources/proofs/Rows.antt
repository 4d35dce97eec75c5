-- Rows of plain numbers, and the vectors that they stand for.
use Rattle.std.specs.Prelude.{◌≡◌, ◌≢◌, ℕ, zero, suc, ◌<◌, ◌≤◌, List, [], ◌∷◌, length, get_or, map, set, replicate, Ok}
use mathlib.Core.Path.{sym, refl, ap, ◌∙◌, fun_ext, subst}
use native.Mathlib.Omega.{arith}
use native.Mathlib.Decide.{ℕ_discrete}
use Rattle.std.proofs.lemmas.List.{length-set, length-replicate, length-map}
use Rattle.std.proofs.lemmas.List.Elements.{All-nil, All-cons, All-head, All-tail, All-replicate, All-set}
use Rattle.math_fields.specs.Field.{Field}
use Rattle.math_linear.specs.Vector.{Vector, vzero, vplus, scale, place}
use Rattle.math_linear.specs.Lists.{vector_of}
use Rattle.math_linear.proofs.Numbers.{times-nought, minus-times, unit-times}
use Rattle.math_linear.proofs.Vectors.{place_same, place_other, scale-unit}
use Rattle.fpl_numbers.specs.declared.number.Num.{Num}
use Rattle.fpl_numbers.specs.declared.number.Kind.{Kind}
use Rattle.fpl_numbers.specs.declared.number.Op.TheVariants.{Add, Mul}
use Rattle.fpl_numbers.specs.Numbers.{IsElement, operate, residue, negative_of}
use Rattle.fpl_numbers.specs.Results.{and_then}
use Rattle.fpl_numbers.specs.Reads.{Reads}
use Rattle.fpl_scalar.specs.Vectors.{AreElements, axpy_of, scale_of}
use Rattle.fpl_rows.proofs.Fits.{ok_same, first_fits, part_fits}
use Rattle.fpl_rows.specs.Positions.{added_at}
use Rattle.fpl_table.specs.Value.{zero_row, add_row}
use Rattle.fpl_rewrite.specs.Rows.{take_off}
use Rattle.plain_sources.specs.Premises.{IsFor}

-- 0 and 1 as plain numbers
pub record HasUnits (kind : Kind) (K : Field) (value : Num → K.Carrier) : Type 0 where
  pub nought : IsElement kind (residue 0)
  pub unit : IsElement kind (residue 1)
  pub unit_is : value (residue 1) ≡ K.unit

module _ (kind : Kind) (K : Field) (value : Num → K.Carrier) (reads : Reads kind K value) (units : HasUnits kind K value) where
  pub for_same : (n : ℕ) (v w : Vector K) (row : List Num) → v ≡ w → IsFor kind K value n v row → IsFor kind K value n w row
  for_same n v w row e h = record { elements = h.elements; long = h.long; vector = h.vector ∙ e }

  pub nought_is : value (residue 0) ≡ K.nought
  nought_is = reads.zero_is (residue 0) units.nought refl

  pub past : (row : List Num) (s : ℕ) → length row ≤ s → vector_of K value row s ≡ K.nought
  past [] s l = refl
  past (x ∷ xs) zero l = absurd (omega arith)
  past (x ∷ xs) (suc s) l = past xs s (omega arith)

  pub at_place : (row : List Num) (s : ℕ) (d : Num) → s < length row → vector_of K value row s ≡ value (get_or row s d)
  at_place [] s d l = absurd (omega arith)
  at_place (x ∷ xs) zero d l = refl
  at_place (x ∷ xs) (suc s) d l = at_place xs s d (omega arith)

  zeros_at : (n s : ℕ) → vector_of K value (replicate n (residue 0)) s ≡ K.nought
  zeros_at zero s = refl
  zeros_at (suc n) zero = nought_is
  zeros_at (suc n) (suc s) = zeros_at n s

  pub zero_row_reads : (n : ℕ) → IsFor kind K value n (vzero K) (zero_row n)
  unfolding vzero
  zero_row_reads n = record {
    elements = All-replicate (IsElement kind) n (residue 0) units.nought;
    long = length-replicate n (residue 0);
    vector =
        fun_ext (zeros_at n);
  }

  set_same : (row : List Num) (s : ℕ) (x : Num) → s < length row → vector_of K value (set row s x) s ≡ value x
  set_same [] s x l = absurd (omega arith)
  set_same (y ∷ ys) zero x l = refl
  set_same (y ∷ ys) (suc s) x l = set_same ys s x (omega arith)

  set_other : (row : List Num) (s t : ℕ) (x : Num) → s ≢ t → vector_of K value (set row s x) t ≡ vector_of K value row t
  set_other [] s t x d = refl
  set_other (y ∷ ys) zero zero x d = absurd (d refl)
  set_other (y ∷ ys) zero (suc t) x d = refl
  set_other (y ∷ ys) (suc s) zero x d = refl
  set_other (y ∷ ys) (suc s) (suc t) x d = set_other ys s t x (λ e. d (ap suc e))

  sum_at : (row : List Num) (s t : ℕ) (x c : Num) → s < length row → value x ≡ K.plus (vector_of K value row s) (value c) →
      vector_of K value (set row s x) t ≡ K.plus (vector_of K value row t) (K.times (value c) (place K s t))
  sum_at row s t x c l e = go (ℕ_discrete s t)
    where
      go : Dec (s ≡ t) → vector_of K value (set row s x) t ≡ K.plus (vector_of K value row t) (K.times (value c) (place K s t))
      go (yes d) =
          subst (λ t. vector_of K value (set row s x) t ≡ K.plus (vector_of K value row t) (K.times (value c) (place K s t))) d
          (set_same row s x l ∙ e ∙ ap (K.plus (vector_of K value row s)) (sym (ap (K.times (value c)) (place_same K s) ∙ K.times-unit (value c))))
      go (no d) =
          set_other row s t x d ∙ sym (K.plus-nought _) ∙ ap (K.plus (vector_of K value row t))
          (sym (ap (K.times (value c)) (place_other K s t d) ∙ times-nought K (value c)))

  -- a number added at a place
  pub add_at_reads : (n : ℕ) (w : Vector K) (v z : List Num) (s : ℕ) (c : Num) → IsFor kind K value n w v → IsElement kind c → s < n →
      added_at kind v s c ≡ Ok z →
      IsFor kind K value n (vplus K w (scale K (value c) (place K s))) z
  unfolding vplus scale
  add_at_reads n w v z s c h b l e =
      let inside : s < length v = omega (arith, h.long) in
      let f = part_fits (λ x. set v s x) (operate kind Add (get_or v s (residue 0)) c) z e in
      let q = reads.sum (get_or v s (residue 0)) c f.0 (h.elements s (residue 0) inside) b f.1.0 in
      record {
        elements = subst (AreElements kind) (sym f.1.1) (All-set (IsElement kind) v s f.0 q.0 h.elements);
        long = ap length f.1.1 ∙ length-set v s f.0 ∙ h.long;
        vector =
            ap (vector_of K value) f.1.1
            ∙ fun_ext (λ t. sum_at v s t f.0 c inside (q.1 ∙ ap (λ a. K.plus a (value c)) (sym (at_place v s (residue 0) inside))))
            ∙ ap (λ u t. K.plus (u t) (K.times (value c) (place K s t))) h.vector;
      }

  axpy_places : (xs ys zs : List Num) (c : Num) → AreElements kind xs → IsElement kind c → AreElements kind ys → length ys ≤ length xs →
      axpy_of kind xs c ys ≡ Ok zs →
      AreElements kind zs × ((length zs ≡ length xs) × ((s : ℕ) → vector_of K value zs s ≡ K.plus (vector_of K value xs s)
      (K.times (value c) (vector_of K value ys s))))
  axpy_places [] [] zs c a b d l e =
      let is : [] ≡ zs = ok_same e in (
        subst (AreElements kind) is a,
        (
          ap length (sym is),
          λ s. ap (λ w. vector_of K value w s) (sym is) ∙
              sym (ap (K.plus K.nought) (times-nought K _) ∙ K.plus-nought _),
        ),
      )
  axpy_places [] (y ∷ ys) zs c a b d l e = absurd (omega arith)
  axpy_places (x ∷ xs) [] zs c a b d l e =
      let is : x ∷ xs ≡ zs = ok_same e in (
        subst (AreElements kind) is a,
        (
          ap length (sym is),
          λ s. ap (λ w. vector_of K value w s) (sym is) ∙
              sym (ap (K.plus (vector_of K value (x ∷ xs) s)) (times-nought K _) ∙ K.plus-nought _),
        ),
      )
  axpy_places (x ∷ xs) (y ∷ ys) zs c a b d l e =
      let o = first_fits _ (and_then (λ m. operate kind Add x m) (operate kind Mul c y)) zs e in
      let m = first_fits (λ m. operate kind Add x m) (operate kind Mul c y) o.0 o.1.0 in
      let p = reads.product c y m.0 b (All-head (IsElement kind) y ys d) m.1.0 in
      let q = reads.sum x m.0 o.0 (All-head (IsElement kind) x xs a) p.0 m.1.1 in
      let r = part_fits _ (axpy_of kind xs c ys) zs o.1.1 in
      let k = axpy_places xs ys r.0 c (All-tail (IsElement kind) x xs a) b (All-tail (IsElement kind) y ys d) (omega arith) r.1.0 in (
        subst (AreElements kind) (sym r.1.1) (All-cons (IsElement kind) o.0 r.0 q.0 k.0),
        (
          ap length r.1.1 ∙ ap suc k.1.0,
          λ s. ap (λ w. vector_of K value w s) r.1.1 ∙ go o.0 r.0 (q.1 ∙ ap (K.plus (value x)) p.1) k.1.1 s,
        ),
      )
    where
      go : (t : Num) (rest : List Num) → value t ≡ K.plus (value x) (K.times (value c) (value y)) →
          ((s : ℕ) → vector_of K value rest s ≡ K.plus (vector_of K value xs s) (K.times (value c) (vector_of K value ys s))) →
          (s : ℕ) → vector_of K value (t ∷ rest) s ≡ K.plus (vector_of K value (x ∷ xs) s) (K.times (value c) (vector_of K value (y ∷ ys) s))
      go t rest h k zero = h
      go t rest h k (suc s) = k s

  -- a multiple of a row added
  pub axpy_reads : (n : ℕ) (w : Vector K) (v x z : List Num) (c : Num) → IsFor kind K value n w v → IsElement kind c → AreElements kind x →
      length x ≤ n → axpy_of kind v c x ≡ Ok z →
      IsFor kind K value n (vplus K w (scale K (value c) (vector_of K value x))) z
  unfolding vplus scale
  axpy_reads n w v x z c h b d l e =
      let k = axpy_places v x z c h.elements b d (omega (arith, h.long)) e in
      record { elements = k.0; long = k.1.0 ∙ h.long; vector = fun_ext k.1.1 ∙ ap (λ u s. K.plus (u s) (K.times (value c) (vector_of K value x s))) h.vector }

  -- a row added
  pub add_row_reads : (n : ℕ) (w : Vector K) (v x z : List Num) → IsFor kind K value n w v → AreElements kind x → length x ≤ n →
      add_row kind v x ≡ Ok z → IsFor kind K value n (vplus K w (vector_of K value x)) z
  add_row_reads n w v x z h d l e =
      for_same n _ _ z (ap (vplus K w) (ap (λ c. scale K c (vector_of K value x)) units.unit_is ∙ scale-unit K _))
      (axpy_reads n w v x z (residue 1) h units.unit d l e)

  -- a row taken off
  pub take_off_reads : (n : ℕ) (w : Vector K) (v x z : List Num) → IsFor kind K value n w v → AreElements kind x → length x ≤ n → take_off kind v x ≡ Ok z →
      IsFor kind K value n (vplus K w (scale K (K.minus K.unit) (vector_of K value x))) z
  take_off_reads n w v x z h d l e =
      let minus = reads.negative (residue 1) units.unit in
      for_same n _ _ z (ap (λ c. vplus K w (scale K c (vector_of K value x))) (minus.1 ∙ ap K.minus units.unit_is))
      (axpy_reads n w v x z (negative_of kind (residue 1)) h minus.0 d l e)

  scale_places : (xs zs : List Num) (c : Num) → AreElements kind xs → IsElement kind c → scale_of kind c xs ≡ Ok zs →
      AreElements kind zs × ((length zs ≡ length xs) × ((s : ℕ) → vector_of K value zs s ≡ K.times (value c) (vector_of K value xs s)))
  scale_places [] zs c a b e =
      let is : [] ≡ zs = ok_same e in
      (subst (AreElements kind) is a, (ap length (sym is), λ s. ap (λ w. vector_of K value w s) (sym is) ∙ sym (times-nought K _)))
  scale_places (x ∷ xs) zs c a b e =
      let m = first_fits _ (operate kind Mul c x) zs e in
      let p = reads.product c x m.0 b (All-head (IsElement kind) x xs a) m.1.0 in
      let r = part_fits _ (scale_of kind c xs) zs m.1.1 in
      let k = scale_places xs r.0 c (All-tail (IsElement kind) x xs a) b r.1.0 in (
        subst (AreElements kind) (sym r.1.1) (All-cons (IsElement kind) m.0 r.0 p.0 k.0),
        (
          ap length r.1.1 ∙ ap suc k.1.0,
          λ s. ap (λ w. vector_of K value w s) r.1.1 ∙ go m.0 r.0 p.1 k.1.1 s,
        ),
      )
    where
      go : (t : Num) (rest : List Num) → value t ≡ K.times (value c) (value x) → ((s : ℕ) →
          vector_of K value rest s ≡ K.times (value c) (vector_of K value xs s)) →
          (s : ℕ) → vector_of K value (t ∷ rest) s ≡ K.times (value c) (vector_of K value (x ∷ xs) s)
      go t rest h k zero = h
      go t rest h k (suc s) = k s

  -- a multiple of a row
  pub scale_reads : (n : ℕ) (w : Vector K) (v z : List Num) (c : Num) → IsFor kind K value n w v → IsElement kind c → scale_of kind c v ≡ Ok z →
      IsFor kind K value n (scale K (value c) w) z
  unfolding scale
  scale_reads n w v z c h b e =
      let k = scale_places v z c h.elements b e in
      record { elements = k.0; long = k.1.0 ∙ h.long; vector = fun_ext k.1.1 ∙ ap (λ u s. K.times (value c) (u s)) h.vector }

  minus_at : (xs : List Num) (s : ℕ) → AreElements kind xs → vector_of K value (map (negative_of kind) xs) s ≡ K.times (K.minus K.unit) (vector_of K value xs s)
  minus_at [] s a = sym (times-nought K _)
  minus_at (x ∷ xs) zero a = (reads.negative x (All-head (IsElement kind) x xs a)).1 ∙ sym (minus-times K K.unit (value x) ∙
      ap K.minus (unit-times K (value x)))
  minus_at (x ∷ xs) (suc s) a = minus_at xs s (All-tail (IsElement kind) x xs a)

  minus_elements : (xs : List Num) → AreElements kind xs → AreElements kind (map (negative_of kind) xs)
  minus_elements [] a = All-nil (IsElement kind)
  minus_elements (x ∷ xs) a =
      All-cons (IsElement kind) (negative_of kind x) (map (negative_of kind) xs) (reads.negative x (All-head (IsElement kind) x xs a)).0
      (minus_elements xs (All-tail (IsElement kind) x xs a))

  -- minus a row
  pub minus_reads : (n : ℕ) (w : Vector K) (v : List Num) → IsFor kind K value n w v → IsFor kind K value n (scale K (K.minus K.unit) w)
      (map (negative_of kind) v)
  unfolding scale
  minus_reads n w v h = record {
    elements = minus_elements v h.elements;
    long = length-map v (negative_of kind) ∙ h.long;
    vector = fun_ext (λ s. minus_at v s h.elements) ∙ ap (λ u s. K.times (K.minus K.unit) (u s)) h.vector;
  }
