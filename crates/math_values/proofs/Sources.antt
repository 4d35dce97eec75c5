-- Source rows are derivably 0: a pair's symbol stands for the bracket of its two trees, up to the sign.
use Rattle.std.specs.Prelude.{ℕ, suc, ◌≡◌, ◌≢◌, ◌⊎◌, ◌<◌, ◌≤◌, ◌+◌, length}
use mathlib.Core.Path.{sym, refl, ap, ◌∙◌, subst}
use mathlib.Core.Logic.{inl, inr}
use native.Mathlib.Omega.{arith}
use native.Mathlib.Decide.{dec_lt}
use Rattle.math_fields.specs.Field.{Field}
use Rattle.math_linear.specs.Vector.{Vector, vplus, scale, place, bilinear}
use Rattle.math_algebra.specs.Tree.{none, multiple, bracket_of, Parity, even, odd, Presentation}
use Rattle.math_algebra.specs.Degrees.{HasParity}
use Rattle.math_algebra.specs.Derives.{sign, Expression}
use Rattle.math_algebra.proofs.Freely.{DerivesFreely}
use Rattle.math_algebra.proofs.Freely.DerivesFreely.{same, back, then, in_multiple, in_left, in_right, left_multiple, right_multiple, multiple_nought, multiple_unit, multiple_plus, multiple_multiple, exchange, jacobi}
use Rattle.math_algebra.specs.Table.{Table, signed, parity_at, bracket, with_itself, weight_at, IsOf}
use Rattle.math_algebra.specs.SourceRows.{outer_place, outer, jacobi_row}
use Rattle.math_algebra.specs.Standard.{combined}
use Rattle.math_linear.proofs.Linear.{linear_vzero, bilinear_left, bilinear_right, bilinear_places}
use Rattle.math_linear.proofs.Places.{Stands, place_stands, by_places}
use Rattle.math_values.proofs.Steps.{signed_below, signed_above, signed_itself, outer_within}
use Rattle.math_algebra.proofs.Derived.{of_path, both, both_same, multiple_none, none_left, none_right, both_left, both_right, combined_vzero, combined_vplus, combined_scale, combined_place}

module _ (K : Field) (P : Presentation K.Carrier) where
  -- [a, a] ~ 0 for even a, where 2 isn't 0
  pub even_itself : K.plus K.unit K.unit ≢ K.nought → (a : Expression K) → HasParity P a even → DerivesFreely K P (bracket_of a a) none
  even_itself two a h =
      then (back (multiple_unit b))
      (then (of_path K P _ _ (ap (λ w. multiple w b) (sym (K.times-inverse t two) ∙ K.times_comm _ _)))
      (then (back (multiple_multiple (K.inverse t) t b)) (then (in_multiple (K.inverse t) twice_none) (multiple_none K P _))))
    where
      b : Expression K
      b = bracket_of a a

      t : K.Carrier
      t = K.plus K.unit K.unit

      twice_none : DerivesFreely K P (multiple t b) none
      twice_none =
          then (back (multiple_plus K.unit K.unit b))
          (then (both_same K P same (then (multiple_unit b) (exchange even even a a h h)))
          (then (multiple_plus K.unit (K.minus K.unit) b) (then (of_path K P _ _ (ap (λ w. multiple w b) (K.plus-minus K.unit))) (multiple_nought b))))

  pub less_none : (e : Expression K) → DerivesFreely K P (both K P e (multiple (K.minus K.unit) e)) none
  less_none e =
      then (both_same K P (back (multiple_unit e)) same)
      (then (multiple_plus K.unit (K.minus K.unit) e) (then (of_path K P _ _ (ap (λ w. multiple w e) (K.plus-minus K.unit))) (multiple_nought e)))

  -- a bilinear form that is derived at the places of two kinds is derived
  pub bilinear_derived : (n : ℕ) (tree : ℕ → Expression K) (m : ℕ) (symbol : ℕ → Expression K) (form : ℕ → ℕ → Vector K) (S R : ℕ → Type 0) →
      ((i j : ℕ) → i < n → j < n → S i → R j → DerivesFreely K P (bracket_of (tree i) (tree j)) (combined K symbol m (form i j))) →
      (x y : Vector K) → Stands K n S x → Stands K n R y → DerivesFreely K P (bracket_of (combined K tree n x) (combined K tree n y))
      (combined K symbol m (bilinear K n form x y))
  bilinear_derived n tree m symbol form S R places x y h k =
      by_places K n S (λ x. DerivesFreely K P (bracket_of (combined K tree n x) (combined K tree n y)) (combined K symbol m (bilinear K n form x y)))
      (then (in_left _ (combined_vzero K P tree n))
      (then (none_left K P _) (back (then (of_path K P _ _ (ap (combined K symbol m) (linear_vzero K _ (bilinear_left K n form y))))
      (combined_vzero K P symbol m)))))
      (λ u v p q.
      then (in_left _ (combined_vplus K P tree n u v))
      (then (both_left K P _ _ _) (then (both_same K P p q)
      (back (then (of_path K P _ _ (ap (combined K symbol m) ((bilinear_left K n form y).of_plus u v))) (combined_vplus K P symbol m _ _))))))
      (λ a u p.
      then (in_left _ (combined_scale K P tree n a u))
      (then (left_multiple a _ _) (then (in_multiple a p)
      (back (then (of_path K P _ _ (ap (combined K symbol m) ((bilinear_left K n form y).of_scale a u))) (combined_scale K P symbol m a _))))))
      (λ i l d. then (in_left _ (combined_place K P tree n i l)) (at_place i l d)) x h
    where
      at_place : (i : ℕ) → i < n → S i → DerivesFreely K P (bracket_of (tree i) (combined K tree n y)) (combined K symbol m (bilinear K n form (place K i) y))
      at_place i l d =
          by_places K n R (λ y. DerivesFreely K P (bracket_of (tree i) (combined K tree n y)) (combined K symbol m (bilinear K n form (place K i) y)))
          (then (in_right (tree i) (combined_vzero K P tree n)) (then (none_right K P (tree i))
          (back (then (of_path K P _ _ (ap (combined K symbol m) (linear_vzero K _ (bilinear_right K n form (place K i)))))
          (combined_vzero K P symbol m)))))
          (λ u v p q.
          then (in_right (tree i) (combined_vplus K P tree n u v))
          (then (both_right K P _ _ _) (then (both_same K P p q)
          (back (then (of_path K P _ _ (ap (combined K symbol m) ((bilinear_right K n form (place K i)).of_plus u v)))
          (combined_vplus K P symbol m _ _))))))
          (λ a u p.
          then (in_right (tree i) (combined_scale K P tree n a u))
          (then (right_multiple a _ _) (then (in_multiple a p)
          (back (then (of_path K P _ _ (ap (combined K symbol m) ((bilinear_right K n form (place K i)).of_scale a u)))
          (combined_scale K P symbol m a _))))))
          (λ j l' d'.
          then (in_right (tree i) (combined_place K P tree n j l'))
          (then (places i j l l' d d') (of_path K P _ _ (ap (combined K symbol m) (sym (bilinear_places K n form i j l l')))))) y k

  module _ (T : Table K) (tree : ℕ → Expression K) (symbol : ℕ → Expression K) (m : ℕ) (number : ℕ → ℕ → ℕ) (two : K.plus K.unit K.unit ≢ K.nought)
      (tree_parity : (i : ℕ) → i < length T.basis → HasParity P (tree i) (parity_at T i))
      (numbered : (i j : ℕ) → i < length T.basis → j < length T.basis → weight_at T i + weight_at T j ≡ suc T.weight →
      (i < j) ⊎ ((i ≡ j) × (parity_at T i ≡ odd)) →
      (number i j < m) × (symbol (number i j) ≡ bracket_of (tree i) (tree j))) where
    pub pair_derived : (i j : ℕ) → i < length T.basis → j < length T.basis → weight_at T i + weight_at T j ≡ suc T.weight →
        DerivesFreely K P (bracket_of (tree i) (tree j)) (combined K symbol m (outer_place K T number i j))
    pair_derived i j l k w = then (go (dec_lt i j) (dec_lt j i)) (of_path K P _ _ (ap (combined K symbol m) (sym (outer_within K T number i j w))))
      where
        S : Vector K
        S = signed K (parity_at T) (λ i j. place K (number i j)) i j

        at_symbol : (i j : ℕ) → (number i j < m) × (symbol (number i j) ≡ bracket_of (tree i) (tree j)) →
            DerivesFreely K P (bracket_of (tree i) (tree j)) (combined K symbol m (place K (number i j)))
        at_symbol i j f = back (then (combined_place K P symbol m (number i j) f.0) (of_path K P _ _ f.1))

        itself : (s : Parity) → parity_at T i ≡ s → weight_at T i + weight_at T i ≡ suc T.weight →
            DerivesFreely K P (bracket_of (tree i) (tree i)) (combined K symbol m (with_itself K s (place K (number i i))))
        itself even e v = then (even_itself two (tree i) (subst (λ s. HasParity P (tree i) s) e (tree_parity i l))) (back (combined_vzero K P symbol m))
        itself odd e v = at_symbol i i (numbered i i l l v (inr (refl, e)))

        go : Dec (i < j) → Dec (j < i) → DerivesFreely K P (bracket_of (tree i) (tree j)) (combined K symbol m S)
        go (yes h) d =
            then (at_symbol i j (numbered i j l k w (inl h)))
            (of_path K P _ _ (ap (combined K symbol m) (sym (signed_below K (parity_at T) (λ i j. place K (number i j)) i j h))))
        go (no h) (yes d) =
            then (exchange (parity_at T i) (parity_at T j) (tree i) (tree j) (tree_parity i l) (tree_parity j k))
            (then (in_multiple _ (at_symbol j i (numbered j i k l (omega arith) (inl d))))
            (then (back (combined_scale K P symbol m _ _))
            (of_path K P _ _ (ap (combined K symbol m) (sym (signed_above K (parity_at T) (λ i j. place K (number i j)) i j d))))))
        go (no h) (no d) =
            let e : i ≡ j = omega arith in
            subst (λ j. DerivesFreely K P (bracket_of (tree i) (tree j)) (combined K symbol m (signed K (parity_at T) (λ i j. place K (number i j)) i j))) e
            (then (itself (parity_at T i) refl (subst (λ u. weight_at T i + weight_at T u ≡ suc T.weight) (sym e) w))
            (of_path K P _ _ (ap (combined K symbol m) (sym (signed_itself K (parity_at T) (λ i j. place K (number i j)) i)))))

    pub outer_derived : (b c : ℕ) → b + c ≡ suc T.weight → (x y : Vector K) → IsOf K T b x → IsOf K T c y →
        DerivesFreely K P (bracket_of (combined K tree (length T.basis) x) (combined K tree (length T.basis) y)) (combined K symbol m (outer K T number x y))
    unfolding outer
    outer_derived b c w x y h k =
        bilinear_derived (length T.basis) tree m symbol (outer_place K T number) (λ i. weight_at T i ≡ b) (λ i. weight_at T i ≡ c)
        (λ i j l l' d d'. pair_derived i j l l' (omega arith)) x y h k

    module _ (entries : (i j : ℕ) → i < length T.basis → j < length T.basis → weight_at T i + weight_at T j ≤ T.weight →
        DerivesFreely K P (bracket_of (tree i) (tree j)) (combined K tree (length T.basis) (bracket K T (place K i) (place K j))))
        (graded : (i j : ℕ) → i < length T.basis → j < length T.basis → IsOf K T (weight_at T i + weight_at T j) (bracket K T (place K i) (place K j)))
        (positive : (i : ℕ) → i < length T.basis → 0 < weight_at T i) where
      pub right_derived : (i j k : ℕ) → i < length T.basis → j < length T.basis → k < length T.basis →
          weight_at T i + (weight_at T j + weight_at T k) ≡ suc T.weight →
          DerivesFreely K P (bracket_of (tree i) (bracket_of (tree j) (tree k))) (combined K symbol m
          (outer K T number (place K i) (bracket K T (place K j) (place K k))))
      right_derived i j k p q r w =
          then (in_left _ (back (combined_place K P tree (length T.basis) i p)))
          (then (in_right _ (entries j k q r (omega (arith, positive i p))))
          (outer_derived (weight_at T i) (weight_at T j + weight_at T k) w _ _ (place_stands K (length T.basis)
          (λ u. weight_at T u ≡ weight_at T i) i p refl) (graded j k q r)))

      left_derived : (i j k : ℕ) → i < length T.basis → j < length T.basis → k < length T.basis → weight_at T i + weight_at T j + weight_at T k ≡ suc T.weight →
          DerivesFreely K P (bracket_of (bracket_of (tree i) (tree j)) (tree k)) (combined K symbol m
          (outer K T number (bracket K T (place K i) (place K j)) (place K k)))
      left_derived i j k p q r w =
          then (in_right _ (back (combined_place K P tree (length T.basis) k r)))
          (then (in_left _ (entries i j p q (omega (arith, positive k r))))
          (outer_derived (weight_at T i + weight_at T j) (weight_at T k) w _ _ (graded i j p q)
          (place_stands K (length T.basis) (λ u. weight_at T u ≡ weight_at T k) k r refl)))

      -- the source row of a triple is derivably 0
      pub jacobi_derived : (i j k : ℕ) → i < length T.basis → j < length T.basis → k < length T.basis →
          weight_at T i + weight_at T j + weight_at T k ≡ suc T.weight →
          DerivesFreely K P (combined K symbol m (jacobi_row K T number i j k)) none
      unfolding jacobi_row
      jacobi_derived i j k p q r w =
          then (combined_vplus K P symbol m _ _)
          (then
          (both_same K P
          (then (back (right_derived i j k p q r (omega arith)))
          (then (jacobi (parity_at T i) (parity_at T j) (parity_at T k) (tree i) (tree j) (tree k) (tree_parity i p) (tree_parity j q)
          (tree_parity k r)) sides))
          (combined_scale K P symbol m _ _))
          (less_none _))
        where
          sides : DerivesFreely K P (both K P (bracket_of (bracket_of (tree i) (tree j)) (tree k))
              (multiple (sign K (parity_at T i) (parity_at T j)) (bracket_of (tree j) (bracket_of (tree i) (tree k)))))
              (combined K symbol m
              (vplus K (outer K T number (bracket K T (place K i) (place K j)) (place K k))
              (scale K (sign K (parity_at T i) (parity_at T j)) (outer K T number (place K j) (bracket K T (place K i) (place K k))))))
          sides =
              then (both_same K P (left_derived i j k p q r w) (then (in_multiple _ (right_derived j i k q p r (omega arith)))
              (back (combined_scale K P symbol m _ _))))
              (back (combined_vplus K P symbol m _ _))
