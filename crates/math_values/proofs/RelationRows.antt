-- An expression of the next weight is derivably equal to the combination of symbols that is its row.
use Rattle.std.specs.Prelude.{ℕ, suc, ◌≡◌, ◌<◌, ◌≤◌, ◌+◌, length}
use mathlib.Core.Path.{ap, ◌∙◌, subst}
use native.Mathlib.Omega.{arith}
use native.Mathlib.Decide.{ℕ_discrete}
use Rattle.math_fields.specs.Field.{Field}
use Rattle.math_linear.specs.Vector.{Vector, vzero}
use Rattle.math_algebra.specs.Tree.{Tree, Trees, gen, sum_of, bracket_of, Presentation, generator}
use Rattle.math_algebra.specs.Degrees.{IsVoid}
use Rattle.math_algebra.proofs.Freely.{DerivesFreely}
use Rattle.math_algebra.specs.Derives.{Expression}
use Rattle.math_algebra.proofs.Freely.DerivesFreely.{back, then, in_multiple, in_left, in_right, sum_empty}
use Rattle.math_algebra.specs.Table.{Table, val, IsOf}
use Rattle.math_algebra.specs.SourceRows.{outer, row_of, rows_of_all}
use Rattle.math_algebra.proofs.Homogeneous.{WeightIs, WeightsAre}
use Rattle.math_algebra.proofs.Homogeneous.WeightIs.{weight_void, weight_gen, weight_sum, weight_multiple, weight_bracket}
use Rattle.math_algebra.proofs.Homogeneous.WeightsAre.{weight_end, weight_more}
use Rattle.math_algebra.specs.Standard.{combined}
use Rattle.math_algebra.proofs.Derived.{of_path, both_same, none_left, none_right, more_first, void_none_derived, combined_vzero, combined_vplus, combined_scale, combined_place}

module _ (K : Field) (P : Presentation K.Carrier) (T : Table K) (tree symbol : ℕ → Expression K) (m : ℕ) (number : ℕ → ℕ → ℕ) (generator_number : ℕ → ℕ)
    (value_of : (e : Tree K.Carrier) (d : ℕ) → WeightIs P e d → IsOf K T d (val K T e))
    (no_weight : (x : Vector K) → IsOf K T 0 x → x ≡ vzero K)
    (outer_zero : (x : Vector K) → outer K T number x (vzero K) ≡ vzero K) (zero_outer : (x : Vector K) → outer K T number (vzero K) x ≡ vzero K)
    (void_row : (e : Tree K.Carrier) → IsVoid e → row_of K T number generator_number e ≡ vzero K)
    (below : (e : Tree K.Carrier) (d : ℕ) → WeightIs P e d → d ≤ T.weight → DerivesFreely K P e (combined K tree (length T.basis) (val K T e)))
    (outers : (b c : ℕ) → b + c ≡ suc T.weight → (x y : Vector K) → IsOf K T b x → IsOf K T c y →
    DerivesFreely K P (bracket_of (combined K tree (length T.basis) x) (combined K tree (length T.basis) y)) (combined K symbol m (outer K T number x y)))
    (generators : (g : ℕ) → g < length P.generators → (generator P g).weight ≡ suc T.weight →
    (generator_number g < m) × (symbol (generator_number g) ≡ gen g)) where
  bracket_row : (b c : ℕ) → b + c ≡ suc T.weight → (e f : Tree K.Carrier) → WeightIs P e b → WeightIs P f c →
      DerivesFreely K P (bracket_of e f) (combined K symbol m (outer K T number (val K T e) (val K T f)))
  bracket_row b c w e f h k = go (ℕ_discrete b 0) (ℕ_discrete c 0)
    where
      comb : Vector K → Expression K
      comb v = combined K tree (length T.basis) v

      go : Dec (b ≡ 0) → Dec (c ≡ 0) → DerivesFreely K P (bracket_of e f) (combined K symbol m (outer K T number (val K T e) (val K T f)))
      go (yes p) d =
          let z : val K T e ≡ vzero K = no_weight _ (subst (λ u. IsOf K T u (val K T e)) p (value_of e b h)) in
          then (in_left f (then (below e b h (omega arith)) (then (of_path K P _ _ (ap (combined K tree (length T.basis)) z))
          (combined_vzero K P tree (length T.basis)))))
          (then (none_left K P f) (back (then (of_path K P _ _ (ap (combined K symbol m) (ap (λ u. outer K T number u (val K T f)) z ∙ zero_outer _)))
          (combined_vzero K P symbol m))))
      go (no p) (yes d) =
          let z : val K T f ≡ vzero K = no_weight _ (subst (λ u. IsOf K T u (val K T f)) d (value_of f c k)) in
          then (in_right e (then (below f c k (omega arith)) (then (of_path K P _ _ (ap (combined K tree (length T.basis)) z))
          (combined_vzero K P tree (length T.basis)))))
          (then (none_right K P e) (back (then (of_path K P _ _ (ap (combined K symbol m) (ap (outer K T number (val K T e)) z ∙ outer_zero _)))
          (combined_vzero K P symbol m))))
      go (no p) (no d) =
          then (in_left f (below e b h (omega arith)))
          (then (in_right _ (below f c k (omega arith))) (outers b c w _ _ (value_of e b h) (value_of f c k)))

  mutual
    unfolding row_of

    pub row_derived : {e : Tree K.Carrier} {d : ℕ} → WeightIs P e d → d ≡ suc T.weight → DerivesFreely K P e
        (combined K symbol m (row_of K T number generator_number e))
    row_derived (weight_void d h) w = then (void_none_derived K P h)
        (back (then (of_path K P _ _ (ap (combined K symbol m) (void_row _ h))) (combined_vzero K P symbol m)))
    row_derived (weight_gen g l) w = let n = generators g l w in back (then (combined_place K P symbol m _ n.0) (of_path K P _ _ n.1))
    row_derived (weight_sum h) w = rows_derived h w
    row_derived (weight_multiple {c = c} h) w = then (in_multiple c (row_derived h w)) (back (combined_scale K P symbol m c _))
    row_derived (weight_bracket {e = e} {f = f} {b = b} {c = c} h k) w = bracket_row b c w e f h k

    pub rows_derived : {es : Trees K.Carrier} {d : ℕ} → WeightsAre P es d → d ≡ suc T.weight →
        DerivesFreely K P (sum_of es) (combined K symbol m (rows_of_all K T number generator_number es))
    rows_derived weight_end w = then sum_empty (back (combined_vzero K P symbol m))
    rows_derived (weight_more {e = e} {es = es} h k) w =
        then (more_first K P e es) (then (both_same K P (row_derived h w) (rows_derived k w)) (back (combined_vplus K P symbol m _ _)))
