-- The plain value of an expression is its value in the table.
use Rattle.std.specs.Prelude.{◌≡◌, ℕ, ◌-◌, List, length, Result, Ok, true, false, Bool, if◌then◌else◌}
use mathlib.Core.Path.{sym, refl, ap, ap₂, subst}
use native.Mathlib.Omega.{arith}
use Rattle.math_linear.specs.Vector.{Vector, vzero, vplus}
use Rattle.math_linear.proofs.Vectors.{vplus_assoc, vplus-vzero, vzero-vplus}
use Rattle.fpl_numbers.specs.declared.number.Num.{Num}
use Rattle.fpl_numbers.specs.declared.number.Kind.{Kind}
use Rattle.fpl_numbers.specs.declared.number.Unfit.{Unfit}
use Rattle.fpl_numbers.specs.Numbers.{IsField}
use Rattle.fpl_numbers.specs.Results.{and_then}
use Rattle.fpl_numbers.specs.Kinds.{field_of, number_of, Number}
use Rattle.fpl_scalar.specs.Vectors.{scale_of}
use Rattle.fpl_rows.proofs.Fits.{ok_same, first_fits}
use Rattle.math_algebra.specs.Tree.{Tree, Trees, gen, none, sum_of, multiple, bracket_of as br, end, more, Presentation, IsOver, AreOver}
use Rattle.math_algebra.specs.Tree.IsOver.{over_gen, over_none, over_sum, over_multiple, over_bracket}
use Rattle.math_algebra.specs.Tree.AreOver.{over_end, over_more}
use Rattle.math_algebra.specs.Degrees.{Degree, any, exact, mixed, weight_of}
use Rattle.math_algebra.specs.Table.{val, vals, IsOf, bracket}
use Rattle.math_algebra.proofs.Homogeneous.{WeightIs}
use Rattle.math_algebra.proofs.Degrees.{WeightMeans, weight_means}
use Rattle.math_values.proofs.Parts.{void_val}
use Rattle.math_values.proofs.Relations.{val_of}
use Rattle.math_standard.proofs.NewPlaces.{of_past}
use Rattle.fpl_model.specs.Meaning.{in_field, all_in_field}
use Rattle.fpl_model.specs.Sound.{IsWithin, AreWithin}
use Rattle.fpl_table.specs.Plain.{PlainTable, image_row, table_in, shell_in}
use Rattle.fpl_table.specs.Value.{zero_row, add_row, bracket_of, is_weight_light, is_light, value_of, values_of}
use Rattle.plain_sources.specs.Premises.{IsRowIn, HasRows, HasWeights}
use Rattle.plain_sources.proofs.Rows.{zero_row_reads, scale_reads, add_row_reads}
use Rattle.plain_sources.proofs.Products.{reads, units, Stands, same, bracket_reads}

-- an expression within the generators of a presentation is one over it
mutual
  pub over_is : (k : Kind) (P : Presentation (Number k)) (e : Tree Num) → IsWithin k (length P.generators) e → IsOver P (in_field k e)
  over_is k P (gen g) h = over_gen (g - 1) (let l = h.0 in let m = h.1 in omega arith)
  over_is k P none h = over_none
  over_is k P (sum_of es) h = over_sum (overs_are k P es h.1)
  over_is k P (multiple c e) h = over_multiple (over_is k P e h.1)
  over_is k P (br a b) h = over_bracket (over_is k P a h.0) (over_is k P b h.1)

  pub overs_are : (k : Kind) (P : Presentation (Number k)) (es : Trees Num) → AreWithin k (length P.generators) es → AreOver P (all_in_field k es)
  overs_are k P end h = over_end
  overs_are k P (more e es) h = over_more (over_is k P e h.0) (overs_are k P es h.1)

module _ (T : PlainTable) (is_field : IsField T.kind) (rows : HasRows T) (weights : HasWeights T) where
  abbrev n : ℕ
  n = length T.basis

  abbrev F : Type 0
  F = Tree (Number T.kind)

  abbrev pub value_in : F → Vector (field_of T.kind)
  value_in e = val (field_of T.kind) (table_in T.kind T) e

  -- the value of an expression of one weight has that weight
  pub value_weight : (e : F) (d : ℕ) → WeightIs (shell_in T.kind T) e d → IsOf (field_of T.kind) (table_in T.kind T) d (value_in e)
  value_weight e d h = val_of (field_of T.kind) (table_in T.kind T) (shell_in T.kind T) weights.images weights.products h

  zero_by : (e : F) (d : Degree ℕ) → WeightMeans (shell_in T.kind T) d e → is_weight_light T.weight d ≡ false → value_in e ≡ vzero (field_of T.kind)
  zero_by e any h f = void_val (field_of T.kind) (table_in T.kind T) h
  zero_by e (exact d) h f = of_past (field_of T.kind) (table_in T.kind T) d (value_in e) weights.within (grind arith) (value_weight e d h)
  zero_by e mixed h f = absurd (let k : ⊥ = cc in k)

  -- an expression that isn't light has value 0
  pub zero_heavy : (e : Tree Num) → IsWithin T.kind (length T.generators) e → is_light T e ≡ false → value_in (in_field T.kind e) ≡ vzero (field_of T.kind)
  zero_heavy e h f = zero_by (in_field T.kind e) (weight_of (shell_in T.kind T) (in_field T.kind e))
      (weight_means (shell_in T.kind T) (over_is T.kind (shell_in T.kind T) e h)) f

  zero_reads : Stands T is_field n (vzero (field_of T.kind)) (zero_row n)
  zero_reads = zero_row_reads T.kind (field_of T.kind) (number_of T.kind) (reads T is_field) (units T is_field) n

  -- 0 where the expression isn't light, and else what the rest gives
  by_light : (e : Tree Num) (b : Bool) → IsWithin T.kind (length T.generators) e → is_light T e ≡ b → (r : Result (List Num) Unfit) (v : List Num) →
      (if b then r else Ok (zero_row n)) ≡ Ok v →
      (r ≡ Ok v → Stands T is_field n (value_in (in_field T.kind e)) v) → Stands T is_field n (value_in (in_field T.kind e)) v
  by_light e true h l r v f k = k f
  by_light e false h l r v f k = subst (Stands T is_field n (value_in (in_field T.kind e))) (ok_same f)
      (same T is_field n _ _ (zero_row n) (sym (zero_heavy e h l)) zero_reads)

  pub is_row : (v : Vector (field_of T.kind)) (row : List Num) → Stands T is_field n v row → IsRowIn T row
  is_row v row h = record { elements = h.elements; short = let l = h.long in omega arith }

  bracket_is : (a b : Tree Num) (x y z : List Num) → Stands T is_field n (value_in (in_field T.kind a)) x →
      Stands T is_field n (value_in (in_field T.kind b)) y → bracket_of T x y ≡ Ok z →
      Stands T is_field n (bracket (field_of T.kind) (table_in T.kind T) (value_in (in_field T.kind a)) (value_in (in_field T.kind b))) z
  bracket_is a b x y z h k e =
      same T is_field n _ _ z (ap₂ (bracket (field_of T.kind) (table_in T.kind T)) h.vector k.vector)
      (bracket_reads T is_field rows x y z (is_row _ x h) (is_row _ y k) e)

  sum_is : (e : Tree Num) (w : Vector (field_of T.kind)) (v x z : List Num) → Stands T is_field n w v →
      Stands T is_field n (value_in (in_field T.kind e)) x → add_row T.kind v x ≡ Ok z →
      Stands T is_field n (vplus (field_of T.kind) w (value_in (in_field T.kind e))) z
  sum_is e w v x z h k f =
      same T is_field n _ _ z (ap (vplus (field_of T.kind) w) k.vector)
      (add_row_reads T.kind (field_of T.kind) (number_of T.kind) (reads T is_field) (units T is_field) n w v x z h k.elements (let l = k.long in omega arith) f)

  mutual
    unfolding val

    pub value_reads : (e : Tree Num) → IsWithin T.kind (length T.generators) e → (v : List Num) → value_of T e ≡ Ok v →
        Stands T is_field n (value_in (in_field T.kind e)) v
    value_reads (gen g) h v f =
        by_light (gen g) (is_light T (gen g)) h refl (add_row T.kind (zero_row n) (image_row T (g - 1))) v f
        (λ e. let i = rows.images (g - 1) (let l = h.0 in let m = h.1 in omega arith) in
        same T is_field n _ _ v (vzero-vplus (field_of T.kind) _)
        (add_row_reads T.kind (field_of T.kind) (number_of T.kind) (reads T is_field) (units T is_field) n (vzero (field_of T.kind)) (zero_row n)
        (image_row T (g - 1)) v zero_reads i.elements i.short e))
    value_reads none h v f = subst (Stands T is_field n _) (ok_same f) zero_reads
    value_reads (sum_of es) h v f =
        by_light (sum_of es) (is_light T (sum_of es)) h refl (values_of T es (zero_row n)) v f
        (λ e. same T is_field n _ _ v (vzero-vplus (field_of T.kind) _) (values_read es h.1 (vzero (field_of T.kind)) (zero_row n) v zero_reads e))
    value_reads (multiple c e) h v f =
        by_light (multiple c e) (is_light T (multiple c e)) h refl (and_then (scale_of T.kind c) (value_of T e)) v f
        (λ k. let x = first_fits (scale_of T.kind c) (value_of T e) v k in
        scale_reads T.kind (field_of T.kind) (number_of T.kind) (reads T is_field) (units T is_field) n (value_in (in_field T.kind e)) x.0 v c
        (value_reads e h.1 x.0 x.1.0) h.0 x.1.1)
    value_reads (br a b) h v f =
        by_light (br a b) (is_light T (br a b)) h refl (and_then (λ x. and_then (λ y. bracket_of T x y) (value_of T b)) (value_of T a)) v f
        (λ k.
        let x = first_fits (λ x. and_then (λ y. bracket_of T x y) (value_of T b)) (value_of T a) v k in
        let y = first_fits (λ y. bracket_of T x.0 y) (value_of T b) v x.1.1 in
        bracket_is a b x.0 y.0 v (value_reads a h.0 x.0 x.1.0) (value_reads b h.1 y.0 y.1.0) y.1.1)

    pub values_read : (es : Trees Num) → AreWithin T.kind (length T.generators) es → (w : Vector (field_of T.kind)) (v z : List Num) →
        Stands T is_field n w v → values_of T es v ≡ Ok z →
        Stands T is_field n (vplus (field_of T.kind) w (vals (field_of T.kind) (table_in T.kind T) (all_in_field T.kind es))) z
    values_read end h w v z k f = subst (Stands T is_field n _) (ok_same f) (same T is_field n _ _ v (sym (vplus-vzero (field_of T.kind) w)) k)
    values_read (more e es) h w v z k f =
        let x = first_fits (λ x. and_then (λ w. values_of T es w) (add_row T.kind v x)) (value_of T e) z f in
        let y = first_fits (λ w. values_of T es w) (add_row T.kind v x.0) z x.1.1 in
        same T is_field n _ _ z (vplus_assoc (field_of T.kind) _ _ _)
        (values_read es h.1 (vplus (field_of T.kind) w (value_in (in_field T.kind e))) y.0 z (sum_is e w v x.0 y.0 k (value_reads e h.0 x.0 x.1.0) y.1.0) y.1.1)
