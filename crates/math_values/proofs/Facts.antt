-- What is so of a table that was built through its weight, and what follows: the law of a table and soundness.
use Rattle.std.specs.Prelude.{ℕ, zero, suc, ◌≡◌, ◌⊎◌, ◌<◌, ◌≤◌, ◌+◌, length}
use mathlib.Core.Path.{refl, ap, ap₂}
use mathlib.Core.Logic.{inl, inr}
use native.Mathlib.Omega.{arith}
use Rattle.math_fields.specs.Field.{Field}
use Rattle.math_linear.specs.Vector.{Vector, vzero, vplus, scale, place, total}
use Rattle.math_algebra.specs.Tree.{IsOver, Tree, Trees, gen, bracket_of, odd, parity_sum, Presentation, generator, left, right}
use Rattle.math_algebra.specs.Degrees.{HasParity}
use Rattle.math_algebra.specs.Derives.{three, Expression}
use Rattle.math_algebra.proofs.Freely.{DerivesFreely}
use Rattle.math_algebra.proofs.Freely.DerivesFreely.{back, then}
use Rattle.math_algebra.specs.Table.{Table, product, parity_at, bracket, val, IsIn, IsOf, IsGraded, ObeysLaw, HasJacobi, weight_at}
use Rattle.math_algebra.proofs.Homogeneous.{WeightIs, WeightsAre, TopIs, TopsAre}
use Rattle.math_algebra.proofs.Homogeneous.WeightIs.{weight_void, weight_gen, weight_sum, weight_multiple, weight_bracket}
use Rattle.math_algebra.proofs.Homogeneous.WeightsAre.{weight_end, weight_more}
use Rattle.math_algebra.specs.Standard.{combined}
use Rattle.math_values.proofs.Soundness.{IsBelow, IsSound, expression_sound}
use Rattle.math_algebra.proofs.Homogeneous.TopIs.{top_void, top_gen, top_sum, top_multiple, top_bracket}
use Rattle.math_algebra.proofs.Homogeneous.TopsAre.{top_end, top_more}
use Rattle.math_linear.proofs.Vectors.{vplus-vzero}
use Rattle.math_values.proofs.Products.{bracket_places}
use Rattle.math_values.proofs.Parts.{product_exchange}
use Rattle.math_values.proofs.Symmetries.{at_triple}
use Rattle.math_values.proofs.Sound.{sound}
use Rattle.math_algebra.proofs.Derived.{of_path}

pub record Facts (K : Field) (P : Presentation K.Carrier) (T : Table K) (tree : ℕ → Expression K) : Type 0 where
  pub positive : (i : ℕ) → i < length T.basis → 0 < weight_at T i
  pub within : (i : ℕ) → i < length T.basis → weight_at T i ≤ T.weight
  pub image_of : (g : ℕ) → g < length P.generators → IsOf K T (generator P g).weight (T.image g)
  pub image_in : (g : ℕ) → g < length P.generators → IsIn K T (generator P g).parity (T.image g)
  pub entry_of : (i j : ℕ) → i < length T.basis → j < length T.basis → IsOf K T (weight_at T i + weight_at T j) (product K T i j)
  pub entry_in : (i j : ℕ) → i < length T.basis → j < length T.basis → IsIn K T (parity_sum (parity_at T i) (parity_at T j)) (product K T i j)
  pub jacobis : (i j k : ℕ) → i ≤ j → j ≤ k → k < length T.basis → HasJacobi K T i j k
  pub cubes : three K ≡ K.nought → (i : ℕ) → i < length T.basis → parity_at T i ≡ odd → bracket K T (place K i) (bracket K T (place K i) (place K i)) ≡ vzero K
  pub relations : (k : ℕ) → k < length P.relations → val K T (left P k) ≡ val K T (right P k)
  pub tree_over : (i : ℕ) → i < length T.basis → IsOver P (tree i)
  pub tree_parity : (i : ℕ) → i < length T.basis → HasParity P (tree i) (parity_at T i)
  pub tree_weight : (i : ℕ) → i < length T.basis → WeightIs P (tree i) (weight_at T i)
  pub tree_val : (i : ℕ) → i < length T.basis → val K T (tree i) ≡ place K i
  pub images : (g : ℕ) → g < length P.generators → (generator P g).weight ≤ T.weight → DerivesFreely K P (gen g) (combined K tree (length T.basis) (T.image g))
  pub entries : (i j : ℕ) → i < length T.basis → j < length T.basis → weight_at T i + weight_at T j ≤ T.weight →
      DerivesFreely K P (bracket_of (tree i) (tree j)) (combined K tree (length T.basis) (product K T i j))

mutual
  pub weight_top : {N : Type 0} {P : Presentation N} {e : Tree N} {d : ℕ} → WeightIs P e d → TopIs P e d
  weight_top (weight_void d h) = top_void d h
  weight_top (weight_gen g l) = top_gen g _ l (omega arith)
  weight_top (weight_sum h) = top_sum (weights_tops h)
  weight_top (weight_multiple h) = top_multiple (weight_top h)
  weight_top (weight_bracket h k) = top_bracket (weight_top h) (weight_top k) (omega arith)

  pub weights_tops : {N : Type 0} {P : Presentation N} {es : Trees N} {d : ℕ} → WeightsAre P es d → TopsAre P es d
  weights_tops weight_end = top_end
  weights_tops (weight_more h k) = top_more (weight_top h) (weights_tops k)

pub of_below : (K : Field) (T : Table K) (d : ℕ) (x : Vector K) → IsOf K T d x → IsBelow K T d x
of_below K T d x h i = go (h i)
  where
    go : (x i ≡ K.nought) ⊎ ((i < length T.basis) × (weight_at T i ≡ d)) → (x i ≡ K.nought) ⊎ ((i < length T.basis) × (weight_at T i ≤ d))
    go (inl e) = inl e
    go (inr f) = inr (f.0, (let g = f.1 in omega arith))

pub of_short : (K : Field) (T : Table K) (d : ℕ) (x : Vector K) → IsOf K T d x → (k : ℕ) → length T.basis ≤ k → x k ≡ K.nought
of_short K T d x h k l = go (h k)
  where
    go : (x k ≡ K.nought) ⊎ ((k < length T.basis) × (weight_at T k ≡ d)) → x k ≡ K.nought
    go (inl e) = e
    go (inr f) = absurd (omega (arith, f.0))

-- the value of a combination
pub val_combined : (K : Field) (T : Table K) (tree : ℕ → Expression K) (n : ℕ) (v : Vector K) →
    val K T (combined K tree n v) ≡ total K n (λ i. scale K (v i) (val K T (tree i)))
unfolding val combined total
val_combined K T tree zero v = refl
val_combined K T tree (suc n) v = ap₂ (vplus K) (val_combined K T tree n v) (vplus-vzero K _)

module _ (K : Field) (P : Presentation K.Carrier) (T : Table K) (tree : ℕ → Expression K) (facts : Facts K P T tree) where
  pub graded : IsGraded K T
  graded = record { entry_in = facts.entry_in }

  pub obeys : ObeysLaw K P T
  obeys = record {
    graded = graded;
    image_in = facts.image_in;
    entry_of = facts.entry_of;
    image_of = facts.image_of;
    exchanges = λ i j l m. rw (bracket_places K T i j l m, bracket_places K T j i m l) (product_exchange K T i j);
    jacobis = at_triple K T graded facts.jacobis;
    cubes = facts.cubes;
    relations = facts.relations;
  }

  pub is_sound : IsSound K P T tree
  is_sound = record {
    images = facts.images;
    entries = facts.entries;
    image_below = λ g l. of_below K T _ _ (facts.image_of g l);
    entry_below = λ i j l m. of_below K T _ _ (facts.entry_of i j l m);
  }

  -- what is derivably equal has one value
  pub one_value : (e f : Expression K) → DerivesFreely K P e f → val K T e ≡ val K T f
  one_value e f h = sound K P T obeys h

  -- what has one value is derivably equal, within the table's weight
  pub same_derived : (e f : Expression K) → TopIs P e T.weight → TopIs P f T.weight → val K T e ≡ val K T f → DerivesFreely K P e f
  same_derived e f t u h =
      then (expression_sound K P T tree is_sound t (omega arith))
      (then (of_path K P _ _ (ap (combined K tree (length T.basis)) h)) (back (expression_sound K P T tree is_sound u (omega arith))))

  pub below : (e : Tree K.Carrier) (d : ℕ) → WeightIs P e d → d ≤ T.weight → DerivesFreely K P e (combined K tree (length T.basis) (val K T e))
  below e d h m = expression_sound K P T tree is_sound (weight_top h) m
