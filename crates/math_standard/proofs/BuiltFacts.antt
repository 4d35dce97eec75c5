-- Built tables have the facts, and meet the definition of the standard basis.
use Rattle.std.specs.Prelude.{ℕ, suc, ◌≡◌, ◌≢◌, ◌⊎◌, ◌<◌, ◌≤◌, ◌+◌, ◌-◌, length, cond, nat_lt, Some}
use mathlib.Core.Path.{sym, refl, ap, ap₂, ◌∙◌, fun_ext, subst}
use mathlib.Core.Logic.{inl, inr}
use native.Mathlib.Omega.{arith}
use Rattle.math_fields.specs.Field.{Field}
use Rattle.math_linear.specs.Vector.{Vector, vzero, scale}
use Rattle.math_algebra.specs.Tree.{none, multiple, bracket_of, Presentation, generator, IsOver}
use Rattle.math_algebra.specs.Tree.IsOver.{over_gen, over_bracket}
use Rattle.math_algebra.proofs.Within.{derives_within, within_derives, combined_over}
use Rattle.math_standard.proofs.NextTrees.{symbols_over, tree_next, tree_old, tree_new}
use Rattle.math_standard.proofs.NextSound.{facts_next, value_is, row_none, free_place, outer_regular}
use Rattle.math_algebra.proofs.Freely.{DerivesFreely}
use Rattle.math_algebra.specs.Derives.{Expression}
use Rattle.math_algebra.proofs.Freely.DerivesFreely.{same, back, then, multiple_unit}
use Rattle.math_algebra.specs.Table.{Table, product, val, IsIn, IsOf, weight_at, IsRegular}
use Rattle.math_algebra.specs.Extending.{IsEmpty}
use Rattle.math_algebra.specs.Built.{meaning_of, slot_of, IsNext, Built}
use Rattle.math_algebra.specs.Standard.{combined, IsCombination, IsStandardNext, IsStandard}
use Rattle.math_algebra.specs.Symbols.{symbols, symbol_at, pair_number, symbol_tree}
use Rattle.math_algebra.proofs.Homogeneous.{IsHomogeneous}
use Rattle.math_algebra.specs.Built.Built.{built_start, built_next}
use Rattle.math_algebra.specs.Standard.IsStandard.{standard_start, standard_next}
use Rattle.math_algebra.proofs.Derived.{of_path, both, both_same, both_comm, both_assoc, both_none, none_both, combined_scale, combined_below}
use Rattle.math_values.proofs.Parts.{in_vzero}
use Rattle.math_values.proofs.Relations.{of_vzero, val_of}
use Rattle.math_values.proofs.Sources.{less_none}
use Rattle.math_values.proofs.Steps.{product_filled}
use Rattle.math_linear.proofs.Closed.{find_pivot}
use Rattle.math_values.proofs.Weights.{standard}
use Rattle.math_values.proofs.Facts.{Facts, one_value, of_short}
use Rattle.math_standard.proofs.NewPlaces.{slot_new, longer}
use Rattle.math_standard.proofs.Next.{linear, step, meaning_weight}

module _ (K : Field) (P : Presentation K.Carrier) where
  -- B ~ -A where A + B ~ 0
  pub other_side : (a b : Expression K) → DerivesFreely K P (both K P a b) none → DerivesFreely K P b (multiple (K.minus K.unit) a)
  other_side a b h =
      then (back (both_none K P b))
      (then (both_same K P same (back (less_none K P a)))
      (then (back (both_assoc K P b a (multiple (K.minus K.unit) a))) (then (both_same K P (then (both_comm K P b a) h) same) (none_both K P _))))

  pub combined_suc : (tree : ℕ → Expression K) (n : ℕ) (v : Vector K) → combined K tree (suc n) v ≡ both K P (combined K tree n v) (multiple (v n) (tree n))
  unfolding combined
  combined_suc tree n v = refl

  -- a combination over the first s members, cut there
  pub cut : ℕ → Vector K → Vector K
  cut s u t = cond (nat_lt t s) (u t) K.nought

  cut_below : (s t : ℕ) (u : Vector K) → t < s → u t ≡ cut s u t
  unfolding cut
  cut_below s t u l = grind arith

  cut_past : (s t : ℕ) (u : Vector K) → s ≤ t → cut s u t ≡ K.nought
  unfolding cut
  cut_past s t u l = grind arith

  pub cut_combined : (tree : ℕ → Expression K) (s m : ℕ) (u : Vector K) → s ≤ m → DerivesFreely K P (combined K tree s u) (combined K tree m (cut s u))
  cut_combined tree s m u l =
      let e : m ≡ s + (m - s) = omega arith in
      then (of_path K P _ _ (combined_below K P tree s u (cut s u) (λ t h. cut_below s t u h)))
      (then (back (longer K P tree s (m - s) (cut s u) (λ t h. cut_past s t u h))) (of_path K P _ _ (ap (λ w. combined K tree w (cut s u)) (sym e))))

module _ (K : Field) (P : Presentation K.Carrier) (hom : IsHomogeneous P) (T : Table K) (empty : IsEmpty K P T) where
  nothing : {A : Type 0} (i : ℕ) → i < length T.basis → A
  nothing i l = absurd (omega (arith, l, empty.basis))

  all_zero : (d : ℕ) (x : Vector K) → IsOf K T d x → x ≡ vzero K
  unfolding vzero
  all_zero d x h = fun_ext (λ i. of_short K T d x h i (omega (arith, empty.basis)))

  image_zero : (g : ℕ) → g < length P.generators → IsOf K T (generator P g).weight (T.image g)
  image_zero g l = subst (IsOf K T (generator P g).weight) (sym (empty.images g l)) (of_vzero K T _)

  pub facts_start : (tree : ℕ → Expression K) → Facts K P T tree
  facts_start tree = record {
    positive = λ i l. nothing i l;
    within = λ i l. nothing i l;
    image_of = image_zero;
    image_in = λ g l. subst (IsIn K T (generator P g).parity) (sym (empty.images g l)) (in_vzero K T _);
    entry_of = λ i j l k. nothing i l;
    entry_in = λ i j l k. nothing i l;
    jacobis = λ i j k o o' l. nothing k l;
    cubes = λ c i l o. nothing i l;
    relations = λ k l.
        let w = hom.weights k l in
        all_zero w.0 _ (val_of K T P image_zero (λ i j l k. nothing i l) w.1) ∙ sym (all_zero w.0 _ (val_of K T P image_zero (λ i j l k. nothing i l) w.2));
    tree_over = λ i l. nothing i l;
    tree_parity = λ i l. nothing i l;
    tree_weight = λ i l. nothing i l;
    tree_val = λ i l. nothing i l;
    images = λ g l w. absurd (omega (arith, w, hom.positive g l, empty.weight));
    entries = λ i j l k w. nothing i l;
  }

module _ (K : Field) (P : Presentation K.Carrier) (hom : IsHomogeneous P) (T T' : Table K) (tree : ℕ → Expression K) (facts : Facts K P T tree)
    (next : IsNext K P T T') where
  abbrev m : ℕ
  m = length (symbols P T)

  abbrev n : ℕ
  n = length T.basis

  abbrev symbol' : ℕ → Expression K
  symbol' s = symbol_tree tree (symbol_at P T s)

  abbrev tree' : ℕ → Expression K
  tree' = tree_next K P hom T T' tree facts next

  abbrev facts' : Facts K P T' tree'
  facts' = facts_next K P hom T T' tree facts next

  -- a symbol that is no pivot is no combination of smaller symbols
  free_apart : (s : ℕ) → s < m → ((i : ℕ) → i < next.number_of_rows → next.pivot i ≢ s) → IsCombination K P T tree s → ⊥
  free_apart s l free c =
      standard K P symbol' m tree' (length T'.basis) next.number_of_rows next.row next.pivot next.form.closed (slot_of n next.count next.slot)
      (row_none K P hom T T' tree facts next) next.form.ends (free_place K P hom T T' tree facts next)
      (val K T') (one_value K P T' tree' facts') (value_is K P hom T T' tree facts next)
      (λ s l h. let f = next.free.all s l h in (n + f.0, slot_new n next.count next.slot f.0 f.1 ∙ ap Some f.2))
      s l free (cut K P s c.what) (λ t h. cut_past K P s t c.what h)
      (then (within_derives K P c.equal) (cut_combined K P symbol' s m c.what (omega arith)))

  -- a pivot is one
  pivot_combination : (i : ℕ) → i < next.number_of_rows → next.pivot i < m → IsCombination K P T tree (next.pivot i)
  pivot_combination i l h = record {
    what = scale K (K.minus K.unit) (next.row i);
    equal =
        derives_within K P hom.over _ _ (symbols_over K P hom T T' tree facts next (next.pivot i) h)
        (combined_over K P symbol' (next.pivot i) _ (λ s l. symbols_over K P hom T T' tree facts next s (omega arith)))
        (then (then (back (multiple_unit (symbol' (next.pivot i)))) (other_side K P _ _ zero_sum))
        (back (combined_scale K P symbol' (next.pivot i) (K.minus K.unit) (next.row i))));
  }
    where
      past : (s : ℕ) → suc (next.pivot i) ≤ s → next.row i s ≡ K.nought
      past s k = next.form.closed.above i s l (omega arith)

      shorter : DerivesFreely K P (combined K symbol' (suc (next.pivot i)) (next.row i)) none
      shorter =
          let e : suc (next.pivot i) + (m - suc (next.pivot i)) ≡ m = omega arith in
          then (back (longer K P symbol' (suc (next.pivot i)) (m - suc (next.pivot i)) (next.row i) past))
          (then (of_path K P _ _ (ap (λ w. combined K symbol' w (next.row i)) e)) (row_none K P hom T T' tree facts next i l))

      zero_sum : DerivesFreely K P (both K P (combined K symbol' (next.pivot i) (next.row i)) (multiple K.unit (symbol' (next.pivot i)))) none
      zero_sum =
          then
          (of_path K P _ _
          (ap (λ w. both K P (combined K symbol' (next.pivot i) (next.row i)) (multiple w (symbol' (next.pivot i)))) (sym (next.form.closed.leads i l))
          ∙ sym (combined_suc K P symbol' (next.pivot i) (next.row i))))
          shorter

  entry_means : (i j : ℕ) → i < n → j < n → IsRegular T i j → weight_at T i + weight_at T j ≡ suc T.weight → product K T' i j ≡ T'.entry i j
  entry_means i j l k r w =
      product_filled K T T' (pair_number P T) _ (linear K P hom T T' tree facts next) (step K P hom T T' tree facts next) i j l k w
      ∙ ap (meaning_of K (slot_of n next.count next.slot) next.number_of_rows next.row next.pivot)
      (outer_regular K P hom T T' tree facts next i j w r) ∙ sym (next.entries i j l k r w)

  pub standard_step : IsStandardNext K P T T' tree tree'
  standard_step = record {
    count = next.count;
    slot = next.slot;
    fresh = record {
      there = λ i l. let f = next.free.there i l in (f.0, free_apart (next.slot i) f.0 f.1);
      ascend = next.free.ascend;
      all = λ s l h. all_free s l h (find_pivot next.number_of_rows next.pivot s);
    };
    basis = next.basis;
    keeps = next.keeps;
    old_tree = tree_old K P hom T T' tree facts next;
    new_tree = λ i l. tree_new K P hom T T' tree facts next i;
    image_of = λ g l w. subst (IsOf K T' (suc T.weight)) (sym (next.images g l w)) (meaning_weight K P hom T T' tree facts next _);
    images = λ g l w. derives_within K P hom.over _ _ (over_gen g l) (trees_over _) (facts'.images g l (omega (arith, w, next.basis.weight)));
    entry_of = λ i j l k r w. subst (IsOf K T' (suc T.weight)) (sym (next.entries i j l k r w)) (meaning_weight K P hom T T' tree facts next _);
    entries = λ i j l k r w.
        derives_within K P hom.over _ _ (over_bracket (facts.tree_over i l) (facts.tree_over j k)) (trees_over _)
        (then (of_path K P _ _ (sym (ap₂ bracket_of (tree_old K P hom T T' tree facts next i l) (tree_old K P hom T T' tree facts next j k))))
        (then (facts'.entries i j (omega (arith, l, next.basis.more)) (omega (arith, k, next.basis.more)) (weights i j l k w))
        (of_path K P _ _ (ap (combined K tree' (length T'.basis)) (entry_means i j l k r w)))));
  }
    where
      trees_over : (v : Vector K) → IsOver P (combined K tree' (length T'.basis) v)
      trees_over v = combined_over K P tree' (length T'.basis) v facts'.tree_over

      weights : (i j : ℕ) → i < n → j < n → weight_at T i + weight_at T j ≡ suc T.weight → weight_at T' i + weight_at T' j ≤ T'.weight
      weights i j l k w = omega (arith, w, ap (λ b. b.weight) (next.basis.old i l), ap (λ b. b.weight) (next.basis.old j k), next.basis.weight)

      all_free : (s : ℕ) → s < m → (IsCombination K P T tree s → ⊥) → ((i : ℕ) × (i < next.number_of_rows) × (next.pivot i ≡ s)) ⊎
          ((i : ℕ) → i < next.number_of_rows → next.pivot i ≢ s) →
          (i : ℕ) × (i < next.count) × (next.slot i ≡ s)
      all_free s l h (inl f) = absurd (h (subst (IsCombination K P T tree) f.2 (pivot_combination f.0 f.1 (subst (λ w. w < m) (sym f.2) l))))
      all_free s l h (inr f) = next.free.all s l f

pub record Whole (K : Field) (P : Presentation K.Carrier) (T : Table K) : Type 0 where
  pub tree : ℕ → Expression K
  pub facts : Facts K P T tree
  pub standard : IsStandard K P T tree

-- every built table has the facts and is standard
pub built_whole : (K : Field) (P : Presentation K.Carrier) → IsHomogeneous P → (T : Table K) → Built K P T → Whole K P T
built_whole K P hom T (built_start e) = record { tree = λ i. none; facts = facts_start K P hom T e (λ i. none); standard = standard_start (λ i. none) e }
built_whole K P hom T' (built_next {T = T} b next) =
    let w = built_whole K P hom T b in
    record {
      tree = tree_next K P hom T T' w.tree w.facts next;
      facts = facts_next K P hom T T' w.tree w.facts next;
      standard = standard_next w.standard (standard_step K P hom T T' w.tree w.facts next);
    }
