-- The matrices of all expressions of a weight are spanned by those of the basis elements of that weight, which are among them.
use Rattle.std.specs.Prelude.{ℕ, zero, suc, ◌≡◌, ◌≢◌, ◌⊎◌, ◌+◌, ◌-◌, ◌*◌, ◌<◌, ◌≤◌, ◌↔◌, length, Bool, true, false, cond, nat_lt, nat_eq}
use mathlib.Core.Path.{sym, refl, ap, ◌∙◌, subst, fun_ext}
use mathlib.Core.Logic.{inl, inr}
use native.Mathlib.Omega.{arith}
use native.Mathlib.Decide.{dec_lt}
use Rattle.math_fields.specs.Field.{Field}
use Rattle.math_linear.specs.Vector.{Vector, vzero, vplus, scale}
use Rattle.math_linear.specs.Span.{Spanned}
use Rattle.math_linear.specs.Span.Spanned.{span_kind, span_none, span_sum, span_multiple}
use Rattle.math_linear.proofs.Numbers.{times-nought}
use Rattle.math_linear.proofs.Span.{spanned_through}
use Rattle.math_algebra.specs.Tree.{Presentation, generator, IsOver}
use Rattle.math_algebra.specs.Degrees.{weight_of, exact, mixed, of_both, of_bracket, IsSoundPresentation, weight_of_both}
use Rattle.math_algebra.specs.Derives.{Derives, Expression}
use Rattle.math_algebra.specs.Table.{Table, Symbol, weight_at, IsOf, val}
use Rattle.math_algebra.specs.Symbols.{symbol_at, symbol_tree, IsSymbol}
use Rattle.math_algebra.specs.Symbols.IsSymbol.{is_generator, is_pair}
use Rattle.math_algebra.specs.Standard.{combined, IsStandard, IsStandardNext}
use Rattle.math_algebra.specs.Standard.IsStandard.{standard_start, standard_next}
use Rattle.math_algebra.proofs.Degrees.{WeightMeans, weight_means}
use Rattle.math_algebra.proofs.Equations.{sound_homogeneous}
use Rattle.math_values.proofs.SymbolLists.{place_symbol}
use Rattle.math_values.proofs.Relations.{val_of}
use Rattle.math_standard.proofs.BuiltFacts.{built_whole}
use Rattle.math_theorems.proofs.StandardLaws.{standard_is_built, standard_is_sound}
use Rattle.math_theorems.proofs.ValueLaws.{weight_bounds_top}
use Rattle.math_matrices.specs.Matrices.{Matrix, mzero, mplus, mscale, HasBlock, matrix_of, Respects}
use Rattle.math_matrices.specs.Ranks.{flat, IsMatrixOfWeight, IsMatrixOfBasis}
use Rattle.math_matrices.proofs.Products.{mplus-mzero, mscale-nought}
use Rattle.math_matrices.proofs.Main.{matrices_respect}

module _ (K : Field) (n : ℕ) where
  of_zero : flat K n (mzero K) ≡ vzero K
  unfolding flat mzero vzero
  of_zero = fun_ext (λ s. always (nat_lt s (n * n)))
    where
      always : (b : Bool) → cond b K.nought K.nought ≡ K.nought
      always true = refl
      always false = refl

  of_plus : (x y : Matrix K) → flat K n (mplus K x y) ≡ vplus K (flat K n x) (flat K n y)
  unfolding flat mplus vplus
  of_plus x y = fun_ext (λ s. by_test (nat_lt s (n * n)) _ _)
    where
      by_test : (b : Bool) (a c : K.Carrier) → cond b (K.plus a c) K.nought ≡ K.plus (cond b a K.nought) (cond b c K.nought)
      by_test true a c = refl
      by_test false a c = sym (K.plus-nought _)

  of_times : (c : K.Carrier) (x : Matrix K) → flat K n (mscale K c x) ≡ scale K c (flat K n x)
  unfolding flat mscale scale
  of_times c x = fun_ext (λ s. by_test (nat_lt s (n * n)) _)
    where
      by_test : (b : Bool) (a : K.Carrier) → cond b (K.times c a) K.nought ≡ K.times c (cond b a K.nought)
      by_test true a = refl
      by_test false a = sym (times-nought K c)

module _ (K : Field) (T : Table K) (tree : ℕ → Expression K) (m n : ℕ) (image : ℕ → Matrix K) (w : ℕ) where
  abbrev Basis : Vector K → Type 0
  Basis = IsMatrixOfBasis K T tree m n image w

  -- a combination of the trees of weight w
  combined_spanned : (count : ℕ) (v : Vector K) → count ≤ length T.basis → IsOf K T w v →
      Spanned K Basis (flat K n (matrix_of K m n image (combined K tree count v)))
  unfolding combined matrix_of
  combined_spanned zero v l h = subst (Spanned K Basis) (sym (of_zero K n)) span_none
  combined_spanned (suc count) v l h =
      subst (Spanned K Basis)
      (sym (ap (flat K n) (ap (mplus K (matrix_of K m n image (combined K tree count v))) (mplus-mzero K _)) ∙ of_plus K n _ _))
      (span_sum _ _ (combined_spanned count v (omega arith) h) (last (h count)))
    where
      last : (v count ≡ K.nought) ⊎ ((count < length T.basis) × (weight_at T count ≡ w)) →
          Spanned K Basis (flat K n (mscale K (v count) (matrix_of K m n image (tree count))))
      last (inl e) =
          subst (Spanned K Basis)
          (sym (ap (λ c. flat K n (mscale K c (matrix_of K m n image (tree count)))) e ∙ ap (flat K n) (mscale-nought K _) ∙ of_zero K n)) span_none
      last (inr p) =
          subst (Spanned K Basis) (sym (of_times K n _ _))
          (span_multiple (v count) _ (span_kind _ (record { element = count; there = p.0; weight = p.1; numbers = refl })))

-- the weight of a basis element's expression
module _ (K : Field) (P : Presentation K.Carrier) where
  symbol_weight : (T : Table K) (tree : ℕ → Expression K) → ((i : ℕ) → i < length T.basis → weight_of P (tree i) ≡ exact (weight_at T i)) →
      (x : Symbol) → IsSymbol P T x → weight_of P (symbol_tree tree x) ≡ exact (suc T.weight)
  unfolding weight_of
  symbol_weight T tree old x (is_generator g l e) = ap exact e
  symbol_weight T tree old x (is_pair i j l k e r) =
      ap (λ a. of_bracket (λ a b. a + b) a (weight_of P (tree j))) (old i l) ∙ ap (of_bracket (λ a b. a + b) (exact (weight_at T i))) (old j k) ∙ ap exact e

  next_weight : (T T' : Table K) (tree tree' : ℕ → Expression K) → IsStandardNext K P T T' tree tree' →
      ((i : ℕ) → i < length T.basis → weight_of P (tree i) ≡ exact (weight_at T i)) →
      (i : ℕ) → i < length T'.basis → weight_of P (tree' i) ≡ exact (weight_at T' i)
  next_weight T T' tree tree' h old i l = go (dec_lt i (length T.basis))
    where
      fresh : (j : ℕ) → j < h.count → weight_of P (tree' (length T.basis + j)) ≡ exact (weight_at T' (length T.basis + j))
      fresh j k =
          ap (weight_of P) (h.new_tree j k)
          ∙ symbol_weight T tree old (symbol_at P T (h.slot j)) (place_symbol K P T (h.slot j) (h.fresh.there j k).0)
          ∙ sym (ap (λ b. exact b.weight) (h.basis.added j k))

      go : Dec (i < length T.basis) → weight_of P (tree' i) ≡ exact (weight_at T' i)
      go (yes a) = ap (weight_of P) (h.old_tree i a) ∙ old i a ∙ sym (ap (λ b. exact b.weight) (h.basis.old i a))
      go (no a) =
          let e : i ≡ length T.basis + (i - length T.basis) = omega arith in
          let k : i - length T.basis < h.count = omega (arith, h.basis.more) in
          subst (λ t. weight_of P (tree' t) ≡ exact (weight_at T' t)) (sym e) (fresh (i - length T.basis) k)

  tree_weight : (T : Table K) (tree : ℕ → Expression K) → IsStandard K P T tree → (i : ℕ) → i < length T.basis → weight_of P (tree i) ≡ exact (weight_at T i)
  tree_weight T tree (standard_start t e) i l = absurd (omega (arith, l, e.basis))
  tree_weight T' tree' (standard_next {T = T} {tree = tree} h next) i l = next_weight T T' tree tree' next (tree_weight T tree h) i l

module _ (K : Field) (P : Presentation K.Carrier) (s : IsSoundPresentation P) (T : Table K) (tree : ℕ → Expression K) (standard : IsStandard K P T tree) where
  value_of : (e : Expression K) (w : ℕ) → IsOver P e → weight_of P e ≡ exact w → IsOf K T w (val K T e)
  value_of e w o h =
      let whole = built_whole K P (sound_homogeneous P s) T (standard_is_built K P s T tree standard) in
      val_of K T P whole.facts.image_of whole.facts.entry_of (subst (λ d. WeightMeans P d e) h (weight_means P o))

  within : (e : Expression K) (w : ℕ) → IsOver P e → weight_of P e ≡ exact w → w ≤ T.weight → Derives K P e (combined K tree (length T.basis) (val K T e))
  within e w o h l =
      (standard_is_sound K P s T tree standard).expressions e o
      (let t = ((weight_bounds_top K P e e o o).0 w (both e w h)).0 in omega (arith, t))
    where
      same : (w : ℕ) (b : Bool) → nat_eq w w ≡ b → cond b (exact w) mixed ≡ exact w
      same w true p = refl
      same w false p = absurd (let d : w ≢ w = grind arith in d refl)

      both : (e : Expression K) (w : ℕ) → weight_of P e ≡ exact w → weight_of_both P e e ≡ exact w
      both e w h = ap (λ d. of_both nat_eq d d) h ∙ same w (nat_eq w w) refl

  pub basis_spans_weight : (m n : ℕ) (image : ℕ → Matrix K) → ((g : ℕ) → g < length P.generators → HasBlock K m (generator P g).parity (image g)) →
      Respects K P m n image → (w : ℕ) → w ≤ T.weight → (v : Vector K) →
      Spanned K (IsMatrixOfWeight K P m n image w) v ↔ Spanned K (IsMatrixOfBasis K T tree m n image w) v
  basis_spans_weight m n image graded holds w l v = (spanned_through K _ _ each v, spanned_through K _ _ back v)
    where
      each : (u : Vector K) → IsMatrixOfWeight K P m n image w u → Spanned K (IsMatrixOfBasis K T tree m n image w) u
      each u h =
          subst (Spanned K (IsMatrixOfBasis K T tree m n image w))
          (sym (h.numbers ∙ ap (flat K n) (matrices_respect K P m n image graded holds h.expression _ (within h.expression w h.over h.weight l))))
          (combined_spanned K T tree m n image w (length T.basis) (val K T h.expression) (omega arith) (value_of h.expression w h.over h.weight))

      back : (u : Vector K) → IsMatrixOfBasis K T tree m n image w u → Spanned K (IsMatrixOfWeight K P m n image w) u
      back u h = span_kind u (record {
        expression = tree h.element;
        over = (standard_is_sound K P s T tree standard).over h.element h.there;
        weight = tree_weight K P T tree standard h.element h.there ∙ ap exact h.weight;
        numbers = h.numbers;
      })
