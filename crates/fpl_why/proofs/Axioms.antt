-- The two members that the Jacobi identity gives, relations, and expressions over the presentation.
use Rattle.std.proofs.Common.{◌≡◌, ◌≢◌, ◌<◌, ◌≤◌, ◌-◌, ℕ, Bool, true, false, ◌&&◌, nat_le, List, [], ◌∷◌, length, map, get_or, refl, ap, ap₂, sym, ◌∙◌, subst, arith}
use Rattle.std.proofs.lemmas.List.{get_or-map, length-map}
use Rattle.fpl_numbers.specs.declared.number.Num.{Num}
use Rattle.fpl_numbers.specs.declared.number.Kind.{Kind}
use Rattle.fpl_numbers.specs.Kinds.{field_of}
use Rattle.math_algebra.specs.Tree.{Tree, Trees, gen, none, sum_of, multiple, bracket_of, end, more, left, right, IsOver, AreOver}
use Rattle.math_algebra.specs.Tree.IsOver.{over_gen, over_none, over_sum, over_multiple, over_bracket}
use Rattle.math_algebra.specs.Tree.AreOver.{over_end, over_more}
use Rattle.math_algebra.specs.Derives.{Expression, sum_all}
use Rattle.fpl_model.specs.declared.expr.Expr.{Expr}
use Rattle.fpl_model.specs.declared.presentation.Presentation.{Presentation}
use Rattle.fpl_model.specs.declared.presentation.Equation.{Equation}
use Rattle.fpl_model.specs.Meaning.{plain, in_field, all_in_field, tree_in, trees_in, equation_in, generator_in, presentation_in}
use Rattle.fpl_model.specs.Sound.{IsTerm, AreTerms, IsSound, IsSoundEquation}
use Rattle.fpl_model.proofs.Terms.{term_within}
use Rattle.plain_proofs.specs.Checks.{same_tree, checks_relation}
use Rattle.fpl_why.proofs.Lists.{sum_same}
use Rattle.fpl_why.proofs.Moves.{sums_differ}

and_true : (b : Bool) → (b && true) ≡ b
and_true true = refl
and_true false = refl

and_none : (b : Bool) → (b && false) ≡ false
and_none true = refl
and_none false = refl

module _ (k : Kind) (X Y : Expression (field_of k)) where
  pub not_pair : (fs : List Expr) → length fs ≢ 2 → false ≡ same_tree (field_of k) (sum_all (field_of k) (X ∷ Y ∷ [])) (sum_of (trees_in k fs))
  not_pair fs d = sym (sums_differ k (X ∷ Y ∷ []) fs (λ e. d (sym e)))

  pub pair_told : (fs : List Expr) (x y : Expr) → length fs ≡ 2 → x ≡ get_or fs 0 x → y ≡ get_or fs 1 y →
      (same_tree (field_of k) X (tree_in k x) && same_tree (field_of k) Y (tree_in k y)) ≡
      same_tree (field_of k) (sum_all (field_of k) (X ∷ Y ∷ [])) (sum_of (trees_in k fs))
  pair_told [] x y l e g = absurd (omega (arith, l))
  pair_told (a ∷ []) x y l e g = absurd (omega (arith, l))
  pair_told (a ∷ b ∷ []) x y l e g =
      ap₂ (λ x y. same_tree (field_of k) X (tree_in k x) && same_tree (field_of k) Y (tree_in k y)) e g ∙
      ap (λ t. same_tree (field_of k) X (tree_in k a) && t) (sym (and_true (same_tree (field_of k) Y (tree_in k b)))) ∙
      sym (sum_same k 0 (X ∷ Y ∷ []) (a ∷ b ∷ []))
  pair_told (a ∷ b ∷ h ∷ fs) x y l e g = absurd (omega (arith, l))

module _ (p : Presentation) (m : ℕ) where
  relations_long : length (map (equation_in p.field) p.relations) ≡ length p.relations
  relations_long = length-map p.relations (equation_in p.field)

  pub no_relation_below : (e f : Expression (field_of p.field)) → m < 1 → false ≡ checks_relation (field_of p.field) (presentation_in p) m e f
  no_relation_below e f h =
      let fails : nat_le 1 m ≡ false = grind (arith, h) in
      sym (ap (λ b. b && nat_le m (length (presentation_in p).relations) && same_tree (field_of p.field) (left (presentation_in p) (m - 1)) e &&
      same_tree (field_of p.field) (right (presentation_in p) (m - 1)) f) fails)

  le_fails : (a b : ℕ) → b < a → nat_le a b ≡ false
  le_fails a b h = grind (arith, h)

  le_holds : (a b : ℕ) → a ≤ b → nat_le a b ≡ true
  le_holds a b h = grind (arith, h)

  pub no_relation_past : (e f : Expression (field_of p.field)) → length p.relations < m →
      false ≡ checks_relation (field_of p.field) (presentation_in p) m e f
  no_relation_past e f h =
      let fails = le_fails m _ (subst (λ n. n < m) (sym relations_long) h) in
      sym (ap (λ b. nat_le 1 m && b && same_tree (field_of p.field) (left (presentation_in p) (m - 1)) e &&
      same_tree (field_of p.field) (right (presentation_in p) (m - 1)) f) fails ∙
      ap (λ b. b && same_tree (field_of p.field) (left (presentation_in p) (m - 1)) e && same_tree (field_of p.field) (right (presentation_in p) (m - 1)) f)
      (and_none (nat_le 1 m)))

  module _ (q : Equation) (h : 1 ≤ m) (l : m ≤ length p.relations) (is : q ≡ get_or p.relations (m - 1) q) where
    at : m - 1 < length p.relations
    at = omega (arith, h, l)

    relation_is : get_or (map (equation_in p.field) p.relations) (m - 1) (none, none) ≡ equation_in p.field q
    relation_is = get_or-map (equation_in p.field) p.relations (m - 1) q (none, none) at ∙ ap (equation_in p.field) (sym is)

    pub relation_told : (e f : Expression (field_of p.field)) →
        (same_tree (field_of p.field) (tree_in p.field q.left) e && same_tree (field_of p.field) (tree_in p.field q.right) f) ≡
        checks_relation (field_of p.field) (presentation_in p) m e f
    relation_told e f =
        sym ((λ i. le_holds 1 m h i && le_holds m _ (subst (λ n. m ≤ n) (sym relations_long) l) i &&
        same_tree (field_of p.field) (relation_is i).0 e && same_tree (field_of p.field) (relation_is i).1 f))

    pub left_term : IsSound p → IsTerm p.field (length p.generators) (plain q.left)
    left_term s = term_within p.field (length p.generators) (plain q.left) (subst (IsSoundEquation p) (sym is) (s.relations (m - 1) q at)).0.0

    pub right_term : IsSound p → IsTerm p.field (length p.generators) (plain q.right)
    right_term s = term_within p.field (length p.generators) (plain q.right) (subst (IsSoundEquation p) (sym is) (s.relations (m - 1) q at)).1.0

module _ (p : Presentation) where
  mutual
    pub term_over : (t : Tree Num) → IsTerm p.field (length p.generators) t → IsOver (presentation_in p) (in_field p.field t)
    term_over (gen g) h =
        over_gen (g - 1) (subst (λ n. g - 1 < n) (sym (length-map p.generators generator_in)) (let a = h.0 in let b = h.1 in omega (arith, a, b)))
    term_over none h = over_none
    term_over (sum_of es) h = over_sum (terms_over es h)
    term_over (multiple c e) h = over_multiple (term_over e h.1)
    term_over (bracket_of a b) h = over_bracket (term_over a h.0) (term_over b h.1)

    terms_over : (es : Trees Num) → AreTerms p.field (length p.generators) es → AreOver (presentation_in p) (all_in_field p.field es)
    terms_over end h = over_end
    terms_over (more e es) h = over_more (term_over e h.0) (terms_over es h.1)
