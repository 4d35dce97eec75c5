-- The relations of a sound presentation, one after the other.
use Rattle.std.proofs.Common.{◌≡◌, ◌<◌, ◌≤◌, ◌+◌, ◌-◌, ◌^◌, ℕ, zero, suc, List, [], ◌∷◌, length, drop, get_or, map, true, false, Bool, cond, refl, sym, ap, ap₂, ◌∙◌, arith}
use Rattle.std.proofs.lemmas.Bool.Decides.{nat_tests}
use Rattle.std.proofs.lemmas.List.Sums.{sum-map, get_or-le-sum_by}
use Rattle.std.specs.Prelude.{nat_eq, sum}
use Rattle.fpl_numbers.specs.declared.number.Num.{Num}
use Rattle.fpl_numbers.specs.declared.number.Kind.{Kind}
use Rattle.fpl_numbers.specs.Kinds.{Number}
use Rattle.math_algebra.specs.Tree.{Tree, Trees, gen, none, sum_of, multiple, bracket_of, end, more, Presentation}
use Rattle.math_algebra.specs.Degrees.{weight_of, weights_of, weight_of_both, of_both, of_bracket}
use Rattle.fpl_model.specs.declared.presentation.Equation.{Equation}
use Rattle.fpl_model.specs.declared.presentation.Presentation as model
use Rattle.fpl_model.specs.Meaning.{plain, in_field, all_in_field, tree_in, presentation_in}
use Rattle.fpl_model.specs.Sound.{IsSound, count_tree, count_equation}
use Rattle.fpl_log.specs.declared.step.Origin.TheVariants.{Relation}
use Rattle.fpl_table.specs.Plain.{PlainTable}
use Rattle.fpl_table.specs.Shape.{Agrees}
use Rattle.fpl_rewrite.specs.Rows.{has_weight, counts, relation_row_of, equation_row}
use Rattle.fpl_model.specs.Degrees.{is_exactly}
use Rattle.fpl_rewrite.specs.Origins.{relation_weight, relations_from}

-- weights are those of the generators, whatever the numbers
mutual
  unfolding weight_of

  pub weight_alike : (k l : Kind) (P : Presentation (Number k)) (Q : Presentation (Number l)) → P.generators ≡ Q.generators → (t : Tree Num) →
      weight_of P (in_field k t) ≡ weight_of Q (in_field l t)
  weight_alike k l P Q same (gen g) = ap (λ gs. weight_of (record { generators = gs; relations = Q.relations }) (in_field l (gen g))) same
  weight_alike k l P Q same none = refl
  weight_alike k l P Q same (sum_of es) = weights_alike k l P Q same es
  weight_alike k l P Q same (multiple c t) = weight_alike k l P Q same t
  weight_alike k l P Q same (bracket_of a b) = ap₂ (of_bracket (λ v w. v + w)) (weight_alike k l P Q same a) (weight_alike k l P Q same b)

  weights_alike : (k l : Kind) (P : Presentation (Number k)) (Q : Presentation (Number l)) → P.generators ≡ Q.generators → (es : Trees Num) →
      weights_of P (all_in_field k es) ≡ weights_of Q (all_in_field l es)
  weights_alike k l P Q same end = refl
  weights_alike k l P Q same (more t es) = ap₂ (of_both nat_eq) (weight_alike k l P Q same t) (weights_alike k l P Q same es)

pub same_weight : (T : PlainTable) (p : model.Presentation) (q : Equation) → Agrees T p → weight_of_both (presentation_in p) (tree_in p.field q.left)
    (tree_in p.field q.right) ≡ relation_weight T q
same_weight T p q agrees =
    ap₂ (of_both nat_eq)
    (weight_alike p.field T.kind (presentation_in p) (record { generators = T.generators; relations = [] }) (sym agrees.1) (plain q.left))
    (weight_alike p.field T.kind (presentation_in p) (record { generators = T.generators; relations = [] }) (sym agrees.1) (plain q.right))

pub test_is : (T : PlainTable) (p : model.Presentation) (q : Equation) (w : ℕ) (b : Bool) → Agrees T p → w ≡ T.weight + 1 →
    b ≡ is_exactly w (weight_of_both (presentation_in p) (tree_in p.field q.left) (tree_in p.field q.right)) →
    is_exactly (suc T.weight) (relation_weight T q) ≡ b
test_is T p q w b agrees is e =
    let next : suc T.weight ≡ w = omega arith in
    ap (is_exactly (suc T.weight)) (sym (same_weight T p q agrees)) ∙
    ap (λ v. is_exactly v (weight_of_both (presentation_in p) (tree_in p.field q.left) (tree_in p.field q.right))) next ∙ sym e

-- one more relation
here : (T : PlainTable) (qs : List Equation) (at : ℕ) (q : Equation) → at < length qs → q ≡ get_or qs at q →
    is_exactly (suc T.weight) (relation_weight T q) ≡ true →
    (r : ℕ) → relations_from T r (drop at qs) ≡ Relation r ∷ relations_from T (r + 1) (drop (suc at) qs)
here T [] at q lt is e r = absurd (omega arith)
here T (x ∷ qs) zero q lt is e r = rw (← is, e) refl
here T (x ∷ qs) (suc at) q lt is e r = here T qs at q (omega arith) is e r

pub relation_here : (T : PlainTable) (qs : List Equation) (at : ℕ) (q : Equation) → at < length qs → q ≡ get_or qs at q →
    is_exactly (suc T.weight) (relation_weight T q) ≡ true →
    (r : ℕ) → relations_from T r (drop at qs) ≡ Relation r ∷ relations_from T (r + 1) (drop (at + 1) qs)
relation_here T qs at q lt is e r =
    let more : suc at ≡ at + 1 = omega arith in
    here T qs at q lt is e r ∙ ap (λ t. Relation r ∷ relations_from T (r + 1) (drop t qs)) more

not_here : (T : PlainTable) (qs : List Equation) (at : ℕ) (q : Equation) → at < length qs → q ≡ get_or qs at q →
    is_exactly (suc T.weight) (relation_weight T q) ≡ false →
    (r : ℕ) → relations_from T r (drop at qs) ≡ relations_from T (r + 1) (drop (suc at) qs)
not_here T [] at q lt is e r = absurd (omega arith)
not_here T (x ∷ qs) zero q lt is e r = rw (← is, e) refl
not_here T (x ∷ qs) (suc at) q lt is e r = not_here T qs at q (omega arith) is e r

pub relation_not : (T : PlainTable) (qs : List Equation) (at : ℕ) (q : Equation) → at < length qs → q ≡ get_or qs at q →
    is_exactly (suc T.weight) (relation_weight T q) ≡ false →
    (r : ℕ) → relations_from T r (drop at qs) ≡ relations_from T (r + 1) (drop (at + 1) qs)
relation_not T qs at q lt is e r =
    let more : suc at ≡ at + 1 = omega arith in
    not_here T qs at q lt is e r ∙ ap (λ t. relations_from T (r + 1) (drop t qs)) more

pub relations_end : (T : PlainTable) (qs : List Equation) (at r : ℕ) → length qs ≤ at → relations_from T r (drop at qs) ≡ []
relations_end T [] zero r le = refl
relations_end T [] (suc at) r le = refl
relations_end T (x ∷ qs) zero r le = absurd (omega arith)
relations_end T (x ∷ qs) (suc at) r le = let h : length qs ≤ at = omega arith in relations_end T qs at r h

-- a sound presentation is small
count_within : (qs : List Equation) (at : ℕ) (q : Equation) → at < length qs → q ≡ get_or qs at q → count_equation q ≤ sum (map count_equation qs)
count_within qs at q lt is =
    let h = get_or-le-sum_by count_equation qs at q lt in
    let e : count_equation q ≡ count_equation (get_or qs at q) = ap count_equation is in
    rw sum-map (omega (arith, h, e))

pub small_relation : (p : model.Presentation) (at : ℕ) (q : Equation) → IsSound p → at < length p.relations → q ≡ get_or p.relations at q →
    count_tree (plain q.left) + count_tree (plain q.right) < 2 ^ 40
small_relation p at q sound lt is = let h = count_within p.relations at q lt is in let s = sound.small in omega arith

pub counts_by : (T : PlainTable) (p : model.Presentation) (t : Tree Num) → Agrees T p → counts T t ≡
    has_weight (weight_of (presentation_in p) (in_field p.field t))
counts_by T p t agrees = ap has_weight (weight_alike T.kind p.field (record { generators = T.generators; relations = [] }) (presentation_in p) agrees.1 t)

not_one : (n : ℕ) → nat_eq (suc (suc n)) 1 ≡ false
not_one n = grind (arith, nat_tests)

row_at : (T : PlainTable) (qs : List Equation) (at : ℕ) (q : Equation) → at < length qs → q ≡ get_or qs at q → equation_row T qs (suc at) ≡ relation_row_of T q
row_at T [] at q lt is = absurd (omega arith)
row_at T (x ∷ qs) zero q lt is = ap (relation_row_of T) (sym is)
row_at T (x ∷ qs) (suc at) q lt is =
    let e : suc (suc at) - 1 ≡ suc at = omega arith in
    ap (λ b. cond b (relation_row_of T x) (equation_row T qs (suc (suc at) - 1))) (not_one at) ∙ ap (equation_row T qs) e ∙ row_at T qs at q (omega arith) is

pub relation_row_at : (T : PlainTable) (qs : List Equation) (r : ℕ) (q : Equation) → 1 ≤ r → r ≤ length qs → q ≡ get_or qs (r - 1) q →
    equation_row T qs r ≡ relation_row_of T q
relation_row_at T qs r q l m is = let e : r ≡ suc (r - 1) = omega arith in ap (equation_row T qs) e ∙ row_at T qs (r - 1) q (omega arith) is
