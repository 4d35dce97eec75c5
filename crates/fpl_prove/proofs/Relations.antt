-- A relation of the weight after a table's: its sides are due, and its row is that of its sides.
use Rattle.std.proofs.Common.{◌≡◌, ◌<◌, ◌≤◌, ◌+◌, ◌-◌, ◌^◌, ℕ, suc, List, [], true, length, map, get_or, refl, ap, ap₂, sym, subst, ◌∙◌, arith}
use Rattle.std.specs.Prelude.{sum, nat_le, nat_eq, Option, Some, None, slice_get}
use Rattle.std.proofs.lemmas.List.{get_or-map}
use Rattle.std.proofs.lemmas.List.Sums.{sum-map, get_or-le-sum_by}
use Rattle.std.proofs.lemmas.List.Elements.{All-get_or}
use Rattle.std.proofs.lemmas.Option.{get_or_from_slice_get, slice_get_within}
use Rattle.math_linear.specs.Vector.{vplus, scale}
use Rattle.fpl_numbers.specs.Kinds.{Number, field_of}
use Rattle.math_algebra.specs.Tree.{none, Generator}
use Rattle.math_algebra.specs.Symbols.{pair_number, generator_number}
use Rattle.math_algebra.specs.SourceRows.{row_of}
use Rattle.math_algebra.specs.Degrees.{exact, of_both, weight_of}
use Rattle.fpl_model.specs.declared.expr.Expr.{Expr}
use Rattle.fpl_model.specs.declared.presentation.Equation.{Equation}
use Rattle.fpl_model.specs.declared.presentation.Presentation.{Presentation}
use Rattle.fpl_model.specs.Meaning.{plain, tree_in, generators_in, equation_in, presentation_in}
use Rattle.fpl_model.specs.Sound.{IsSound, IsSoundEquation, count_equation}
use Rattle.fpl_model.proofs.Terms.{term_within}
use Rattle.fpl_log.specs.declared.step.Origin.TheVariants.{Relation}
use Rattle.fpl_table.specs.Plain.{PlainTable, table_in, shell_in}
use Rattle.fpl_rewrite.specs.Origins.{relation_weight}
use Rattle.plain_sources.proofs.Listed.{exactly_is}
use Rattle.plain_sources.proofs.Sources.{weight_same}
use Rattle.fpl_check.specs.Steps.{weighs_next, is_relation}
use Rattle.fpl_check.proofs.Loops.{both_true, is_most}
use Rattle.fpl_facts.specs.Axioms.{no_equation, relation_at}
use Rattle.fpl_table_facts.specs.Known.{is_next, weight_in}
use Rattle.fpl_table_facts.specs.Rows.{IsDue}
use Rattle.fpl_prove.specs.Zeros.{origin_vector}
use Rattle.fpl_prove.specs.Sides.{sides_row}
use Rattle.fpl_table_facts.proofs.Due.{first_of_both, second_of_both}

sum_at : (f : Equation → ℕ) (xs : List Equation) (i : ℕ) (d : Equation) → i < length xs → f (get_or xs i d) ≤ sum (map f xs)
sum_at f xs i d lt = subst (λ n. f (get_or xs i d) ≤ n) (sym (sum-map f xs)) (get_or-le-sum_by f xs i d lt)

-- what a relation of the next weight is
pub record IsRelationNext (p : Presentation) (T : PlainTable) (r : ℕ) : Type 0 where
  pub from : 1 ≤ r
  pub to : r ≤ length p.relations
  pub weight : relation_weight T (relation_at p r) ≡ exact (suc T.weight)

module _ (p : Presentation) (T : PlainTable) (r : ℕ) where
  by_place : (q : Option Equation) → slice_get p.relations (r - 1) ≡ q → 1 ≤ r → weighs_next T q ≡ true → IsRelationNext p T r
  by_place None e one w = absurd (let k : ⊥ = cc in k)
  by_place (Some q) e one w =
      let within = slice_get_within p.relations (r - 1) q e in
      let next : T.weight + 1 ≡ suc T.weight = omega arith in
      record {
        from = one;
        to = omega (arith, within, one);
        weight = ap (relation_weight T) (get_or_from_slice_get p.relations (r - 1) q no_equation e) ∙ exactly_is (T.weight + 1) (relation_weight T q) w ∙
            ap exact next;
      }

  pub relation_next : is_relation T p r ≡ true → IsRelationNext p T r
  relation_next e =
      let a = both_true (nat_le 1 r) (weighs_next T (slice_get p.relations (r - 1))) e in
      by_place (slice_get p.relations (r - 1)) refl (is_most 1 r a.0) a.1

  module _ (sound : IsSound p) (kind : T.kind ≡ p.field) (same : T.generators ≡ generators_in p) (h : IsRelationNext p T r) where
    abbrev q : Equation
    q = relation_at p r

    within : r - 1 < length p.relations
    within = let f = h.from in let t = h.to in omega (arith, f, t)

    holds : IsSoundEquation p (relation_at p r)
    holds = All-get_or (IsSoundEquation p) p.relations (r - 1) no_equation within sound.relations

    weight_here : (e : Expr) → weight_of (shell_in T.kind T) (tree_in T.kind e) ≡ weight_in p e
    weight_here e =
        subst (λ k. weight_of (shell_in k T) (tree_in k e) ≡ weight_in p e) (sym kind)
        (ap (λ (gs : List Generator). weight_of {N = Number p.field} (record { generators = gs; relations = [] }) (tree_in p.field e)) same ∙
        weight_same (generators_in p) [] (map (equation_in p.field) p.relations) (tree_in p.field e))

    both : is_next T.weight (of_both nat_eq (weight_in p q.left) (weight_in p q.right)) ≡ true
    both =
        let e : of_both nat_eq (weight_in p q.left) (weight_in p q.right) ≡ exact (suc T.weight) =
        ap₂ (of_both nat_eq) (sym (weight_here q.left)) (sym (weight_here q.right)) ∙ h.weight in
        let t : is_next T.weight (exact (suc T.weight)) ≡ true = grind arith in
        ap (is_next T.weight) e ∙ t

    few : count_equation (relation_at p r) < 2 ^ 32
    few =
        let a = sum_at count_equation p.relations (r - 1) no_equation within in
        let b = sound.small in
        omega (arith, a, b)

    pub left_due : IsDue p T.weight q.left
    left_due = let f = few in record {
      over = term_within p.field (length p.generators) (plain q.left) holds.0.0;
      few = omega (arith, f);
      weight = first_of_both T.weight (weight_in p q.left) (weight_in p q.right) both;
    }

    pub right_due : IsDue p T.weight q.right
    right_due = let f = few in record {
      over = term_within p.field (length p.generators) (plain q.right) holds.1.0;
      few = omega (arith, f);
      weight = second_of_both T.weight (weight_in p q.left) (weight_in p q.right) both;
    }

    pub relation_vector : sides_row p T (relation_at p r).left (relation_at p r).right ≡ origin_vector p T (Relation r)
    relation_vector =
        let K = field_of p.field in
        let P = presentation_in p in
        let V = table_in p.field T in
        ap (λ x. vplus K (row_of K V (pair_number P V) (generator_number P V) x.0)
        (scale K (K.minus K.unit) (row_of K V (pair_number P V) (generator_number P V) x.1)))
        (sym (get_or-map (equation_in p.field) p.relations (r - 1) no_equation (none, none) within))
