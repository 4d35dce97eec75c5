-- Which expressions a table gives a value, by the presentation's weights.
use Rattle.std.proofs.Common.{◌≡◌, ◌≤◌, ◌+◌, ◌-◌, ℕ, List, get_or, nat_eq, true, refl, ap, ap₂, sym, ◌∙◌, arith}
use Rattle.std.proofs.lemmas.Bool.Decides.{nat_tests}
use Rattle.fpl_numbers.specs.declared.number.Num.{Num}
use Rattle.fpl_numbers.specs.declared.number.Kind.{Kind}
use Rattle.fpl_numbers.specs.Kinds.{Number}
use Rattle.math_algebra.specs.Tree.{Tree, Trees, gen, none, sum_of, multiple, bracket_of, end, more, Generator, no_generator, Presentation}
use Rattle.math_algebra.specs.Degrees.{Degree, any, exact, of_both, of_bracket, weight_of, weights_of}
use Rattle.fpl_model.specs.declared.presentation.Presentation as declared
use Rattle.fpl_model.specs.Meaning.{in_field, all_in_field, presentation_in}
use Rattle.fpl_table.specs.Plain.{PlainTable, generator_at, shell_in}
use Rattle.fpl_table.specs.Shape.{Agrees}
use Rattle.fpl_table.specs.Value.{is_light, is_weight_light}

mutual
  weighs : List Generator → Tree Num → Degree ℕ
  weighs gs (gen g) = exact (get_or gs (g - 1) no_generator).weight
  weighs gs none = any
  weighs gs (sum_of es) = weigh gs es
  weighs gs (multiple c e) = weighs gs e
  weighs gs (bracket_of a b) = of_bracket (λ m n. m + n) (weighs gs a) (weighs gs b)

  weigh : List Generator → Trees Num → Degree ℕ
  weigh gs end = any
  weigh gs (more e es) = of_both nat_eq (weighs gs e) (weigh gs es)

module _ (k : Kind) (P : Presentation (Number k)) where
  mutual
    unfolding weight_of weighs

    weighs_same : (t : Tree Num) → weight_of P (in_field k t) ≡ weighs P.generators t
    weighs_same (gen g) = refl
    weighs_same none = refl
    weighs_same (sum_of es) = weigh_same es
    weighs_same (multiple c e) = weighs_same e
    weighs_same (bracket_of a b) = ap₂ (of_bracket (λ m n. m + n)) (weighs_same a) (weighs_same b)

    weigh_same : (es : Trees Num) → weights_of P (all_in_field k es) ≡ weigh P.generators es
    weigh_same end = refl
    weigh_same (more e es) = ap₂ (of_both nat_eq) (weighs_same e) (weigh_same es)

pub light_by : (T : PlainTable) (p : declared.Presentation) (t : Tree Num) → Agrees T p → is_light T t ≡
    is_weight_light T.weight (weight_of (presentation_in p) (in_field p.field t))
light_by T p t agrees =
    ap (is_weight_light T.weight) (weighs_same T.kind (shell_in T.kind T) t ∙ ap (λ gs. weighs gs t) agrees.1 ∙ sym (weighs_same p.field (presentation_in p) t))

pub light_generator : (T : PlainTable) (g : ℕ) → is_light T (gen g) ≡ true → (generator_at T (g - 1)).weight ≤ T.weight
unfolding weight_of
light_generator T g is = grind (arith, nat_tests)
