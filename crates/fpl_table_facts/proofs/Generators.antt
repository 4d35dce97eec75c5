-- A generator whose weight a table reaches stands among the symbols of its weight.
use Rattle.std.proofs.Common.{◌≡◌, ◌<◌, ◌≤◌, ◌-◌, ℕ, List, length, map, get_or, ap, sym, ◌∙◌, arith}
use Rattle.std.proofs.lemmas.List.{get_or-map, length-map}
use Rattle.math_algebra.specs.Tree.{no_generator}
use Rattle.math_algebra.specs.Table.{of_generator}
use Rattle.math_algebra.specs.Symbols.{place_of}
use Rattle.fpl_model.specs.declared.presentation.Generator.{Generator}
use Rattle.fpl_model.specs.declared.presentation.Presentation.{Presentation}
use Rattle.fpl_model.specs.Meaning.{generator_in, generators_in}
use Rattle.fpl_table.specs.Plain.{PlainTable, generator_at}
use Rattle.fpl_table.specs.Shape.{HasShape}
use Rattle.fpl_table_facts.proofs.Listed.{level_symbols, generator_listed}
use Rattle.fpl_table_facts.proofs.Reached.{IsGeneratorReached}

module _ (p : Presentation) (T : PlainTable) (shape : HasShape T) (same : T.generators ≡ generators_in p) (gs : List Generator) (is : gs ≡ p.generators)
    (g : ℕ) (d : Generator) (r : IsGeneratorReached p T.weight g) where
  abbrev weight : ℕ
  weight = (get_or gs (g - 1) d).weight

  here : g - 1 < length gs
  here = let e : length gs ≡ length p.generators = ap length is in let f = r.from in let t = r.to in omega (arith, e, f, t)

  at : generator_at T (g - 1) ≡ generator_in (get_or gs (g - 1) d)
  at =
      ap (λ hs. get_or hs (g - 1) no_generator) (same ∙ ap (map generator_in) (sym is)) ∙ get_or-map generator_in gs (g - 1) d no_generator here

  inside : g - 1 < length T.generators
  inside =
      let e : length T.generators ≡ length gs = ap length (same ∙ ap (map generator_in) (sym is)) ∙ length-map gs generator_in in
      let h = here in omega (arith, e, h)

  pub generator_within : (1 ≤ weight) × (weight ≤ T.weight)
  generator_within =
      let e : (generator_at T (g - 1)).weight ≡ weight = ap (λ x. x.weight) at in
      let s = (shape.weights (g - 1) inside).0 in
      let most : (generator_at T (g - 1)).weight ≤ T.weight =
      (let f = ap (λ gs. (get_or gs (g - 1) no_generator).weight) same in let m = r.weight in omega (arith, f, m)) in
      (omega (arith, e, s), omega (arith, e, most))

  pub generator_there : place_of (of_generator (g - 1)) (level_symbols T weight) < length (level_symbols T weight)
  generator_there = generator_listed T (g - 1) weight inside (ap (λ x. x.weight) at) generator_within.0
