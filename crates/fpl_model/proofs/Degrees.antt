-- Weights and parities of expressions, member by member.
use Rattle.std.proofs.Common.{◌≡◌, ◌<◌, ◌≤◌, ◌+◌, ◌*◌, ◌-◌, ◌^◌, ℕ, zero, suc, List, [], ◌∷◌, length, map, get_or, nat_eq, refl, ap, sym, arith}
use Rattle.fpl_numbers.specs.declared.number.Num.{Num}
use Rattle.fpl_numbers.specs.declared.number.Kind.{Kind}
use Rattle.fpl_numbers.specs.Kinds.{Number}
use Rattle.math_algebra.specs.Tree.{Tree, Trees, gen, none, sum_of, multiple, bracket_of, end, more, Presentation, generator, no_generator}
use Rattle.math_algebra.specs.Degrees.{Degree, any, exact, mixed, of_both, of_bracket, weight_of, weights_of}
use Rattle.fpl_model.specs.declared.degree.Degree as code
use Rattle.fpl_model.specs.declared.presentation.Generator as declared
use Rattle.fpl_model.specs.Degrees.{weight_degree, IsUpTo}
use Rattle.fpl_model.specs.Meaning.{in_field, all_in_field, generator_in}
use Rattle.fpl_model.specs.Sound.{HaveWeights, count_tree, count_trees}

-- the generators of a presentation, by number
pub shape_at : (gs : List declared.Generator) (i : ℕ) (x : declared.Generator) → i < length gs → x ≡ get_or gs i x →
    get_or (map generator_in gs) i no_generator ≡ generator_in x
shape_at [] i x lt is = absurd (omega (arith, lt))
shape_at (g ∷ gs) zero x lt is = ap generator_in (sym is)
shape_at (g ∷ gs) (suc i) x lt is = shape_at gs i x (omega (arith, lt)) is

-- a generator weighs at most 1000, and so does what stands past the last
light_generator : (gs : List declared.Generator) (i : ℕ) → HaveWeights gs → (get_or (map generator_in gs) i no_generator).weight ≤ 1000
light_generator [] i h = omega arith
light_generator (g ∷ gs) zero h = (h zero g (omega arith)).1
light_generator (g ∷ gs) (suc i) h = light_generator gs i (λ k d lt. h (suc k) d (omega (arith, lt)))

-- the members of a sum and of a bracket are of one weight each
exact_both : (a b : Degree ℕ) (w m n : ℕ) → of_both nat_eq a b ≡ exact w → ((u : ℕ) → a ≡ exact u → u ≤ 1000 * m) →
    ((u : ℕ) → b ≡ exact u → u ≤ 1000 * n) → w ≤ 1000 * (m + n)
exact_both any b w m n e f g = let h : w ≤ 1000 * n = g w e in omega arith
exact_both (exact a) any w m n e f g = let h : w ≤ 1000 * m = f w e in omega arith
exact_both (exact a) (exact b) w m n e f g = let h : a ≤ 1000 * m = f a refl in grind arith
exact_both (exact a) mixed w m n e f g = cc
exact_both mixed b w m n e f g = cc

exact_bracket : (a b : Degree ℕ) (w m n : ℕ) → of_bracket (λ a b. a + b) a b ≡ exact w → ((u : ℕ) → a ≡ exact u → u ≤ 1000 * m) →
    ((u : ℕ) → b ≡ exact u → u ≤ 1000 * n) → w ≤ 1000 * (m + n)
exact_bracket any any w m n e f g = cc
exact_bracket any (exact b) w m n e f g = cc
exact_bracket any mixed w m n e f g = cc
exact_bracket (exact a) any w m n e f g = cc
exact_bracket (exact a) (exact b) w m n e f g =
    let h : a ≤ 1000 * m = f a refl in
    let k : b ≤ 1000 * n = g b refl in
    let same : a + b ≡ w = cc in
    omega arith
exact_bracket (exact a) mixed w m n e f g = cc
exact_bracket mixed b w m n e f g = cc

-- an expression weighs at most 1000 for each place of a generator
module _ (k : Kind) (P : Presentation (Number k)) (gs : List declared.Generator) (is : P.generators ≡ map generator_in gs) (h : HaveWeights gs) where
  mutual
    unfolding weight_of

    weight_small : (t : Tree Num) (w : ℕ) → weight_of P (in_field k t) ≡ exact w → w ≤ 1000 * count_tree t
    weight_small (gen g) w e =
        let same : (generator P (g - 1)).weight ≡ w = cc in
        let light : (generator P (g - 1)).weight ≤ 1000 = rw is (light_generator gs (g - 1) h) in
        omega arith
    weight_small none w e = cc
    weight_small (sum_of es) w e = weights_small es w e
    weight_small (multiple c t) w e = weight_small t w e
    weight_small (bracket_of a b) w e = exact_bracket _ _ w (count_tree a) (count_tree b) e (weight_small a) (weight_small b)

    weights_small : (es : Trees Num) (w : ℕ) → weights_of P (all_in_field k es) ≡ exact w → w ≤ 1000 * count_trees es
    weights_small end w e = cc
    weights_small (more t es) w e = exact_both _ _ w (count_tree t) (count_trees es) e (weight_small t) (weights_small es)

  pub up_to : (t : Tree Num) (d : code.Degree) → weight_degree d ≡ weight_of P (in_field k t) → count_tree t < 2 ^ 40 → IsUpTo (2 ^ 63 - 1) d
  up_to t code.TheVariants.Any e lt = tt
  up_to t (code.TheVariants.Exact w) e lt = let small : w ≤ 1000 * count_tree t = weight_small t w (sym e) in omega arith
  up_to t code.TheVariants.Mixed e lt = tt
