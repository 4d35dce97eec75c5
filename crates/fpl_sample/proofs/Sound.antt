-- The presentation of type A is sound.
use Rattle.std.proofs.Common.{◌≡◌, ℕ, ◌+◌, ◌-◌, ◌<◌, ◌≤◌, ◌^◌, ◌≢◌, drop, [], ◌∷◌, ◌++◌, length, Bool, true, false, ap, sym, ◌∙◌, subst, arith, refl}
use Rattle.std.specs.Prelude.{All, sum_by, codes, decimal, if◌then◌else◌}
use Rattle.std.proofs.lemmas.List.{get_or-map}
use Rattle.std.proofs.lemmas.List.Elements.{All-append, All-nil, All-cons}
use Rattle.std.proofs.lemmas.List.Sums.{sum-map, sum_by-append}
use Rattle.std.proofs.lemmas.Fmt.{decimal_injective}
use Rattle.math_algebra.specs.Tree.{Tree, gen, none, bracket_of, Presentation}
use Rattle.math_algebra.specs.Degrees.{mixed, weight_of, parity_of, weight_of_both, parity_of_both}
use Rattle.fpl_numbers.specs.declared.number.Num.{Num}
use Rattle.fpl_numbers.specs.declared.number.Kind.TheVariants.{Prime}
use Rattle.fpl_numbers.specs.Kinds.{Number}
use Rattle.fpl_alphabet.specs.Bytes.{IsName}
use Rattle.fpl_model.specs.declared.expr.Expr.{Expr}
use Rattle.fpl_model.specs.declared.expr.Expr.TheVariants.{Gen, Zero, Br}
use Rattle.fpl_model.specs.declared.presentation.Generator.{Generator}
use Rattle.fpl_model.specs.Meaning.{plain, in_field, tree_in, presentation_in}
use Rattle.fpl_model.specs.Sound.{IsWithin, deep, IsExpression, IsHomogeneous, IsSoundEquation, IsSoundElement, count_equation, name_at}
use Rattle.fpl_model.proofs.Plain.{plain-Gen, plain-Zero, plain-Br}
use Rattle.math_linear.specs.Lists.{joined}
use Rattle.fpl_sample.specs.TypeA.{generator, are_apart, are_beside, commuting, serre, commuting_at, serre_at, commutings, serres, relations, type_a}
use Rattle.fpl_sample.specs.Laws.{TypeAIsSound}
use Rattle.fpl_sample.proofs.Lists.{all_joined, sum_joined, length_singles, get_singles}
use Rattle.fpl_sample.proofs.Names.{named}

-- the trees of the relations
commuting_tree : (i j : ℕ) → plain (Br (Gen i) (Gen j)) ≡ bracket_of (gen i) (gen j)
commuting_tree i j = rw (plain-Br, plain-Gen, plain-Gen) refl

serre_tree : (i j : ℕ) → plain (Br (Gen i) (Br (Gen i) (Gen j))) ≡ bracket_of (gen i) (bracket_of (gen i) (gen j))
serre_tree i j = rw (plain-Br, plain-Gen, commuting_tree) refl

-- a relation takes at most four places
few_commuting : (i j : ℕ) → sum_by count_equation (commuting_at i j) ≤ 4
few_commuting i j = go (are_apart i j)
  where
    go : (b : Bool) → sum_by count_equation (if b then commuting i j ∷ [] else []) ≤ 4
    go true = rw (commuting_tree, plain-Zero) (omega arith)
    go false = omega arith

few_serre : (i j : ℕ) → sum_by count_equation (serre_at i j) ≤ 4
few_serre i j = go (are_beside i j)
  where
    go : (b : Bool) → sum_by count_equation (if b then serre i j ∷ [] else []) ≤ 4
    go true = rw (serre_tree, plain-Zero) (omega arith)
    go false = omega arith

module _ (n : ℕ) (most : n ≤ 64) where
  abbrev P : Presentation (Number (Prime 65521))
  P = presentation_in (type_a n)

  long : length (type_a n).generators ≡ n
  long = length_singles (λ i. generator (i + 1)) n

  within : (e : Expr) (t : Tree Num) → plain e ≡ t → IsWithin (Prime 65521) n t → deep t ≤ 64 → IsExpression (type_a n) e
  within e t is inside low = (
    subst (λ m. IsWithin (Prime 65521) m (plain e)) (sym long) (subst (λ x. IsWithin (Prime 65521) n x) (sym is) inside),
    subst (λ x. deep x ≤ 64) (sym is) low,
  )

  -- a bracket of generators has one weight and one parity, as has one of it
  homogeneous : (e : Expr) (t : Tree Num) → plain e ≡ t → (weight_of_both P (in_field (Prime 65521) t) none ≢ mixed) →
      (parity_of_both P (in_field (Prime 65521) t) none ≢ mixed) → IsHomogeneous (type_a n) (tree_in (Prime 65521) e) (tree_in (Prime 65521) Zero)
  homogeneous e t is w s = rw (is, plain-Zero) (w, s)

  commuting_weight : (i j : ℕ) → weight_of_both P (bracket_of (gen (i - 1)) (gen (j - 1))) none ≢ mixed
  unfolding weight_of
  commuting_weight i j e = cc

  commuting_parity : (i j : ℕ) → parity_of_both P (bracket_of (gen (i - 1)) (gen (j - 1))) none ≢ mixed
  unfolding parity_of
  commuting_parity i j e = cc

  serre_weight : (i j : ℕ) → weight_of_both P (bracket_of (gen (i - 1)) (bracket_of (gen (i - 1)) (gen (j - 1)))) none ≢ mixed
  unfolding weight_of
  serre_weight i j e = cc

  serre_parity : (i j : ℕ) → parity_of_both P (bracket_of (gen (i - 1)) (bracket_of (gen (i - 1)) (gen (j - 1)))) none ≢ mixed
  unfolding parity_of
  serre_parity i j e = cc

  commuting_sound : (i j : ℕ) → 1 ≤ i → i ≤ n → 1 ≤ j → j ≤ n → IsSoundEquation (type_a n) (commuting i j)
  commuting_sound i j a b c d = (
    within (Br (Gen i) (Gen j)) (bracket_of (gen i) (gen j)) (commuting_tree i j) ((a, b), (c, d)) (omega arith),
    within Zero none plain-Zero tt (omega arith),
    homogeneous (Br (Gen i) (Gen j)) (bracket_of (gen i) (gen j)) (commuting_tree i j) (commuting_weight i j) (commuting_parity i j),
  )

  serre_sound : (i j : ℕ) → 1 ≤ i → i ≤ n → 1 ≤ j → j ≤ n → IsSoundEquation (type_a n) (serre i j)
  serre_sound i j a b c d = (
    within (Br (Gen i) (Br (Gen i) (Gen j))) (bracket_of (gen i) (bracket_of (gen i) (gen j))) (serre_tree i j) ((a, b), ((a, b), (c, d))) (omega arith),
    within Zero none plain-Zero tt (omega arith),
    homogeneous (Br (Gen i) (Br (Gen i) (Gen j))) (bracket_of (gen i) (bracket_of (gen i) (gen j))) (serre_tree i j) (serre_weight i j) (serre_parity i j),
  )

  commuting_there : (i j : ℕ) → 1 ≤ i → i ≤ n → 1 ≤ j → j ≤ n → All (IsSoundEquation (type_a n)) (commuting_at i j)
  commuting_there i j a b c d = go (are_apart i j)
    where
      go : (t : Bool) → All (IsSoundEquation (type_a n)) (if t then commuting i j ∷ [] else [])
      go true = All-cons (IsSoundEquation (type_a n)) (commuting i j) [] (commuting_sound i j a b c d) (All-nil (IsSoundEquation (type_a n)))
      go false = All-nil (IsSoundEquation (type_a n))

  serre_there : (i j : ℕ) → 1 ≤ i → i ≤ n → 1 ≤ j → j ≤ n → All (IsSoundEquation (type_a n)) (serre_at i j)
  serre_there i j a b c d = go (are_beside i j)
    where
      go : (t : Bool) → All (IsSoundEquation (type_a n)) (if t then serre i j ∷ [] else [])
      go true = All-cons (IsSoundEquation (type_a n)) (serre i j) [] (serre_sound i j a b c d) (All-nil (IsSoundEquation (type_a n)))
      go false = All-nil (IsSoundEquation (type_a n))

  all_relations : All (IsSoundEquation (type_a n)) (relations n)
  all_relations =
      let each = IsSoundEquation (type_a n) in
      All-append each (joined n (λ i. commutings n (i + 1))) (joined n (λ i. serres n (i + 1)))
      (all_joined each n (λ i. commutings n (i + 1)) (λ i a. all_joined each n (λ j. commuting_at (i + 1) (j + 1))
      (λ j c. commuting_there (i + 1) (j + 1) (omega arith) (omega (arith, a)) (omega arith) (omega (arith, c)))))
      (all_joined each n (λ i. serres n (i + 1)) (λ i a. all_joined each n (λ j. serre_at (i + 1) (j + 1))
      (λ j c. serre_there (i + 1) (j + 1) (omega arith) (omega (arith, a)) (omega arith) (omega (arith, c)))))

  few : sum_by count_equation (relations n) < 2 ^ 32
  few =
      let a = sum_joined count_equation 256 n (λ i. commutings n (i + 1))
      (λ i. omega (arith, most, sum_joined count_equation 4 n (λ j. commuting_at (i + 1) (j + 1)) (λ j. few_commuting (i + 1) (j + 1)))) in
      let b = sum_joined count_equation 256 n (λ i. serres n (i + 1))
      (λ i. omega (arith, most, sum_joined count_equation 4 n (λ j. serre_at (i + 1) (j + 1)) (λ j. few_serre (i + 1) (j + 1)))) in
      omega (arith, most, a, b, sum_by-append count_equation (joined n (λ i. commutings n (i + 1))) (joined n (λ i. serres n (i + 1))))

  name_of : (i : ℕ) → i < n → name_at (type_a n) i ≡ codes "e" ++ decimal (i + 1)
  name_of i l =
      get_or-map (λ (g : Generator). g.name) (type_a n).generators i (generator 0) [] (omega (arith, l, long)) ∙
      ap (λ (g : Generator). g.name) (get_singles (λ k. generator (k + 1)) n i (generator 0) l)

  apart : (i j : ℕ) → i < j → j < length (type_a n).generators → name_at (type_a n) i ≢ name_at (type_a n) j
  apart i j l m e =
      let top : j < n = omega (arith, m, long) in
      let same : codes "e" ++ decimal (i + 1) ≡ codes "e" ++ decimal (j + 1) = sym (name_of i (omega (arith, l, top))) ∙ e ∙ name_of j top in
      let digits : decimal (i + 1) ≡ decimal (j + 1) = ap (drop 1) same in
      let again = decimal_injective (i + 1) (j + 1) (omega (arith, l, top, most)) (omega (arith, top, most)) digits in
      omega (arith, again, l)

pub type_a_is_sound : TypeAIsSound
type_a_is_sound n most = record {
  field = (14, omega arith, refl);
  few = omega (arith, long n most, most);
  weights = all_joined (λ (g : Generator). (1 ≤ g.weight) × (g.weight ≤ 1000)) n (λ i. generator (i + 1) ∷ [])
      (λ i a. All-cons (λ (g : Generator). (1 ≤ g.weight) × (g.weight ≤ 1000)) (generator (i + 1)) [] (omega arith, omega arith)
      (All-nil (λ (g : Generator). (1 ≤ g.weight) × (g.weight ≤ 1000))));
  names = all_joined (λ (g : Generator). IsName g.name) n (λ i. generator (i + 1) ∷ [])
      (λ i a. All-cons (λ (g : Generator). IsName g.name) (generator (i + 1)) [] (named (i + 1) (omega arith) (omega (arith, a, most)))
      (All-nil (λ (g : Generator). IsName g.name)));
  distinct = apart n most;
  small = omega (arith, few n most, sum-map count_equation (relations n));
  relations = all_relations n most;
  ideals = All-nil (IsSoundElement (type_a n));
  queries = All-nil (IsSoundEquation (type_a n));
}
