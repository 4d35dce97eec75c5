-- How many basis elements and how many origins there are at most.
use Rattle.std.specs.Prelude.{ℕ, zero, suc, ◌≡◌, ◌≤◌, ◌+◌, ◌*◌, ◌^◌, List, [], ◌∷◌, ◌++◌, length, map, cond, Bool, true, false}
use mathlib.Core.Path.{ap, ◌∙◌}
use native.Mathlib.Omega.{arith}
use Rattle.std.proofs.lemmas.List.{length-append, length-map}
use Rattle.fpl_numbers.specs.declared.number.Num.{Num}
use Rattle.fpl_model.specs.declared.presentation.Equation.{Equation}
use Rattle.fpl_model.specs.declared.presentation.Presentation.{Presentation}
use Rattle.fpl_model.specs.Sound.{IsSound}
use Rattle.fpl_log.specs.declared.step.Origin.TheVariants.{Relation, Jacobi, Cube}
use Rattle.fpl_table.specs.Plain.{PlainTable, symbols_in}
use Rattle.fpl_table.specs.Push.{free_of, new_basis, push_of}
use Rattle.fpl_table.specs.Shape.{HasShape}
use Rattle.fpl_table.specs.Standard.{count_of, count_through}
use Rattle.fpl_table.proofs.Leads.{free_few}
use Rattle.math_linear.specs.Lists.{joined}
use Rattle.fpl_model.specs.Degrees.{is_exactly}
use Rattle.fpl_rewrite.specs.Origins.{relation_weight, relations_from, relations_of, is_triple, triples_of, is_cube, is_three, cubes_of, origins_of}
use Rattle.fpl_model.proofs.Relations.{few_relations}
use Rattle.fpl_rewrite.proofs.SymbolCounts.{symbols_counted}
use Rattle.plain_weights.proofs.Counts.{counts_pushed}

-- no more basis elements than symbols
abbrev pub IsFew : PlainTable → Type 0
IsFew T = length T.basis ≤ count_through T T.weight

pub few_pushed : (T : PlainTable) (rows : List (List Num)) → HasShape T → IsFew T → IsFew (push_of T rows)
few_pushed T rows shape few =
    let long : length (push_of T rows).basis ≡ length T.basis + length (free_of T rows) =
    length-append T.basis (map (new_basis T) (free_of T rows)) ∙ ap (λ (n : ℕ). length T.basis + n) (length-map (free_of T rows) (new_basis T)) in
    let free = free_few rows (length (symbols_in T)) in
    let counts : count_through (push_of T rows) (suc T.weight) ≡ count_through T T.weight + count_of T (suc T.weight) =
    counts_pushed T shape rows (suc T.weight) (omega arith) in
    let most : length (push_of T rows).basis ≤ count_through (push_of T rows) (suc T.weight) = omega (arith, long, free, counts, few, symbols_counted T) in
    most

joined_most : {A : Type 0} (n b : ℕ) (f : ℕ → List A) → ((i : ℕ) → length (f i) ≤ b) → length (joined n f) ≤ n * b
unfolding joined
joined_most zero b f most = omega arith
joined_most (suc n) b f most = omega (arith, length-append (joined n f) (f n), joined_most n b f most, most n)

one_most : {A : Type 0} (b : Bool) (x : A) → length (cond b (x ∷ []) []) ≤ 1
one_most true x = omega arith
one_most false x = omega arith

relations_most : (T : PlainTable) (r : ℕ) (qs : List Equation) → length (relations_from T r qs) ≤ length qs
relations_most T r [] = omega arith
relations_most T r (q ∷ qs) =
    let one = one_most (is_exactly (suc T.weight) (relation_weight T q)) (Relation r) in
    omega (
      arith,
      length-append (cond (is_exactly (suc T.weight) (relation_weight T q)) (Relation r ∷ []) [])
          (relations_from T (r + 1) qs),
      one,
      relations_most T (r + 1) qs,
    )

cubes_most : (T : PlainTable) (b : Bool) → length (cond b (joined (length T.basis) (λ i. cond (is_cube T i) (Cube (i + 1) ∷ []) [])) []) ≤ length T.basis * 1
cubes_most T true = joined_most (length T.basis) 1 (λ i. cond (is_cube T i) (Cube (i + 1) ∷ []) []) (λ i. one_most (is_cube T i) (Cube (i + 1)))
cubes_most T false = omega arith

triples_most : (T : PlainTable) → length T.basis ≤ 2000000 → length (triples_of T) ≤ 2 ^ 63
triples_most T few =
    let n = length T.basis in
    let one : (i j k : ℕ) → length (cond (is_triple T i j k) (Jacobi (i + 1) (j + 1) (k + 1) ∷ []) []) ≤ 1 =
    λ i j k. one_most (is_triple T i j k) (Jacobi (i + 1) (j + 1) (k + 1)) in
    let thirds : (i j : ℕ) → length (joined n (λ k. cond (is_triple T i j k) (Jacobi (i + 1) (j + 1) (k + 1) ∷ []) [])) ≤ 2000000 =
    λ i j. thirds_few n _ few (one i j) in
    let seconds : (i : ℕ) →
    length (joined n (λ j. joined n (λ k. cond (is_triple T i j k) (Jacobi (i + 1) (j + 1) (k + 1) ∷ [])
    []))) ≤ 4000000000000 = λ i. seconds_few n _ few (thirds i) in
    firsts_few n _ few seconds
  where
    thirds_few : {A : Type 0} (n : ℕ) (f : ℕ → List A) → n ≤ 2000000 → ((i : ℕ) → length (f i) ≤ 1) → length (joined n f) ≤ 2000000
    thirds_few n f few most = omega (arith, few, joined_most n 1 f most)

    seconds_few : {A : Type 0} (n : ℕ) (f : ℕ → List A) → n ≤ 2000000 → ((i : ℕ) → length (f i) ≤ 2000000) → length (joined n f) ≤ 4000000000000
    seconds_few n f few most = omega (arith, few, joined_most n 2000000 f most)

    firsts_few : {A : Type 0} (n : ℕ) (f : ℕ → List A) → n ≤ 2000000 → ((i : ℕ) → length (f i) ≤ 4000000000000) → length (joined n f) ≤ 2 ^ 63
    firsts_few n f few most = omega (arith, few, joined_most n 4000000000000 f most)

pub origins_few : (T : PlainTable) (p : Presentation) → IsSound p → length T.basis ≤ 2000000 → length (origins_of T p) ≤ 2 ^ 63 + 2 ^ 33
origins_few T p sound few =
    omega (
      arith,
      length-append (relations_of T p ++ triples_of T) (cubes_of T),
      length-append (relations_of T p) (triples_of T),
      relations_most T 1 p.relations,
      few_relations p sound,
      triples_most T few,
      cubes_most T (is_three T.kind),
      few,
    )
