-- What the origins of a weight are.
use Rattle.std.proofs.Common.{◌≡◌, ◌<◌, ◌≤◌, ◌+◌, ◌-◌, ◌*◌, ℕ, zero, suc, List, [], ◌∷◌, ◌++◌, length, get_or, Bool, true, false, cond, refl, ◌⊎◌, inl, inr, subst, arith}
use Rattle.std.specs.Prelude.{Contains}
use Rattle.std.proofs.lemmas.Bool.Decides.{nat_tests}
use Rattle.std.proofs.lemmas.List.Elements.{Contains-append_cases}
use Rattle.math_algebra.specs.Tree.{Parity, even, odd}
use Rattle.math_algebra.specs.Symbols.{is_odd}
use Rattle.fpl_model.specs.declared.presentation.Equation.{Equation}
use Rattle.fpl_model.specs.declared.presentation.Presentation.{Presentation}
use Rattle.fpl_log.specs.declared.step.Origin.{Origin}
use Rattle.fpl_log.specs.declared.step.Origin.TheVariants.{Relation, Jacobi, Cube, Row}
use Rattle.fpl_table.specs.Plain.{PlainTable, plain_basis}
use Rattle.math_linear.specs.Lists.{joined}
use Rattle.fpl_model.specs.Degrees.{is_exactly}
use Rattle.fpl_rewrite.specs.Origins.{relation_weight, relations_from, relations_of, is_triple, triples_of, is_cube, is_three, cubes_of, origins_of}

-- what each call that forms a row needs of its origin
abbrev pub IsOrigin : PlainTable → Presentation → Origin → Type 0
IsOrigin T p (Relation r) = (1 ≤ r) × (r ≤ length p.relations)
IsOrigin T p (Jacobi i j k) = ((1 ≤ i) × (i ≤ j) × (j ≤ k) × (k ≤ length T.basis))
    × ((plain_basis T (i - 1)).weight + (plain_basis T (j - 1)).weight + (plain_basis T (k - 1)).weight ≡ T.weight + 1)
IsOrigin T p (Cube i) = ((1 ≤ i) × (i ≤ length T.basis)) × ((plain_basis T (i - 1)).parity ≡ odd) × (3 * (plain_basis T (i - 1)).weight ≡ T.weight + 1)
IsOrigin T p (Row n) = ⊥

pub one_if : {A : Type 0} (b : Bool) (x y : A) → Contains (cond b (x ∷ []) []) y → (b ≡ true) × (x ≡ y)
one_if true x y h = (refl, go h.0 h.1 h.2)
  where
    go : (k : ℕ) → k < 1 → get_or (x ∷ []) k y ≡ y → x ≡ y
    go zero l e = e
    go (suc k) l e = absurd (omega arith)
one_if false x y h = absurd (let l = h.1 in omega arith)

pub in_joined : {A : Type 0} (n : ℕ) (f : ℕ → List A) (x : A) → Contains (joined n f) x → (i : ℕ) × (i < n) × Contains (f i) x
unfolding joined
in_joined zero f x h = absurd (let l = h.1 in omega arith)
in_joined (suc n) f x h = go (Contains-append_cases (joined n f) (f n) x h) (in_joined n f x)
  where
    go : Contains (joined n f) x ⊎ Contains (f n) x → (Contains (joined n f) x → (i : ℕ) × (i < n) × Contains (f i) x) →
        (i : ℕ) × (i < suc n) × Contains (f i) x
    go (inl k) t = let r = t k in (r.0, (let l = r.1 in omega arith), r.2)
    go (inr k) t = (n, omega arith, k)

pub odd_is : (s : Parity) → is_odd s ≡ true → s ≡ odd
odd_is odd e = refl
odd_is even e = absurd (let k : ⊥ = cc in k)

module _ (T : PlainTable) (p : Presentation) where
  here_or_later : (r : ℕ) (qs : List Equation) (o : Origin) (b : Bool) → 1 ≤ r → r ≤ length p.relations →
      (Contains (relations_from T (r + 1) qs) o → IsOrigin T p o) →
      Contains (cond b (Relation r ∷ []) []) o ⊎ Contains (relations_from T (r + 1) qs) o → IsOrigin T p o
  here_or_later r qs o b from to later (inl k) = subst (IsOrigin T p) (one_if b (Relation r) o k).1 (from, to)
  here_or_later r qs o b from to later (inr k) = later k

  in_relations : (r : ℕ) (qs : List Equation) (o : Origin) → 1 ≤ r → r + length qs ≤ 1 + length p.relations → Contains (relations_from T r qs) o →
      IsOrigin T p o
  in_relations r [] o from to h = absurd (let l = h.1 in omega arith)
  in_relations r (q ∷ qs) o from to h =
      here_or_later r qs o (is_exactly (suc T.weight) (relation_weight T q)) from (omega arith) (in_relations (r + 1) qs o (omega arith) (omega arith))
      (Contains-append_cases (cond (is_exactly (suc T.weight) (relation_weight T q)) (Relation r ∷ []) []) (relations_from T (r + 1) qs) o h)

  triple_is : (i j k : ℕ) → k < length T.basis → is_triple T i j k ≡ true → IsOrigin T p (Jacobi (i + 1) (j + 1) (k + 1))
  triple_is i j k lt e =
      let first : i ≤ j = grind (arith, nat_tests) in
      let second : j ≤ k = grind (arith, nat_tests) in
      let sum : (plain_basis T i).weight + (plain_basis T j).weight + (plain_basis T k).weight ≡ suc T.weight = grind (arith, nat_tests) in
      let at_i : i + 1 - 1 ≡ i = omega arith in
      let at_j : j + 1 - 1 ≡ j = omega arith in
      let at_k : k + 1 - 1 ≡ k = omega arith in
      ((omega arith, omega arith, omega arith, omega arith), rw (at_i, at_j, at_k) (omega (arith, sum)))

  in_triples : (o : Origin) → Contains (triples_of T) o → IsOrigin T p o
  in_triples o h =
      let n = length T.basis in
      let a = in_joined n (λ i. joined n (λ j. joined n (λ k. cond (is_triple T i j k) (Jacobi (i + 1) (j + 1) (k + 1) ∷ []) []))) o h in
      let b = in_joined n (λ j. joined n (λ k. cond (is_triple T a.0 j k) (Jacobi (a.0 + 1) (j + 1) (k + 1) ∷ []) [])) o a.2 in
      let c = in_joined n (λ k. cond (is_triple T a.0 b.0 k) (Jacobi (a.0 + 1) (b.0 + 1) (k + 1) ∷ []) []) o b.2 in
      let d = one_if (is_triple T a.0 b.0 c.0) (Jacobi (a.0 + 1) (b.0 + 1) (c.0 + 1)) o c.2 in
      subst (IsOrigin T p) d.1 (triple_is a.0 b.0 c.0 c.1 d.0)

  cube_is : (i : ℕ) → i < length T.basis → is_cube T i ≡ true → IsOrigin T p (Cube (i + 1))
  cube_is i lt e =
      let odd_one : (plain_basis T i).parity ≡ odd = odd_is (plain_basis T i).parity (grind arith) in
      let sum : 3 * (plain_basis T i).weight ≡ suc T.weight = grind (arith, nat_tests) in
      let at_i : i + 1 - 1 ≡ i = omega arith in
      ((omega arith, omega arith), rw at_i odd_one, rw at_i (omega (arith, sum)))

  in_cubes : (b : Bool) (o : Origin) → Contains (cond b (joined (length T.basis) (λ i. cond (is_cube T i) (Cube (i + 1) ∷ []) [])) []) o → IsOrigin T p o
  in_cubes true o h =
      let a = in_joined (length T.basis) (λ i. cond (is_cube T i) (Cube (i + 1) ∷ []) []) o h in
      let b = one_if (is_cube T a.0) (Cube (a.0 + 1)) o a.2 in
      subst (IsOrigin T p) b.1 (cube_is a.0 a.1 b.0)
  in_cubes false o h = absurd (let l = h.1 in omega arith)

  of_both : (o : Origin) → Contains (relations_of T p) o ⊎ Contains (triples_of T) o → IsOrigin T p o
  of_both o (inl h) = in_relations 1 p.relations o (omega arith) (omega arith) h
  of_both o (inr h) = in_triples o h

  of_all : (o : Origin) → Contains (relations_of T p ++ triples_of T) o ⊎ Contains (cubes_of T) o → IsOrigin T p o
  of_all o (inl h) = of_both o (Contains-append_cases (relations_of T p) (triples_of T) o h)
  of_all o (inr h) = in_cubes (is_three T.kind) o h

  pub listed_is : (o : Origin) → Contains (origins_of T p) o → IsOrigin T p o
  listed_is o h = of_all o (Contains-append_cases (relations_of T p ++ triples_of T) (cubes_of T) o h)
