-- Which origins the list of a weight has.
use Rattle.std.specs.Prelude.{◌≡◌, ℕ, zero, suc, ◌+◌, ◌<◌, ◌≤◌, ◌⊎◌, List, [], ◌∷◌, ◌++◌, length, get_or, Bool, true, false, cond, Contains}
use mathlib.Core.Path.{sym, refl, ap, ◌∙◌, subst}
use mathlib.Core.Logic.{inl, inr}
use native.Mathlib.Omega.{arith}
use native.Mathlib.Decide.{ℕ_discrete}
use Rattle.std.proofs.lemmas.List.Elements.{Contains-append_left, Contains-append_right, Contains-append_cases}
use Rattle.fpl_numbers.specs.declared.number.Kind.{Kind}
use Rattle.fpl_numbers.specs.declared.number.Kind.TheVariants.{Rational, Prime}
use Rattle.math_algebra.specs.Tree.{odd}
use Rattle.math_algebra.specs.Degrees.{Degree, any, exact, mixed}
use Rattle.math_algebra.specs.Symbols.{is_odd}
use Rattle.fpl_model.specs.declared.presentation.Equation.{Equation}
use Rattle.fpl_model.specs.declared.presentation.Presentation.{Presentation}
use Rattle.fpl_log.specs.declared.step.Origin.{Origin}
use Rattle.fpl_log.specs.declared.step.Origin.TheVariants.{Relation, Jacobi, Cube}
use Rattle.fpl_table.specs.Plain.{PlainTable}
use Rattle.math_linear.specs.Lists.{joined}
use Rattle.fpl_model.specs.Degrees.{is_exactly}
use Rattle.fpl_rewrite.specs.Origins.{relation_weight, relations_from, relations_of, is_triple, triples_of, is_cube, is_three, cubes_of, origins_of}
use Rattle.fpl_rewrite.proofs.Listed.{one_if, in_joined, odd_is}
use Rattle.plain_sources.proofs.Pairs.{weight, parity}

pub is_three_kind : (k : Kind) → is_three k ≡ true → k ≡ Prime 3
is_three_kind Rational e = absurd (let k : ⊥ = cc in k)
is_three_kind (Prime p) e = ap Prime (grind arith)

if_one : {A : Type 0} (b : Bool) (x : A) → b ≡ true → Contains (cond b (x ∷ []) []) x
if_one true x e = (0, omega arith, refl)
if_one false x e = absurd (let k : ⊥ = cc in k)

joined_has : {A : Type 0} (n : ℕ) (f : ℕ → List A) (x : A) (i : ℕ) → i < n → Contains (f i) x → Contains (joined n f) x
unfolding joined
joined_has zero f x i l h = absurd (omega arith)
joined_has (suc n) f x i l h = go (ℕ_discrete i n) (λ k. joined_has n f x i k h)
  where
    go : Dec (i ≡ n) → (i < n → Contains (joined n f) x) → Contains (joined n f ++ f n) x
    go (yes e) t = Contains-append_right (joined n f) (f n) x (subst (λ i. Contains (f i) x) e h)
    go (no d) t = Contains-append_left (joined n f) (f n) x (t (omega arith))

pub exactly_is : (w : ℕ) (d : Degree ℕ) → is_exactly w d ≡ true → d ≡ exact w
exactly_is w any e = absurd (let k : ⊥ = cc in k)
exactly_is w (exact v) e = ap exact (grind arith)
exactly_is w mixed e = absurd (let k : ⊥ = cc in k)

is_exact : (w : ℕ) (d : Degree ℕ) → d ≡ exact w → is_exactly w d ≡ true
is_exact w d e = ap (is_exactly w) e ∙ (let f : is_exactly w (exact w) ≡ true = grind arith in f)

module _ (T : PlainTable) where
  abbrev n : ℕ
  n = length T.basis

  pub in_relations : (r : ℕ) (qs : List Equation) (o : Origin) → Contains (relations_from T r qs) o →
      (i : ℕ) × (i < length qs) × (o ≡ Relation (r + i)) × ((d : Equation) → relation_weight T (get_or qs i d) ≡ exact (suc T.weight))
  in_relations r [] o h = absurd (let l = h.1 in omega arith)
  in_relations r (q ∷ qs) o h =
      go (Contains-append_cases (cond (is_exactly (suc T.weight) (relation_weight T q)) (Relation r ∷ []) []) (relations_from T (r + 1) qs) o h)
      (in_relations (r + 1) qs o)
    where
      go : Contains (cond (is_exactly (suc T.weight) (relation_weight T q)) (Relation r ∷ []) []) o ⊎ Contains (relations_from T (r + 1) qs) o →
          (Contains (relations_from T (r + 1) qs) o → (i : ℕ) × (i < length qs) × (o ≡ Relation (r + 1 + i)) ×
          ((d : Equation) → relation_weight T (get_or qs i d) ≡ exact (suc T.weight))) →
          (i : ℕ) × (i < length (q ∷ qs)) × (o ≡ Relation (r + i)) × ((d : Equation) → relation_weight T (get_or (q ∷ qs) i d) ≡ exact (suc T.weight))
      go (inl k) t =
          let f = one_if _ (Relation r) o k in
          (0, omega arith, sym f.1 ∙ ap Relation (omega arith), λ d. exactly_is (suc T.weight) (relation_weight T q) f.0)
      go (inr k) t = let f = t k in (suc f.0, (let l = f.1 in omega arith), f.2 ∙ ap Relation (omega arith), f.3)

  relations_have : (r : ℕ) (qs : List Equation) (i : ℕ) → i < length qs → ((d : Equation) →
      relation_weight T (get_or qs i d) ≡ exact (suc T.weight)) → Contains (relations_from T r qs) (Relation (r + i))
  relations_have r [] i l h = absurd (omega arith)
  relations_have r (q ∷ qs) zero l h =
      Contains-append_left (cond (is_exactly (suc T.weight) (relation_weight T q)) (Relation r ∷ []) []) (relations_from T (r + 1) qs) (Relation (r + 0))
      (subst (λ s. Contains (cond (is_exactly (suc T.weight) (relation_weight T q)) (Relation r ∷ []) []) (Relation s)) (let e : r ≡ r + 0 = omega arith in e)
      (if_one _ (Relation r) (is_exact (suc T.weight) (relation_weight T q) (h q))))
  relations_have r (q ∷ qs) (suc i) l h =
      Contains-append_right (cond (is_exactly (suc T.weight) (relation_weight T q)) (Relation r ∷ []) []) (relations_from T (r + 1) qs) (Relation (r + suc i))
      (subst (λ s. Contains (relations_from T (r + 1) qs) (Relation s)) (let e : r + 1 + i ≡ r + suc i = omega arith in e)
      (relations_have (r + 1) qs i (omega arith) h))

  pub record IsTriple (i j k : ℕ) : Type 0 where
    pub first : i ≤ j
    pub second : j ≤ k
    pub third : k < n
    pub sum : weight T i + weight T j + weight T k ≡ suc T.weight

  pub triple_is : (i j k : ℕ) → k < n → is_triple T i j k ≡ true → IsTriple i j k
  triple_is i j k l e = record { first = grind arith; second = grind arith; third = l; sum = grind arith }

  is_triple_of : (i j k : ℕ) → IsTriple i j k → is_triple T i j k ≡ true
  is_triple_of i j k h = let a = h.first in let b = h.second in let c = h.sum in grind arith

  pub record IsCube (i : ℕ) : Type 0 where
    pub three : T.kind ≡ Prime 3
    pub below : i < n
    pub odd_one : parity T i ≡ odd
    pub sum : weight T i + weight T i + weight T i ≡ suc T.weight

  pub in_triples : (o : Origin) → Contains (triples_of T) o → (i : ℕ) × (j : ℕ) × (k : ℕ) × IsTriple i j k × (o ≡ Jacobi (i + 1) (j + 1) (k + 1))
  in_triples o h =
      let a = in_joined n (λ i. joined n (λ j. joined n (λ k. cond (is_triple T i j k) (Jacobi (i + 1) (j + 1) (k + 1) ∷ []) []))) o h in
      let b = in_joined n (λ j. joined n (λ k. cond (is_triple T a.0 j k) (Jacobi (a.0 + 1) (j + 1) (k + 1) ∷ []) [])) o a.2 in
      let c = in_joined n (λ k. cond (is_triple T a.0 b.0 k) (Jacobi (a.0 + 1) (b.0 + 1) (k + 1) ∷ []) []) o b.2 in
      let d = one_if _ (Jacobi (a.0 + 1) (b.0 + 1) (c.0 + 1)) o c.2 in
      (a.0, b.0, c.0, triple_is a.0 b.0 c.0 c.1 d.0, sym d.1)

  triples_have : (i j k : ℕ) → IsTriple i j k → Contains (triples_of T) (Jacobi (i + 1) (j + 1) (k + 1))
  triples_have i j k h =
      let a = h.first in let b = h.second in let c = h.third in
      joined_has n (λ i. joined n (λ j. joined n (λ k. cond (is_triple T i j k) (Jacobi (i + 1) (j + 1) (k + 1) ∷ []) [])))
      (Jacobi (i + 1) (j + 1) (k + 1)) i (omega arith)
      (joined_has n (λ j. joined n (λ k. cond (is_triple T i j k) (Jacobi (i + 1) (j + 1) (k + 1) ∷ []) [])) (Jacobi (i + 1) (j + 1) (k + 1)) j (omega arith)
      (joined_has n (λ k. cond (is_triple T i j k) (Jacobi (i + 1) (j + 1) (k + 1) ∷ []) []) (Jacobi (i + 1) (j + 1) (k + 1)) k c
      (if_one _ (Jacobi (i + 1) (j + 1) (k + 1)) (is_triple_of i j k h))))

  pub cube_is : (i : ℕ) → is_cube T i ≡ true → (parity T i ≡ odd) × (weight T i + weight T i + weight T i ≡ suc T.weight)
  cube_is i e = (odd_is (parity T i) (grind arith), grind arith)

  is_cube_of : (i : ℕ) → IsCube i → is_cube T i ≡ true
  is_cube_of i h = let a : is_odd (parity T i) ≡ true = ap is_odd h.odd_one in let b = h.sum in grind arith

  in_cubes : (o : Origin) → Contains (cubes_of T) o → (i : ℕ) × IsCube i × (o ≡ Cube (i + 1))
  in_cubes o h = go (is_three T.kind) refl h
    where
      go : (b : Bool) → is_three T.kind ≡ b → Contains (cond b (joined n (λ i. cond (is_cube T i) (Cube (i + 1) ∷ []) [])) []) o →
          (i : ℕ) × IsCube i × (o ≡ Cube (i + 1))
      go true e k =
          let a = in_joined n (λ i. cond (is_cube T i) (Cube (i + 1) ∷ []) []) o k in
          let b = one_if _ (Cube (a.0 + 1)) o a.2 in
          let c = cube_is a.0 b.0 in (a.0, record { three = is_three_kind T.kind e; below = a.1; odd_one = c.0; sum = c.1 }, sym b.1)
      go false e k = absurd (let l = k.1 in omega arith)

  cubes_have : (i : ℕ) → IsCube i → Contains (cubes_of T) (Cube (i + 1))
  cubes_have i h =
      rw (ap is_three h.three)
      (joined_has n (λ i. cond (is_cube T i) (Cube (i + 1) ∷ []) []) (Cube (i + 1)) i h.below (if_one _ (Cube (i + 1)) (is_cube_of i h)))

  -- what is so of an origin of the list
  pub data IsListed (p : Presentation) : Origin → Type 0 where
    listed_relation : (k : ℕ) → k < length p.relations → ((d : Equation) → relation_weight T (get_or p.relations k d) ≡ exact (suc T.weight)) →
        IsListed p (Relation (1 + k))
    listed_triple : (i j k : ℕ) → IsTriple i j k → IsListed p (Jacobi (i + 1) (j + 1) (k + 1))
    listed_cube : (i : ℕ) → IsCube i → IsListed p (Cube (i + 1))

  pub listed : (p : Presentation) (o : Origin) → Contains (origins_of T p) o → IsListed p o
  listed p o h = go (Contains-append_cases (relations_of T p ++ triples_of T) (cubes_of T) o h)
    where
      earlier : Contains (relations_of T p) o ⊎ Contains (triples_of T) o → IsListed p o
      earlier (inl k) = let r = in_relations 1 p.relations o k in subst (IsListed p) (sym r.2) (listed_relation r.0 r.1 r.3)
      earlier (inr k) = let r = in_triples o k in subst (IsListed p) (sym r.4) (listed_triple r.0 r.1 r.2 r.3)

      go : Contains (relations_of T p ++ triples_of T) o ⊎ Contains (cubes_of T) o → IsListed p o
      go (inl k) = earlier (Contains-append_cases (relations_of T p) (triples_of T) o k)
      go (inr k) = let r = in_cubes o k in subst (IsListed p) (sym r.2) (listed_cube r.0 r.1)

  pub is_listed : (p : Presentation) (o : Origin) → IsListed p o → Contains (origins_of T p) o
  is_listed p _ (listed_relation k l h) =
      Contains-append_left (relations_of T p ++ triples_of T) (cubes_of T) (Relation (1 + k))
      (Contains-append_left (relations_of T p) (triples_of T) (Relation (1 + k)) (relations_have 1 p.relations k l h))
  is_listed p _ (listed_triple i j k h) =
      Contains-append_left (relations_of T p ++ triples_of T) (cubes_of T) (Jacobi (i + 1) (j + 1) (k + 1))
      (Contains-append_right (relations_of T p) (triples_of T) (Jacobi (i + 1) (j + 1) (k + 1)) (triples_have i j k h))
  is_listed p _ (listed_cube i h) = Contains-append_right (relations_of T p ++ triples_of T) (cubes_of T) (Cube (i + 1)) (cubes_have i h)
