-- The origins of a weight rise by the first member of their triples, so those behind the last generator come last; and what their rows stand for follows from
-- the rows before.
use Rattle.std.specs.Prelude.{◌≡◌, ℕ, zero, suc, ◌+◌, ◌-◌, ◌<◌, ◌≤◌, ◌⊎◌, List, [], ◌∷◌, ◌++◌, length, get_or, Bool, true, false, cond, Contains}
use mathlib.Core.Path.{sym, refl, ap, subst}
use mathlib.Core.Logic.{inl, inr}
use native.Mathlib.Omega.{arith}
use Rattle.std.proofs.lemmas.List.Elements.{Contains-append_left, Contains-append_right, Contains-append_cases}
use Rattle.math_linear.specs.Vector.{Vector, vzero}
use Rattle.math_linear.specs.Linear.{IsLinear}
use Rattle.math_linear.specs.Lists.{joined}
use Rattle.math_generators.specs.Triples.{IsEarlySource}
use Rattle.math_generators.proofs.Triples.{late_triples_follow}
use Rattle.fpl_numbers.specs.declared.number.Kind.{Kind}
use Rattle.fpl_numbers.specs.Kinds.{field_of}
use Rattle.fpl_model.specs.declared.presentation.Presentation.{Presentation}
use Rattle.fpl_model.specs.Meaning.{presentation_in}
use Rattle.fpl_log.specs.declared.step.Origin.{Origin}
use Rattle.fpl_log.specs.declared.step.Origin.TheVariants.{Jacobi, Cube}
use Rattle.fpl_table.specs.Plain.{PlainTable, table_in}
use Rattle.fpl_rewrite.specs.Origins.{is_triple, is_cube, relations_of, triples_of, cubes_of, is_three, origins_of}
use Rattle.fpl_rewrite.proofs.Listed.{one_if, in_joined}
use Rattle.plain_tables.specs.Holds.{Holds}
use Rattle.plain_tables.proofs.Holding.{sound_is_sound}
use Rattle.plain_sources.specs.Premises.{HasRows, HasWeights}
use Rattle.plain_sources.specs.TableLaws.{vector_of_origin}
use Rattle.plain_sources.specs.Late.{first_of, is_late, IsOtherPrime, IsReach, IsCut}
use Rattle.plain_sources.proofs.Listed.{IsListed, listed, listed_relation, listed_triple, listed_cube, in_relations}
use Rattle.plain_sources.proofs.Laws.{rows_of_shape, weights_of_built, early_origins, origins_are_sources}

-- an origin of a part of the list is one of the weight
pub in_done : (p : Presentation) (T : PlainTable) (done os : List Origin) → done ++ os ≡ origins_of T p → (o : Origin) → Contains done o →
    Contains (origins_of T p) o
in_done p T done os all o c = subst (λ xs. Contains xs o) all (Contains-append_left done os o c)

pub in_rest : (p : Presentation) (T : PlainTable) (done os : List Origin) → done ++ os ≡ origins_of T p → (o : Origin) → Contains os o →
    Contains (origins_of T p) o
in_rest p T done os all o c = subst (λ xs. Contains xs o) all (Contains-append_right done os o c)

-- each comes before those whose triples have greater first members
abbrev Rises : List Origin → Type 0
Rises [] = Unit {0}
Rises (o ∷ os) = ((x : Origin) → Contains os x → first_of o ≤ first_of x) × Rises os

no_member : (x : Origin) → Contains [] x → ⊥
no_member x h = let l = h.1 in absurd (omega arith)

first_one : (o : Origin) (os : List Origin) → Contains (o ∷ os) o
first_one o os = Contains-append_left (o ∷ []) os o (0, omega arith, refl)

later_one : (o : Origin) (os : List Origin) (x : Origin) → Contains os x → Contains (o ∷ os) x
later_one o os x h = Contains-append_right (o ∷ []) os x h

rises_append : (xs ys : List Origin) → Rises xs → Rises ys → ((x y : Origin) → Contains xs x → Contains ys y → first_of x ≤ first_of y) → Rises (xs ++ ys)
rises_append [] ys r s h = s
rises_append (o ∷ xs) ys r s h = (
  (λ x c. elim (Contains-append_cases xs ys x c) [
    | inl a ↦ r.0 x a
    | inr b ↦ h o x (first_one o xs) b
  ]),
  rises_append xs ys r.1 s (λ x y a b. h x y (later_one o xs x a) b),
)

rises_same : (n : ℕ) (xs : List Origin) → ((x : Origin) → Contains xs x → first_of x ≡ n) → Rises xs
rises_same n [] h = tt
rises_same n (o ∷ xs) h = (
  (λ x c. let a = h o (first_one o xs) in let b = h x (later_one o xs x c) in omega arith),
  rises_same n xs (λ x c. h x (later_one o xs x c)),
)

rises_behind : (done : List Origin) (o : Origin) (os : List Origin) → Rises (done ++ o ∷ os) → (x : Origin) → Contains os x → first_of o ≤ first_of x
rises_behind [] o os r x c = r.0 x c
rises_behind (d ∷ done) o os r x c = rises_behind done o os r.1 x c

module _ (T : PlainTable) where
  abbrev n : ℕ
  n = length T.basis

  abbrev triples_at : ℕ → List Origin
  triples_at i = joined n (λ j. joined n (λ k. cond (is_triple T i j k) (Jacobi (i + 1) (j + 1) (k + 1) ∷ []) []))

  first_at : (i : ℕ) (x : Origin) → Contains (triples_at i) x → first_of x ≡ i + 1
  first_at i x h =
      let b = in_joined n (λ j. joined n (λ k. cond (is_triple T i j k) (Jacobi (i + 1) (j + 1) (k + 1) ∷ []) [])) x h in
      let c = in_joined n (λ k. cond (is_triple T i b.0 k) (Jacobi (i + 1) (b.0 + 1) (k + 1) ∷ []) []) x b.2 in
      sym (ap first_of (one_if _ (Jacobi (i + 1) (b.0 + 1) (c.0 + 1)) x c.2).1)

  triples_rise : (m : ℕ) → Rises (joined m triples_at)
  unfolding joined
  triples_rise zero = tt
  triples_rise (suc m) =
      rises_append (joined m triples_at) (triples_at m) (triples_rise m) (rises_same (m + 1) (triples_at m) (first_at m))
      (λ x y a b.
      let p = in_joined m triples_at x a in
      let q = first_at p.0 x p.2 in let r = first_at m y b in let l = p.1 in omega arith)

  relation_first : (p : Presentation) (x : Origin) → Contains (relations_of T p) x → first_of x ≡ 0
  relation_first p x h = ap first_of (in_relations T 1 p.relations x h).2

  no_cubes : is_three T.kind ≡ false → cubes_of T ≡ []
  no_cubes e = ap (λ (b : Bool). cond b (joined n (λ i. cond (is_cube T i) (Cube (i + 1) ∷ []) [])) []) e

  origins_rise : (p : Presentation) → is_three T.kind ≡ false → Rises (origins_of T p)
  origins_rise p e =
      rises_append (relations_of T p ++ triples_of T) (cubes_of T)
      (rises_append (relations_of T p) (triples_of T) (rises_same 0 (relations_of T p) (relation_first p)) (triples_rise n)
      (λ x y a b. let q = relation_first p x a in omega arith))
      (subst Rises (sym (no_cubes e)) tt)
      (λ x y a b. absurd (no_member y (subst (λ os. Contains os y) (no_cubes e) b)))

not_three : (k : Kind) → IsOtherPrime k → is_three k ≡ false
not_three k h = subst (λ k. is_three k ≡ false) (sym h.1) (let d = h.2 in grind arith)

late_above : (bound : ℕ) (o : Origin) → is_late bound o ≡ true → bound < first_of o
late_above bound o e = grind arith

above_late : (bound : ℕ) (o : Origin) → bound < first_of o → is_late bound o ≡ true
above_late bound o l = grind arith

module _ (p : Presentation) (T : PlainTable) (bound : ℕ) where
  -- where the bound is at the end no origin is late
  none_late : length T.basis ≤ bound → (o : Origin) → Contains (origins_of T p) o → is_late bound o ≡ true → ⊥
  none_late h o c e = go o (listed T p o c) (late_above bound o e)
    where
      go : (o : Origin) → IsListed T p o → bound < first_of o → ⊥
      go _ (listed_relation k l w) b = absurd (omega arith)
      go _ (listed_triple i j k t) b = let x = t.first in let y = t.second in let z = t.third in absurd (omega arith)
      go _ (listed_cube i c) b = absurd (omega arith)

  pub nothing_late : length T.basis ≤ bound → (done os : List Origin) → done ++ os ≡ origins_of T p → IsCut bound os → os ≡ []
  nothing_late h done [] e cut = refl
  nothing_late h done (x ∷ os) e cut =
      absurd (none_late h x (subst (λ xs. Contains xs x) e (Contains-append_right done (x ∷ os) x (first_one x os))) cut)

  -- what comes behind a late origin
  pub late_last : IsReach T bound → (done os : List Origin) → done ++ os ≡ origins_of T p → IsCut bound os → (o : Origin) → Contains os o →
      is_late bound o ≡ true
  late_last reach done [] e cut o c = absurd (no_member o c)
  late_last (inl h) done (x ∷ os) e cut o c =
      absurd (none_late h x (subst (λ xs. Contains xs x) e (Contains-append_right done (x ∷ os) x (first_one x os))) cut)
  late_last (inr h) done (x ∷ os) e cut o c = go (Contains-append_cases (x ∷ []) os o c)
    where
      single : Contains (x ∷ []) o → x ≡ o
      single m = at m.0 m.1 m.2
        where
          at : (k : ℕ) → k < length (x ∷ []) → get_or (x ∷ []) k o ≡ o → x ≡ o
          at zero l q = q
          at (suc k) l q = absurd (omega arith)

      go : Contains (x ∷ []) o ⊎ Contains os o → is_late bound o ≡ true
      go (inl m) = subst (λ w. is_late bound w ≡ true) (single m) cut
      go (inr m) =
          let r = rises_behind done x os (subst Rises (sym e) (origins_rise T p (not_three T.kind h.0))) o m in
          above_late bound o (omega (arith, late_above bound x cut))

module _ (p : Presentation) (T : PlainTable) (bound : ℕ) (holds : Holds p T) where
  rows : HasRows T
  rows = rows_of_shape T holds.shape

  weights : HasWeights T
  weights = weights_of_built p T holds.kind holds.generators holds.sound holds.built

  abbrev vector : Origin → Vector (field_of p.field)
  vector o = vector_of_origin (field_of p.field) (presentation_in p) (table_in p.field T) o

  pub late_follow : IsReach T bound → (done os : List Origin) → done ++ os ≡ origins_of T p → IsCut bound os →
      (f : Vector (field_of p.field) → Vector (field_of p.field)) → IsLinear (field_of p.field) f →
      ((o : Origin) → Contains done o → f (vector o) ≡ vzero (field_of p.field)) →
      (o : Origin) → Contains os o → f (vector o) ≡ vzero (field_of p.field)
  late_follow reach done os e cut f linear before o c = go reach
    where
      here : Contains (origins_of T p) o
      here = subst (λ xs. Contains xs o) e (Contains-append_right done os o c)

      early : (v : Vector (field_of p.field)) → IsEarlySource (field_of p.field) (presentation_in p) (table_in p.field T) bound v →
          f v ≡ vzero (field_of p.field)
      early v h =
          let r = early_origins p T holds.kind holds.generators holds.sound rows weights bound v h in
          subst (λ v. f v ≡ vzero (field_of p.field)) r.3 (before r.0 (done_has r.0 r.1 r.2))
        where
          done_has : (x : Origin) → Contains (origins_of T p) x → first_of x ≤ bound → Contains done x
          done_has x m l = cases (Contains-append_cases done os x (subst (λ xs. Contains xs x) (sym e) m))
            where
              cases : Contains done x ⊎ Contains os x → Contains done x
              cases (inl a) = a
              cases (inr b) = absurd (let u = late_above bound x (late_last p T bound reach done os e cut x b) in omega arith)

      go : IsReach T bound → f (vector o) ≡ vzero (field_of p.field)
      go (inl h) = absurd (none_late p T bound h o here (late_last p T bound reach done os e cut o c))
      go (inr h) =
          late_triples_follow (field_of p.field) (presentation_in p) (sound_is_sound p holds.sound) (table_in p.field T) holds.built bound
          (λ i l g. h.1 i g.0 l g.1) f linear early (vector o)
          (origins_are_sources p T holds.kind holds.generators holds.sound rows weights o here)
