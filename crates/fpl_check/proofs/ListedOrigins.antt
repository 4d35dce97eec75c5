-- Origins that pass their test are those of the weight; and the tests of origins, one after the other.
use Rattle.std.specs.Prelude.{◌≡◌, ℕ, zero, suc, ◌+◌, ◌-◌, ◌<◌, ◌≤◌, List, [], ◌∷◌, length, slice_get, Option, Some, None, Result, Ok, Err, Bool, true, false, ◌&&◌, nat_le, nat_lt, Contains, All}
use mathlib.Core.Path.{refl, sym, ap, subst, ◌∙◌}
use native.Mathlib.Omega.{arith}
use Rattle.std.proofs.lemmas.Option.{slice_get_within, get_or_from_slice_get}
use Rattle.fpl_numbers.specs.declared.number.Num.{Num}
use Rattle.fpl_numbers.specs.declared.number.Kind.{Kind}
use Rattle.fpl_numbers.specs.Numbers.{IsElement}
use Rattle.fpl_rows.proofs.Fits.{all_cons, all_head, all_tail}
use Rattle.math_algebra.specs.Degrees.{exact}
use Rattle.fpl_model.specs.declared.presentation.Equation.{Equation}
use Rattle.fpl_model.specs.declared.presentation.Presentation.{Presentation}
use Rattle.fpl_log.specs.declared.terms.Term.{Term}
use Rattle.fpl_log.specs.declared.step.Step.{Step}
use Rattle.fpl_log.specs.declared.step.Origin.{Origin}
use Rattle.fpl_log.specs.declared.step.Origin.TheVariants.{Relation, Jacobi, Cube, Row}
use Rattle.fpl_log.specs.Plain.{IsTermOf}
use Rattle.fpl_table.specs.Plain.{PlainTable}
use Rattle.fpl_rewrite.specs.Origins.{relation_weight, is_triple, is_cube, is_three, origins_of}
use Rattle.plain_sources.proofs.Listed.{is_three_kind, exactly_is, triple_is, cube_is, IsTriple, IsCube, IsListed, listed_relation, listed_triple, listed_cube, is_listed}
use Rattle.fpl_check.specs.declared.fault.CheckFault.{CheckFault}
use Rattle.fpl_check.specs.declared.fault.Spot.TheVariants.{Step as AtStep}
use Rattle.fpl_check.specs.declared.fault.Why.TheVariants.{BadCite}
use Rattle.fpl_check.specs.declared.cites.Cited.{Cited}
use Rattle.fpl_check.specs.declared.cites.Cited.TheVariants.{Inserts, Closes}
use Rattle.fpl_check.specs.Refusal.{Refusal, passing, demand, IsRefusal}
use Rattle.fpl_check.specs.Premises.{AreFactorsOf}
use Rattle.fpl_check.specs.Steps.{weighs_next, is_origin, is_insert, is_close, test_cites}
use Rattle.fpl_check.specs.Cited.{named}
use Rattle.fpl_check.specs.Check.{test_origin, test_origins}
use Rattle.fpl_check.proofs.Composed.{passed, refused, same_refusal}
use Rattle.fpl_check.proofs.Loops.{both_true, is_below, is_most}

-- a test that is demanded and passes
pub demanded : (b : Bool) (spot : _) (why : _) → demand b spot why ≡ Ok tt → b ≡ true
demanded true spot why e = refl
demanded false spot why e = absurd (let k : ⊥ = cc in k)

pub passing_first : {X : Type 0} (t : Result (Unit {0}) Refusal) (r : Result X Refusal) (x : X) → passing t r ≡ Ok x → (t ≡ Ok tt) × (r ≡ Ok x)
passing_first (Ok u) r x e = (refl, e)
passing_first (Err k) r x e = absurd (let z : ⊥ = cc in z)

module _ (T : PlainTable) (p : Presentation) where
  relation_is : (r : ℕ) (q : Option Equation) → slice_get p.relations (r - 1) ≡ q → 1 ≤ r → weighs_next T q ≡ true → IsListed T p (Relation r)
  relation_is r None e one w = absurd (let k : ⊥ = cc in k)
  relation_is r (Some q) e one w =
      let within = slice_get_within p.relations (r - 1) q e in
      let at : 1 + (r - 1) ≡ r = omega (arith, one) in
      let next : T.weight + 1 ≡ suc T.weight = omega arith in
      subst (λ s. IsListed T p (Relation s)) at
      (listed_relation (r - 1) within (λ d. ap (relation_weight T) (get_or_from_slice_get p.relations (r - 1) q d e)
      ∙ exactly_is (T.weight + 1) (relation_weight T q) w ∙ ap exact next))

  -- from places to the numbers of an origin
  triple_from : (i j k : ℕ) → 1 ≤ i → 1 ≤ j → 1 ≤ k → IsTriple T (i - 1) (j - 1) (k - 1) → IsListed T p (Jacobi i j k)
  triple_from (suc i) (suc j) (suc k) a b d h =
      let ei : i + 1 ≡ suc i = omega arith in
      let ej : j + 1 ≡ suc j = omega arith in
      let ek : k + 1 ≡ suc k = omega arith in
      let fi : suc i - 1 ≡ i = omega arith in
      let fj : suc j - 1 ≡ j = omega arith in
      let fk : suc k - 1 ≡ k = omega arith in
      let is : IsTriple T i j k =
      subst (λ w. IsTriple T i j w) fk (subst (λ w. IsTriple T i w (suc k - 1)) fj (subst (λ w. IsTriple T w (suc j - 1) (suc k - 1)) fi h)) in
      subst (λ w. IsListed T p (Jacobi (suc i) (suc j) w)) ek
      (subst (λ w. IsListed T p (Jacobi (suc i) w (k + 1))) ej (subst (λ w. IsListed T p (Jacobi w (j + 1) (k + 1))) ei (listed_triple i j k is)))
  triple_from zero j k a b d h = absurd (omega (arith, a))
  triple_from (suc i) zero k a b d h = absurd (omega (arith, b))
  triple_from (suc i) (suc j) zero a b d h = absurd (omega (arith, d))

  triple_listed : (i j k : ℕ) → 1 ≤ i → i ≤ j → j ≤ k → k ≤ length T.basis → is_triple T (i - 1) (j - 1) (k - 1) ≡ true → IsListed T p (Jacobi i j k)
  triple_listed i j k one l m most e =
      triple_from i j k one (omega (arith, one, l)) (omega (arith, one, l, m)) (triple_is T (i - 1) (j - 1) (k - 1) (omega (arith, one, l, m, most)) e)

  cube_from : (i : ℕ) → 1 ≤ i → IsCube T (i - 1) → IsListed T p (Cube i)
  cube_from zero a h = absurd (omega (arith, a))
  cube_from (suc i) a h =
      let e : i + 1 ≡ suc i = omega arith in
      let f : suc i - 1 ≡ i = omega arith in
      subst (λ w. IsListed T p (Cube w)) e (listed_cube i (subst (IsCube T) f h))

  cube_listed : (i : ℕ) → is_three T.kind ≡ true → 1 ≤ i → i ≤ length T.basis → is_cube T (i - 1) ≡ true → IsListed T p (Cube i)
  cube_listed i three one most e =
      let c = cube_is T (i - 1) e in
      cube_from i one (record { three = is_three_kind T.kind three; below = omega (arith, one, most); odd_one = c.0; sum = c.1 })

  listed_by : (o : Origin) → is_origin T p o ≡ true → IsListed T p o
  listed_by (Relation r) e =
      let a = both_true (nat_le 1 r) (weighs_next T (slice_get p.relations (r - 1))) e in
      relation_is r (slice_get p.relations (r - 1)) refl (is_most 1 r a.0) a.1
  listed_by (Jacobi i j k) e =
      let a = both_true _ (is_triple T (i - 1) (j - 1) (k - 1)) e in
      let b = both_true _ (nat_le k (length T.basis)) a.0 in
      let c = both_true _ (nat_le j k) b.0 in
      let d = both_true (nat_le 1 i) (nat_le i j) c.0 in
      triple_listed i j k (is_most 1 i d.0) (is_most i j d.1) (is_most j k c.1) (is_most k (length T.basis) b.1) a.1
  listed_by (Cube i) e =
      let a = both_true _ (is_cube T (i - 1)) e in
      let b = both_true (is_three T.kind && nat_le 1 i) (nat_le i (length T.basis)) a.0 in
      let d = both_true (is_three T.kind) (nat_le 1 i) b.0 in
      cube_listed i d.0 (is_most 1 i d.1) (is_most i (length T.basis) b.1) a.1
  listed_by (Row n) e = absurd (let k : ⊥ = cc in k)

  pub origin_listed : (o : Origin) → is_origin T p o ≡ true → Contains (origins_of T p) o
  origin_listed o e = is_listed T p o (listed_by o e)

-- steps that are named come before
named_before : (cited : Cited) (steps : List Step) (n m : ℕ) → named cited steps n m ≡ true → (1 ≤ m) × (m < n)
named_before Inserts steps n m e =
    let a = both_true (nat_le 1 m && nat_lt m n) (is_insert (slice_get steps (m - 1))) e in
    let b = both_true (nat_le 1 m) (nat_lt m n) a.0 in
    (is_most 1 m b.0, is_below m n b.1)
named_before Closes steps n m e =
    let a = both_true (nat_le 1 m && nat_lt m n) (is_close (slice_get steps (m - 1))) e in
    let b = both_true (nat_le 1 m) (nat_lt m n) a.0 in
    (is_most 1 m b.0, is_below m n b.1)

pub named_within : (cited : Cited) (steps : List Step) (count m : ℕ) → named cited steps (count + 1) m ≡ true → (1 ≤ m) × (m ≤ count)
named_within cited steps count m e = let a = named_before cited steps (count + 1) m e in (a.0, omega (arith, a.1))

-- terms whose citations pass
pub terms_pass : (kind : Kind) (cited : Cited) (steps : List Step) (count : ℕ) (ts : List Term) → AreFactorsOf kind ts →
    test_cites (named cited steps (count + 1)) (count + 1) ts ≡ Ok tt → All (IsTermOf kind count) ts
terms_pass kind cited steps count [] all e = λ i d l. absurd (omega (arith, l))
terms_pass kind cited steps count (t ∷ ts) all e =
    let a = passing_first (demand (named cited steps (count + 1) t.step) (AtStep (count + 1)) (BadCite t.step))
    (test_cites (named cited steps (count + 1)) (count + 1) ts) tt e in
    let b = named_within cited steps count t.step (demanded _ _ _ a.0) in
    all_cons (IsTermOf kind count) t ts (record { from_one = b.0; to_end = b.1; factor = all_head (λ t. IsElement kind t.factor) t ts all })
    (terms_pass kind cited steps count ts (all_tail (λ t. IsElement kind t.factor) t ts all) a.1)

-- the rest of a list is in it
pub contains_rest : {A : Type 0} (xs rest : List A) (x y : A) → xs ≡ x ∷ rest → Contains rest y → Contains xs y
contains_rest xs rest x y e h = subst (λ ys. Contains ys y) (sym e) (suc h.0, (let l = h.1 in omega arith), h.2)

module _ (T : PlainTable) (p : Presentation) (rows : List (List Num)) where
  pub origins_next : (os rest : List Origin) (o : Origin) → os ≡ o ∷ rest → test_origin T p rows o ≡ Ok tt →
      test_origins T p rows os ≡ test_origins T p rows rest
  origins_next os rest o e h = ap (test_origins T p rows) e ∙ passed (test_origin T p rows o) (test_origins T p rows rest) h
