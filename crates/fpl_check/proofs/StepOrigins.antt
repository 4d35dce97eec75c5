-- Steps that are closed, and the step at a place with the conclusions before it.
use Rattle.std.specs.Prelude.{◌≡◌, ◌≢◌, ℕ, zero, suc, ◌+◌, ◌-◌, ◌<◌, List, [], ◌∷◌, ◌++◌, length, get_or, slice_get, Option, Some, Bool, true, false, ◌||◌, nat_eq}
use mathlib.Core.Path.{refl, sym, ap, ◌∙◌, subst}
use native.Mathlib.Omega.{arith}
use Rattle.std.proofs.lemmas.Bool.Decides.{nat_tests}
use Rattle.std.proofs.lemmas.List.{append_assoc, length-append}
use Rattle.math_fields.specs.Field.{Field}
use Rattle.math_linear.specs.Vector.{Vector, vplus, scale}
use Rattle.math_linear.proofs.Vectors.{vplus_assoc, vplus-vzero, minus-vplus, scale_scale, scale-unit}
use Rattle.fpl_numbers.specs.declared.number.Num.{Num}
use Rattle.fpl_numbers.specs.declared.number.Kind.{Kind}
use Rattle.fpl_numbers.specs.declared.number.Kind.TheVariants.{Rational, Prime}
use Rattle.fpl_numbers.specs.Numbers.{is_nought}
use Rattle.fpl_rows.proofs.Fits.{none_some}
use Rattle.fpl_log.specs.declared.terms.Term.{Term}
use Rattle.fpl_log.specs.declared.step.Origin.{Origin}
use Rattle.fpl_log.specs.declared.step.Step.{Step}
use Rattle.fpl_log.specs.declared.step.Step.TheVariants.{Insert, Close}
use Rattle.fpl_model.specs.declared.presentation.Presentation.{Presentation}
use Rattle.fpl_table.specs.Plain.{PlainTable}
use Rattle.plain_sources.proofs.Fitting.{Always, prime_always}
use Rattle.fpl_check.specs.Steps.{is_close}
use Rattle.fpl_check.specs.ClosedRows.{close_rows}
use Rattle.fpl_check.specs.Closing.{is_closed, are_closed, is_prime}
use Rattle.fpl_check.proofs.Loops.{both_true}
use Rattle.fpl_check.proofs.StepParts.{StepParts}
use Rattle.fpl_check.proofs.Conclusions.{Concludes}

module _ (K : Field) where
  pub back : (v t : Vector K) → vplus K (vplus K v (scale K (K.minus K.unit) t)) t ≡ v
  back v t = vplus_assoc K v _ t ∙ ap (vplus K v) (minus-vplus K t) ∙ vplus-vzero K v

  pub divided : (c : K.Carrier) (v : Vector K) → c ≢ K.nought → scale K (K.inverse c) (scale K c v) ≡ v
  divided c v d = scale_scale K (K.inverse c) c v ∙ ap (λ a. scale K a v) (K.times_comm (K.inverse c) c ∙ K.times-inverse c d) ∙ scale-unit K v

-- steps that are closed
pub record ClosedBy (ss : List Step) (m : ℕ) : Type 0 where
  pub at : ℕ
  pub terms : List Term
  pub got : slice_get ss at ≡ Some (Close m terms)

same_number : (a b : ℕ) → nat_eq a b ≡ true → a ≡ b
same_number a b e = grind (arith, nat_tests)

pub closed_by : (ss : List Step) (m : ℕ) → is_closed ss m ≡ true → ClosedBy ss m
closed_by [] m e = absurd (let k : ⊥ = cc in k)
closed_by ((Insert o ts k) ∷ ss) m e = let h = closed_by ss m e in record { at = suc h.at; terms = h.terms; got = h.got }
closed_by ((Close of ts) ∷ ss) m e = go (nat_eq of m) refl (closed_by ss m) e
  where
    go : (b : Bool) → nat_eq of m ≡ b → (is_closed ss m ≡ true → ClosedBy ss m) → (b || is_closed ss m) ≡ true → ClosedBy ((Close of ts) ∷ ss) m
    go true z h f = record { at = 0; terms = ts; got = ap (λ w. Some (Close w ts)) (same_number of m z) }
    go false z h f = let k = h f in record { at = suc k.at; terms = k.terms; got = k.got }

pub is_closed_at : (all : List Step) (ss : List Step) (first m : ℕ) (o : Origin) (ts : List Term) (k : Num) → are_closed all first ss ≡ true →
    slice_get ss m ≡ Some (Insert o ts k) → is_nought k ≡ false → is_closed all (first + m) ≡ true
is_closed_at all [] first m o ts k e f z = absurd (none_some f)
is_closed_at all ((Insert o' ts' k') ∷ ss) first zero o ts k e f z =
    let a = both_true (is_nought k' || is_closed all first) (are_closed all (first + 1) ss) e in
    let same : k' ≡ k = kept f in
    let here : first + 0 ≡ first = omega arith in
    subst (λ n. is_closed all n ≡ true) (sym here) (subst (λ b. (b || is_closed all first) ≡ true) (ap is_nought same ∙ z) a.0)
  where
    kept : {o o' : Origin} {ts ts' : List Term} {k k' : Num} → ◌≡◌ {A = Option Step} (Some (Insert o' ts' k')) (Some (Insert o ts k)) → k' ≡ k
    kept g = cc
is_closed_at all ((Close of ts') ∷ ss) first zero o ts k e f z = absurd (let h : ⊥ = cc in h)
is_closed_at all ((Insert o' ts' k') ∷ ss) first (suc m) o ts k e f z =
    let a = both_true (is_nought k' || is_closed all first) (are_closed all (first + 1) ss) e in
    let next : first + 1 + m ≡ first + suc m = omega arith in
    subst (λ n. is_closed all n ≡ true) next (is_closed_at all ss (first + 1) m o ts k a.1 f z)
is_closed_at all ((Close of ts') ∷ ss) first (suc m) o ts k e f z =
    let next : first + 1 + m ≡ first + suc m = omega arith in
    subst (λ n. is_closed all n ≡ true) next (is_closed_at all ss (first + 1) m o ts k e f z)

-- the conclusion of a Close step is one of theirs
pub record AmongCloses (rows : List (List Num)) (row : List Num) : Type 0 where
  pub at : ℕ
  pub within : at < length rows
  pub is : get_or rows at [] ≡ row

pub among_closes : (ss : List Step) (rows : List (List Num)) (m : ℕ) → length rows ≡ length ss → is_close (slice_get ss m) ≡ true →
    AmongCloses (close_rows ss rows) (get_or rows m [])
among_closes [] rows m l e = absurd (let k : ⊥ = cc in k)
among_closes (s ∷ ss) [] m l e = absurd (omega (arith, l))
among_closes ((Insert o ts k) ∷ ss) (row ∷ rows) zero l e = absurd (let k : ⊥ = cc in k)
among_closes ((Close of ts) ∷ ss) (row ∷ rows) zero l e = record { at = 0; within = omega arith; is = refl }
among_closes ((Insert o ts k) ∷ ss) (row ∷ rows) (suc m) l e = among_closes ss rows m (omega (arith, l)) e
among_closes ((Close of ts) ∷ ss) (row ∷ rows) (suc m) l e = let h = among_closes ss rows m (omega (arith, l)) e in let w = h.within in record {
  at = suc h.at;
  within = omega (arith, w);
  is = h.is;
}

-- the step at a place and the conclusions before it
module _ (T : PlainTable) (p : Presentation) (steps : List Step) where
  pub record Placed (all : List (List Num)) (long : ℕ) (st : Step) : Type 0 where
    pub before : List (List Num)
    pub row : List Num
    pub after : List (List Num)
    pub is : all ≡ before ++ row ∷ after
    pub count : length before ≡ long
    pub parts : StepParts T p steps before st row

  pub placed : (ss : List Step) (earlier rest : List (List Num)) (m : ℕ) (st : Step) → Concludes T p steps earlier ss rest → slice_get ss m ≡ Some st →
      Placed (earlier ++ rest) (length earlier + m) st
  placed [] earlier rest m st h e = absurd (none_some e)
  placed (s ∷ ss) earlier [] m st h e = absurd h
  placed (s ∷ ss) earlier (x ∷ rest) zero st h e = record {
    before = earlier;
    row = x;
    after = rest;
    is = refl;
    count = omega arith;
    parts = subst (λ w. StepParts T p steps earlier w x) (same e) h.0;
  }
    where
      same : ◌≡◌ {A = Option Step} (Some s) (Some st) → s ≡ st
      same g = cc
  placed (s ∷ ss) earlier (x ∷ rest) (suc m) st h e =
      let k = placed ss (earlier ++ x ∷ []) rest m st h.1 e in
      let l = length-append earlier (x ∷ []) in
      let c = k.count in
      record {
        before = k.before;
        row = k.row;
        after = k.after;
        is = sym (append_assoc earlier (x ∷ []) rest) ∙ k.is;
        count = omega (arith, l, c);
        parts = k.parts;
      }

pub prime_fits : (kind : Kind) → is_prime kind ≡ true → Always kind
prime_fits Rational e = absurd (let k : ⊥ = cc in k)
prime_fits (Prime p) e = prime_always p
