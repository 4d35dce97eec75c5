-- The expressions of a sentence whose names are all known are terms of its generators.
use Rattle.std.proofs.Common.{◌≡◌, ℕ, zero, suc, ◌≤◌, ◌==◌, List, [], ◌∷◌, ◌++◌, length, map, Bool, true, false, if◌then◌else◌, refl, ap, ◌∙◌, arith, length-append}
use Rattle.std.specs.Prelude.{None, Some}
use Rattle.std.specs.declared.option.Option.{Option}
use Rattle.fpl_numbers.specs.declared.number.Num.{Num}
use Rattle.fpl_numbers.specs.declared.number.Kind.{Kind}
use Rattle.fpl_numbers.specs.Numbers.{IsElement}
use Rattle.math_algebra.specs.Tree.{Tree, Trees, gen, none, sum_of, multiple, bracket_of, end as last, more, trees}
use Rattle.fpl_model.specs.declared.expr.Expr.{Expr}
use Rattle.fpl_model.specs.declared.expr.Expr as expr
use Rattle.fpl_model.specs.Meaning.{plain}
use Rattle.fpl_model.specs.Sound.{IsTerm, AreTerms, IsWithin, AreWithin, count_tree, count_trees}
use Rattle.fpl_model.proofs.Plain.{plain-Gen, plain-Zero, plain-Sum, plain-Times, plain-Br}
use Rattle.fpl_syntax.specs.declared.terminal.Word.{Word}
use Rattle.fpl_syntax.specs.declared.expression.Scale.{Scale}
use Rattle.fpl_syntax.specs.declared.expression.Scale.TheVariants.{One, Whole, Quotient}
use Rattle.fpl_syntax.specs.Grammar.{Scope, Sum, sum, Terms, end, further, term, Factor, name, zero as nought, bracket, group, coefficient_of, term_of, total, expression_of, further_of, factor_of}
use Rattle.fpl_reader.specs.declared.survey.Event.{Event}
use Rattle.fpl_reader.specs.Events.{events_scale, events_sum, events_terms, events_factor}
use Rattle.fpl_reader.specs.Reading.{or_else, first_place, unknown_in}

-- of two lists

pub or_else-none : (a b : Option ℕ) → or_else a b ≡ None → (a ≡ None) × (b ≡ None)
or_else-none None b e = (refl, e)
or_else-none (Some place) b e = cc

pub first_place-append : {A : Type 0} (f : A → Option ℕ) (xs ys : List A) → first_place f (xs ++ ys) ≡ None →
    (first_place f xs ≡ None) × (first_place f ys ≡ None)
first_place-append f [] ys e = (refl, e)
first_place-append f (x ∷ xs) ys e =
    let h = or_else-none (f x) (first_place f (xs ++ ys)) e in
    let r = first_place-append f xs ys h.1 in
    (ap (λ o. or_else o (first_place f xs)) h.0 ∙ r.0, r.1)

nonzero : (m : ℕ) → (m == 0) ≡ false → 1 ≤ m
nonzero zero e = cc
nonzero (suc m) e = omega arith

module _ (scope : Scope) (n : ℕ) (numbered : (w : Word) → scope.number w ≤ n) (elements : (negative : Bool) (a b : ℕ) →
    IsElement scope.kind (coefficient_of scope.kind negative a b)) where
  -- all names in these events are known
  abbrev pub Known : List Event → Type 0
  Known es = first_place (unknown_in scope) es ≡ None

  abbrev Fine : Expr → Type 0
  Fine e = IsWithin scope.kind n (plain e)

  abbrev AllFine : List Expr → Type 0
  AllFine es = AreWithin scope.kind n (trees (map plain es))

  fine_name : (w : Word) (t : Bool) → (scope.number w == 0) ≡ t → or_else (if t then Some w.start else None) None ≡ None → Fine (expr.Gen (scope.number w))
  fine_name w true e h = cc
  fine_name w false e h = rw plain-Gen (known_number w e, numbered w)
    where
      known_number : (w : Word) → (scope.number w == 0) ≡ false → 1 ≤ scope.number w
      known_number w e = omega (arith, nonzero (scope.number w) e)

  fine_times : (c : Num) (e : Expr) → IsElement scope.kind c → Fine e → Fine (expr.Times c e)
  fine_times c e h k = rw plain-Times (h, k)

  fine_term : (negative : Bool) (scale : Scale) (e : Expr) → Fine e → Fine (term_of scope negative scale e)
  fine_term false One e h = h
  fine_term true One e h = fine_times _ e (elements true 1 1) h
  fine_term negative (Whole m) e h = fine_times _ e (elements negative m.value 1) h
  fine_term negative (Quotient m d) e h = fine_times _ e (elements negative m.value d.value) h

  fine_total : (es : List Expr) → AllFine es → Fine (total es)
  fine_total [] h = rw plain-Zero tt
  fine_total (e ∷ []) h = h.0
  fine_total (e ∷ f ∷ es) h = rw plain-Sum (omega arith, h)

  mutual
    pub fine_sum : (s : Sum) → Known (events_sum s) → Fine (expression_of scope s)
    fine_sum (sum plus (term negative scale f) ts) h =
        let k = first_place-append (unknown_in scope) (events_scale scale) (events_factor f ++ events_terms ts) h in
        let l = first_place-append (unknown_in scope) (events_factor f) (events_terms ts) k.1 in
        fine_total (term_of scope negative scale (factor_of scope f) ∷ further_of scope ts)
        (fine_term negative scale (factor_of scope f) (fine_factor f l.0), fine_terms ts l.1)

    fine_terms : (ts : Terms) → Known (events_terms ts) → AllFine (further_of scope ts)
    fine_terms end h = tt
    fine_terms (further (term negative scale f) ts) h =
        let k = first_place-append (unknown_in scope) (events_scale scale) (events_factor f ++ events_terms ts) h in
        let l = first_place-append (unknown_in scope) (events_factor f) (events_terms ts) k.1 in
        (fine_term negative scale (factor_of scope f) (fine_factor f l.0), fine_terms ts l.1)

    fine_factor : (f : Factor) → Known (events_factor f) → Fine (factor_of scope f)
    fine_factor (name w) h = fine_name w (scope.number w == 0) refl h
    fine_factor (nought place) h = rw plain-Zero tt
    fine_factor (bracket a b) h =
        let k = first_place-append (unknown_in scope) (events_sum a) (events_sum b) h in
        rw plain-Br (fine_sum a k.0, fine_sum b k.1)
    fine_factor (group a) h = fine_sum a h

mutual
  pub within_term : (k : Kind) (n : ℕ) (t : Tree Num) → IsWithin k n t → IsTerm k n t
  within_term k n (gen g) h = h
  within_term k n none h = h
  within_term k n (sum_of es) h = within_terms k n es h.1
  within_term k n (multiple c e) h = (h.0, within_term k n e h.1)
  within_term k n (bracket_of a b) h = (within_term k n a h.0, within_term k n b h.1)

  within_terms : (k : Kind) (n : ℕ) (ts : Trees Num) → AreWithin k n ts → AreTerms k n ts
  within_terms k n last h = tt
  within_terms k n (more e es) h = (within_term k n e h.0, within_terms k n es h.1)

-- how many places of generators there are

module _ (scope : Scope) where
  abbrev places : Expr → ℕ
  places e = count_tree (plain e)

  abbrev all_places : List Expr → ℕ
  all_places es = count_trees (trees (map plain es))

  places_term : (negative : Bool) (scale : Scale) (e : Expr) → places (term_of scope negative scale e) ≡ places e
  places_term false One e = refl
  places_term true One e = rw plain-Times refl
  places_term negative (Whole m) e = rw plain-Times refl
  places_term negative (Quotient m d) e = rw plain-Times refl

  places_total : (es : List Expr) → places (total es) ≡ all_places es
  places_total [] = rw plain-Zero refl
  places_total (e ∷ []) = omega arith
  places_total (e ∷ f ∷ es) = rw plain-Sum refl

  mutual
    pub places_sum : (s : Sum) → places (expression_of scope s) ≤ length (events_sum s)
    places_sum (sum plus (term negative scale f) ts) =
        let t = places_total (term_of scope negative scale (factor_of scope f) ∷ further_of scope ts) in
        let u = places_term negative scale (factor_of scope f) in
        let v = places_factor f in
        let w = places_terms ts in
        let x = length-append (events_scale scale) (events_factor f ++ events_terms ts) in
        let y = length-append (events_factor f) (events_terms ts) in
        omega arith

    places_terms : (ts : Terms) → all_places (further_of scope ts) ≤ length (events_terms ts)
    places_terms end = omega arith
    places_terms (further (term negative scale f) ts) =
        let u = places_term negative scale (factor_of scope f) in
        let v = places_factor f in
        let w = places_terms ts in
        let x = length-append (events_scale scale) (events_factor f ++ events_terms ts) in
        let y = length-append (events_factor f) (events_terms ts) in
        omega arith

    places_factor : (f : Factor) → places (factor_of scope f) ≤ length (events_factor f)
    places_factor (name w) = rw plain-Gen (omega arith)
    places_factor (nought place) = rw plain-Zero (omega arith)
    places_factor (bracket a b) =
        let u = places_sum a in
        let v = places_sum b in
        let x = length-append (events_sum a) (events_sum b) in
        rw plain-Br (omega arith)
    places_factor (group a) = places_sum a
