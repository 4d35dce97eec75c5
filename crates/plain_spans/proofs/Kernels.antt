-- The rows of the free positions span the solutions.
use Rattle.std.specs.Prelude.{◌≡◌, ℕ, zero, suc, ◌+◌, ◌<◌, ◌≤◌, ◌↔◌, ◌⊎◌, List, [], ◌∷◌, ◌++◌, length, get_or, Option, Some, None, option_map, Result, Ok, Err, All, nat_eq, cond, true, false, Bool}
use Rattle.std.specs.List.{find}
use mathlib.Core.Logic.{inl, inr}
use mathlib.Core.Path.{sym, refl, ap, ◌∙◌, fun_ext, subst}
use native.Mathlib.Omega.{arith}
use native.Mathlib.Decide.{ℕ_discrete, dec_lt}
use Rattle.math_linear.specs.Vector.{Vector, place}
use Rattle.math_linear.specs.Lists.{joined, vector_of}
use Rattle.math_linear.specs.Span.{Spanned}
use Rattle.math_linear.specs.Echelon.{IsRow}
use Rattle.math_linear.specs.Kernel.{IsSolution, IsFree, free_at as free_in, free_row as row_in}
use Rattle.math_linear.proofs.Span.{spanned_one, spanned_more}
use Rattle.math_linear.proofs.Vectors.{place_same, place_other}
use Rattle.math_linear.proofs.Kernel.{solutions_are, same_solutions, free_solves}
use Rattle.fpl_numbers.specs.declared.number.Num.{Num}
use Rattle.fpl_numbers.specs.declared.number.Kind.{Kind}
use Rattle.fpl_numbers.specs.declared.number.Unfit.{Unfit}
use Rattle.fpl_numbers.specs.Numbers.{IsField, IsElement, residue}
use Rattle.fpl_numbers.specs.Kinds.{field_of, number_of}
use Rattle.fpl_numbers.proofs.KindReads.{kind_reads}
use Rattle.fpl_rows.specs.Meaning.{vector_in, IsRowOf}
use Rattle.fpl_rows.proofs.Fits.{none_some, first_fits, all_found}
use Rattle.fpl_rows.proofs.Ones.{one_element, one_is}
use Rattle.fpl_rows.proofs.Noughts.{nought_element}
use Rattle.fpl_rows.proofs.Readings.{vector_past, at_place}
use Rattle.plain_elimination.specs.Plain.{PivotRow, IsPivotRow, stands_at}
use Rattle.plain_elimination.specs.Spans.{table_of}
use Rattle.plain_spans.specs.Plain.{begin, put_rows, closed_of, free_by, free_number, numbers_to, free_row, free_at, free_rows, span_of, kernel_by}
use Rattle.plain_spans.specs.Means.{IsFormed, AreFormed, KernelMeans}
use Rattle.plain_spans.proofs.Gathered.{IsClosedSpan, over, gathered, closes, span_means}

-- a list with one number more
length_more : (xs : List Num) (y : Num) → length (xs ++ y ∷ []) ≡ suc (length xs)
length_more [] y = refl
length_more (x ∷ xs) y = ap suc (length_more xs y)

at_more : (xs : List Num) (y d : Num) (s : ℕ) → s < length xs → get_or (xs ++ y ∷ []) s d ≡ get_or xs s d
at_more [] y d s l = absurd (omega arith)
at_more (x ∷ xs) y d zero l = refl
at_more (x ∷ xs) y d (suc s) l = at_more xs y d s (omega arith)

at_last : (xs : List Num) (y d : Num) → get_or (xs ++ y ∷ []) (length xs) d ≡ y
at_last [] y d = refl
at_last (x ∷ xs) y d = at_last xs y d

pub numbers_length : (n : ℕ) (at : ℕ → Num) → length (numbers_to n at) ≡ n
numbers_length zero at = refl
numbers_length (suc n) at = length_more (numbers_to n at) (at n) ∙ ap suc (numbers_length n at)

pub number_at : (n : ℕ) (at : ℕ → Num) (s : ℕ) (d : Num) → s < n → get_or (numbers_to n at) s d ≡ at s
number_at zero at s d l = absurd (omega arith)
number_at (suc n) at s d l = go (ℕ_discrete s n) (λ k. number_at n at s d k)
  where
    go : Dec (s ≡ n) → (s < n → get_or (numbers_to n at) s d ≡ at s) → get_or (numbers_to n at ++ at n ∷ []) s d ≡ at s
    go (yes e) h = ap (λ k. get_or (numbers_to n at ++ at n ∷ []) k d) (e ∙ sym (numbers_length n at)) ∙ at_last (numbers_to n at) (at n) d ∙ ap at (sym e)
    go (no e) h = at_more (numbers_to n at) (at n) d s (let k = numbers_length n at in omega arith) ∙ h (omega arith)

module _ (kind : Kind) (listed : IsField kind) (n : ℕ) (pivots : List PivotRow) (rows : All (IsPivotRow kind n) pivots) where
  by_element : (f s : ℕ) (o : Option PivotRow) → find (stands_at (s + 1)) pivots ≡ o → f < n → IsElement kind (free_by kind f s o)
  by_element f s None e l = if_element (nat_eq f s)
    where
      if_element : (b : Bool) → IsElement kind (cond b (residue 1) (residue 0))
      if_element true = one_element kind listed
      if_element false = nought_element kind (residue 1) (one_element kind listed)
  by_element f s (Some p) e l =
      let h = all_found (IsPivotRow kind n) (stands_at (s + 1)) pivots p rows (sym e) in
      ((kind_reads kind listed).negative (get_or p.row f (residue 0)) (h.elements f (residue 0) (let k = h.length_is in omega arith))).0

  pub free_is_row : (f : ℕ) → f < n → IsRowOf kind n (free_row kind n pivots f)
  free_is_row f l = record {
    elements = λ s d m. subst (IsElement kind)
        (sym (number_at n (free_number kind pivots f) s d (let k = numbers_length n (free_number kind pivots f) in omega arith)))
        (by_element f s (find (stands_at (s + 1)) pivots) refl l);
    length_is = numbers_length n (free_number kind pivots f);
  }

  by_value : (f s : ℕ) (o : Option PivotRow) → find (stands_at (s + 1)) pivots ≡ o → f < n →
      number_of kind (free_by kind f s o) ≡ free_in (field_of kind) (option_map (λ p. vector_of (field_of kind) (number_of kind) p.row) o) f s
  unfolding free_in
  by_value f s None e l = go (ℕ_discrete f s)
    where
      go : Dec (f ≡ s) → number_of kind (cond (nat_eq f s) (residue 1) (residue 0)) ≡ place (field_of kind) f s
      go (yes d) = (let t : nat_eq f s ≡ true = grind arith in rw t (one_is kind (field_of kind) (number_of kind) (kind_reads kind listed) listed)) ∙
          sym (place_same (field_of kind) f) ∙ ap (place (field_of kind) f) d
      go (no d) = (let t : nat_eq f s ≡ false = grind arith in
          rw t ((kind_reads kind listed).zero_is (residue 0) (nought_element kind (residue 1) (one_element kind listed)) refl)) ∙
          sym (place_other (field_of kind) f s d)
  by_value f s (Some p) e l =
      let h = all_found (IsPivotRow kind n) (stands_at (s + 1)) pivots p rows (sym e) in
      ((kind_reads kind listed).negative (get_or p.row f (residue 0)) (h.elements f (residue 0) (let k = h.length_is in omega arith))).1
      ∙ ap (field_of kind).minus (sym (at_place kind (field_of kind) (number_of kind) (kind_reads kind listed) p.row f (residue 0)
      (let k = h.length_is in omega arith)))

  module _ (S : Vector (field_of kind) → Type 0) (c : IsClosedSpan kind listed n S pivots) where
    pub free_vector : (f : ℕ) → f < n → find (stands_at (f + 1)) pivots ≡ None → vector_in kind (free_row kind n pivots f) ≡
        row_in (field_of kind) (table_of (field_of kind) (number_of kind) pivots) f
    unfolding row_in
    free_vector f l e = fun_ext (λ s. go s (dec_lt s n))
      where
        none_at : table_of (field_of kind) (number_of kind) pivots f ≡ None
        none_at = ap (option_map (λ p. vector_of (field_of kind) (number_of kind) p.row)) e

        go : (s : ℕ) → Dec (s < n) → vector_in kind (free_row kind n pivots f) s ≡ free_in (field_of kind)
            (table_of (field_of kind) (number_of kind) pivots s) f s
        go s (yes m) =
            at_place kind (field_of kind) (number_of kind) (kind_reads kind listed) (free_row kind n pivots f) s (residue 0)
            (let k = numbers_length n (free_number kind pivots f) in omega arith)
            ∙ ap (number_of kind) (number_at n (free_number kind pivots f) s (residue 0) m)
            ∙ by_value f s (find (stands_at (s + 1)) pivots) refl l
        go s (no m) =
            vector_past (field_of kind) (number_of kind) (free_row kind n pivots f) s (let k = numbers_length n (free_number kind pivots f) in omega arith)
            ∙ sym ((free_solves (field_of kind) n (table_of (field_of kind) (number_of kind) pivots) c.reduced f l none_at).past s (omega arith))

    abbrev IsFreeOne : ℕ → Vector (field_of kind) → Type 0
    IsFreeOne m x = (f : ℕ) × (f < m) × (find (stands_at (f + 1)) pivots ≡ None) × (x ≡ vector_in kind (free_row kind n pivots f))

    formed_more : (rs ss : List (Result (List Num) Unfit)) (x : Vector (field_of kind)) → IsFormed kind (rs ++ ss) x → IsFormed kind rs x ⊎ IsFormed kind ss x
    formed_more [] ss x h = inr h
    formed_more (Ok r ∷ rs) ss x (inl e) = inl (inl e)
    formed_more (Ok r ∷ rs) ss x (inr h) = elim (formed_more rs ss x h) [ inl a ↦ inl (inr a) | inr a ↦ inr a ]
    formed_more (Err u ∷ rs) ss x h = formed_more rs ss x h

    formed_left : (rs ss : List (Result (List Num) Unfit)) (x : Vector (field_of kind)) → IsFormed kind rs x → IsFormed kind (rs ++ ss) x
    formed_left [] ss x h = absurd h
    formed_left (Ok r ∷ rs) ss x (inl e) = inl e
    formed_left (Ok r ∷ rs) ss x (inr h) = inr (formed_left rs ss x h)
    formed_left (Err u ∷ rs) ss x h = formed_left rs ss x h

    formed_right : (rs ss : List (Result (List Num) Unfit)) (x : Vector (field_of kind)) → IsFormed kind ss x → IsFormed kind (rs ++ ss) x
    formed_right [] ss x h = h
    formed_right (Ok r ∷ rs) ss x h = inr (formed_right rs ss x h)
    formed_right (Err u ∷ rs) ss x h = formed_right rs ss x h

    are_more : (rs ss : List (Result (List Num) Unfit)) → AreFormed kind n rs → AreFormed kind n ss → AreFormed kind n (rs ++ ss)
    are_more [] ss h k = k
    are_more (Ok r ∷ rs) ss h k = (h.0, are_more rs ss h.1 k)
    are_more (Err u ∷ rs) ss h k = are_more rs ss h k

    free_formed : (m : ℕ) → m ≤ n → AreFormed kind n (free_rows kind n pivots m)
    unfolding joined
    free_formed zero l = tt
    free_formed (suc m) l = are_more (free_rows kind n pivots m) _ (free_formed m (omega arith)) (go (find (stands_at (m + 1)) pivots))
      where
        go : (o : Option PivotRow) → AreFormed kind n (free_at kind n pivots m o)
        go None = (free_is_row m (omega arith), tt)
        go (Some p) = tt

    free_to : (m : ℕ) (x : Vector (field_of kind)) → IsFormed kind (free_rows kind n pivots m) x → IsFreeOne m x
    unfolding joined
    free_to zero x h = absurd h
    free_to (suc m) x h = by (free_to m x) (formed_more (free_rows kind n pivots m) _ x h)
      where
        last : (o : Option PivotRow) → find (stands_at (m + 1)) pivots ≡ o → IsFormed kind (free_at kind n pivots m o) x → IsFreeOne (suc m) x
        last None e (inl k) = (m, (omega arith), e, k)
        last None e (inr k) = absurd k
        last (Some p) e k = absurd k

        by : (IsFormed kind (free_rows kind n pivots m) x → IsFreeOne m x) → IsFormed kind (free_rows kind n pivots m) x ⊎
            IsFormed kind (free_at kind n pivots m (find (stands_at (m + 1)) pivots)) x → IsFreeOne (suc m) x
        by further (inl k) = (let r = further k in (r.0, (omega (arith, r.1)), r.2, r.3))
        by further (inr k) = last (find (stands_at (m + 1)) pivots) refl k

    free_from : (m : ℕ) (x : Vector (field_of kind)) → IsFreeOne m x → IsFormed kind (free_rows kind n pivots m) x
    unfolding joined
    free_from zero x h = absurd (omega (arith, h.1))
    free_from (suc m) x h = go (free_from m x) (ℕ_discrete h.0 m)
      where
        go : (IsFreeOne m x → IsFormed kind (free_rows kind n pivots m) x) → Dec (h.0 ≡ m) →
            IsFormed kind (free_rows kind n pivots m ++ free_at kind n pivots m (find (stands_at (m + 1)) pivots)) x
        go further (yes e) =
            formed_right (free_rows kind n pivots m) _ x
            (subst (λ o. IsFormed kind (free_at kind n pivots m o) x) (sym (subst (λ f. find (stands_at (f + 1)) pivots ≡ None) e h.2))
            (inl (subst (λ f. x ≡ vector_in kind (free_row kind n pivots f)) e h.3)))
        go further (no e) = formed_left (free_rows kind n pivots m) _ x (further (h.0, (let l = h.1 in omega arith), h.2, h.3))

    none_found : (f : ℕ) → table_of (field_of kind) (number_of kind) pivots f ≡ None → find (stands_at (f + 1)) pivots ≡ None
    none_found f e = go (find (stands_at (f + 1)) pivots) e
      where
        go : (o : Option PivotRow) → option_map (λ p. vector_of (field_of kind) (number_of kind) p.row) o ≡ None → o ≡ None
        go None k = refl
        go (Some p) k = absurd (some_none k)
          where
            some_none : {X : Type 0} {x : X} → Some x ≡ None → ⊥
            some_none k = none_some (sym k)

    pub frees_are : (x : Vector (field_of kind)) → Spanned (field_of kind) (IsFormed kind (free_rows kind n pivots n)) x ↔
        Spanned (field_of kind) (IsFree (field_of kind) n (table_of (field_of kind) (number_of kind) pivots)) x
    frees_are x = (
      spanned_more (field_of kind) _ _
          (λ y h. let r = free_to n y h in (
            r.0,
            (
              r.1,
              (
                ap (option_map (λ p. vector_of (field_of kind) (number_of kind) p.row)) r.2,
                r.3 ∙ free_vector r.0 r.1 r.2,
              ),
            ),
          )) x,
      spanned_more (field_of kind) _ _
          (λ y h. free_from n y (h.0, h.1.0, none_found h.0 h.1.1.0, h.1.1.1 ∙ sym (free_vector h.0 h.1.0 (none_found h.0 h.1.1.0)))) x,
    )

    pub solutions : (x : Vector (field_of kind)) → Spanned (field_of kind) (IsFormed kind (free_rows kind n pivots n)) x ↔ IsSolution (field_of kind) n S x
    solutions x =
        let a = frees_are x in
        let b = solutions_are (field_of kind) n (table_of (field_of kind) (number_of kind) pivots) c.reduced x in (
          (λ h. same_solutions (field_of kind) n (IsRow (field_of kind) (table_of (field_of kind) (number_of kind) pivots)) S
              (λ u r. (c.spans u).0 (spanned_one (field_of kind) S u r)) x (b.0 (a.0 h))),
          (λ h. a.1 (b.1 (same_solutions (field_of kind) n S (IsRow (field_of kind) (table_of (field_of kind) (number_of kind) pivots))
              (λ u r. (c.spans u).1 (spanned_one (field_of kind) _ u r)) x h))),
        )

pub kernel_means : (k : Kind) → KernelMeans k
kernel_means k listed n rows closed f is =
    let e = first_fits kernel_by (put_rows rows (begin k n)) closed is in
    let g = gathered k listed n rows e.0 f e.1.0 in
    let by : kernel_by (over k listed n g.held) ≡ Ok closed = ap kernel_by (sym g.is) ∙ e.1.1 in
    let p = first_fits (λ pivots. span_of k n (free_rows k n pivots n)) (closed_of (over k listed n g.held)) closed by in
    let c = closes k listed n (IsFormed k rows) e.0 p.0 g (ap closed_of g.is ∙ p.1.0) in
    let m = span_means k listed n (free_rows k n p.0 n) closed (free_formed k listed n p.0 c.rows (IsFormed k rows) c n (omega arith)) p.1.1 in
    (m.0, (λ v. let s = solutions k listed n p.0 c.rows (IsFormed k rows) c v in ((λ h. s.0 ((m.1 v).0 h)), (λ h. (m.1 v).1 (s.1 h)))))

-- a list of numbers, as a vector
pub numbers_vector : (kind : Kind) → IsField kind → (n : ℕ) (at : ℕ → Num) (s : ℕ) → s < n →
    vector_in kind (numbers_to n at) s ≡ number_of kind (at s)
numbers_vector kind listed n at s l =
    at_place kind (field_of kind) (number_of kind) (kind_reads kind listed) (numbers_to n at) s (residue 0) (let k = numbers_length n at in omega arith)
    ∙ ap (number_of kind) (number_at n at s (residue 0) l)

pub numbers_past : (kind : Kind) (n : ℕ) (at : ℕ → Num) (s : ℕ) → n ≤ s → vector_in kind (numbers_to n at) s ≡ (field_of kind).nought
numbers_past kind n at s l = vector_past (field_of kind) (number_of kind) (numbers_to n at) s (let k = numbers_length n at in omega arith)

pub unit_element : (kind : Kind) → IsField kind → (b : Bool) → IsElement kind (cond b (residue 1) (residue 0))
unit_element kind listed true = one_element kind listed
unit_element kind listed false = nought_element kind (residue 1) (one_element kind listed)

pub numbers_row : (kind : Kind) (n : ℕ) (at : ℕ → Num) → ((s : ℕ) → s < n → IsElement kind (at s)) → IsRowOf kind n (numbers_to n at)
numbers_row kind n at h = record {
  elements = λ s d m. subst (IsElement kind) (sym (number_at n at s d (let k = numbers_length n at in omega arith)))
      (h s (let k = numbers_length n at in omega arith));
  length_is = numbers_length n at;
}

-- 1 at i
pub unit_value : (kind : Kind) → IsField kind → (i s : ℕ) → number_of kind (cond (nat_eq i s) (residue 1) (residue 0)) ≡ place (field_of kind) i s
unit_value kind listed i s = go (ℕ_discrete i s)
  where
    go : Dec (i ≡ s) → number_of kind (cond (nat_eq i s) (residue 1) (residue 0)) ≡ place (field_of kind) i s
    go (yes d) =
        (let t : nat_eq i s ≡ true = grind arith in rw t (one_is kind (field_of kind) (number_of kind) (kind_reads kind listed) listed))
        ∙ sym (place_same (field_of kind) i) ∙ ap (place (field_of kind) i) d
    go (no d) =
        (let t : nat_eq i s ≡ false = grind arith in
        rw t ((kind_reads kind listed).zero_is (residue 0) (nought_element kind (residue 1) (one_element kind listed)) refl))
        ∙ sym (place_other (field_of kind) i s d)
