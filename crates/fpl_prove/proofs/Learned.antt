-- What the closed rows of an accepted section say of what is 0.
use Rattle.std.proofs.Common.{◌≡◌, ◌<◌, ◌+◌, ◌-◌, ℕ, zero, suc, List, [], ◌∷◌, length, map, get_or, refl, ap, sym, subst, ◌∙◌, arith, All, true}
use Rattle.std.specs.Prelude.{slice_get, Some, Ok, not, ◌&&◌, nat_lt, nat_le}
use Rattle.std.proofs.lemmas.Option.{slice_get_within, slice_get-get_or}
use Rattle.std.proofs.lemmas.List.{get_or-map, length-map}
use Rattle.fpl_numbers.specs.declared.number.Num.{Num}
use Rattle.fpl_numbers.specs.declared.number.Kind.{Kind}
use Rattle.fpl_numbers.specs.declared.number.Kind.TheVariants.{Prime}
use Rattle.fpl_numbers.specs.Numbers.{is_nought}
use Rattle.fpl_numbers.specs.Kinds.{field_of}
use Rattle.fpl_rows.specs.Meaning.{pivot_of, pivot_in, row_in, IsClosedList, vector_in}
use Rattle.math_linear.specs.Closed.{IsClosed}
use Rattle.fpl_rows.proofs.Fits.{none_some, some_same, all_cons}
use Rattle.fpl_log.specs.declared.closed.Coefficient.{Coefficient}
use Rattle.fpl_log.specs.declared.section.Section.{Section}
use Rattle.fpl_log.specs.declared.step.Step.{Step}
use Rattle.fpl_log.specs.declared.step.Step.TheVariants.{Insert, Close}
use Rattle.fpl_model.specs.declared.presentation.Presentation.{Presentation}
use Rattle.fpl_table.specs.Plain.{PlainTable, symbols_in}
use Rattle.plain_tables.specs.Holds.{Holds}
use Rattle.plain_sources.proofs.HeldTables.{is_field}
use Rattle.fpl_rewrite.specs.Origins.{origins_of}
use Rattle.fpl_check.specs.declared.fault.Spot.TheVariants.{Closed as AtClosed}
use Rattle.fpl_check.specs.declared.fault.Why.TheVariants.{RowForm}
use Rattle.fpl_check.specs.Refusal.{passing, demand}
use Rattle.fpl_check.specs.Premises.{IsSectionFor}
use Rattle.fpl_check.specs.Steps.{conclusions_of}
use Rattle.fpl_check.specs.ClosedRows.{is_formed, test_closes, test_forms, close_rows}
use Rattle.fpl_check.specs.Check.{Accepts, rows_stored, test_closed, test_count, test_origins}
use Rattle.fpl_check.proofs.ListedOrigins.{demanded, passing_first}
use Rattle.fpl_check.proofs.Loops.{both_true, is_below, is_most}
use Rattle.fpl_check.proofs.PassedTests.{then_first, ok_is}
use Rattle.fpl_check.proofs.PassedRows.{passes, passed_same}
use Rattle.fpl_check.proofs.LawsPassed.{accepted_closed, conclusions_rows, conclusions_whole}
use Rattle.fpl_forms.specs.declared.term.Term.{Term}
use Rattle.fpl_forms.specs.declared.term.Fact.{Fact}
use Rattle.fpl_forms.specs.Ledgers.{PlainLedger}
use Rattle.fpl_forms.specs.Laws.{number_in}
use Rattle.fpl_facts.specs.Facts.{IsZero}
use Rattle.fpl_table_facts.specs.declared.known.Next.{Next}
use Rattle.fpl_prove.specs.Zeros.{IsZeroOf, AreConcluded}
use Rattle.fpl_prove.specs.Learning.{close_facts, IsWithinRow, AreSolved}

-- coefficients of rows that are well formed
formed_within : (n after : ℕ) (row : List Coefficient) → is_formed n after row ≡ true → All (IsWithinRow n) row
formed_within n after [] e = λ i d l. absurd (omega (arith, l))
formed_within n after (c ∷ cs) e =
    let a = both_true (nat_lt after c.symbol && nat_le c.symbol n && not (is_nought c.number)) (is_formed n c.symbol cs) e in
    let b = both_true (nat_lt after c.symbol && nat_le c.symbol n) (not (is_nought c.number)) a.0 in
    let d = both_true (nat_lt after c.symbol) (nat_le c.symbol n) b.0 in
    let low = is_below after c.symbol d.0 in
    all_cons (IsWithinRow n) c cs (omega (arith, low), is_most c.symbol n d.1) (formed_within n c.symbol cs a.1)

forms_within : (n k : ℕ) (rows : List (List Coefficient)) → test_forms n k rows ≡ Ok tt → All (All (IsWithinRow n)) rows
forms_within n k [] e = λ i d l. absurd (omega (arith, l))
forms_within n k (row ∷ rows) e =
    let a = passing_first (demand (is_formed n 0 row) (AtClosed k) RowForm) (test_forms n (k + 1) rows) tt e in
    all_cons (All (IsWithinRow n)) row rows (formed_within n 0 row (demanded _ _ _ a.0)) (forms_within n (k + 1) rows a.1)

pub accepted_within : (p : Presentation) (T : PlainTable) (s : Section) (rows : List (List Num)) → Accepts T p s rows →
    All (All (IsWithinRow (length (symbols_in T)))) s.closed
accepted_within p T s rows e =
    let stored = rows_stored T s in
    let a = then_first (λ (conclusions : List (List Num)). passing (test_closed T s conclusions)
    (passing (test_count s.origins (length (origins_of T p))) (passing (test_origins T p stored (origins_of T p)) (Ok stored))))
    (conclusions_of T p s) rows e in
    let b = passing_first (test_closed T s a.0) _ rows a.1.1 in
    let f = passing_first (test_closes s) _ tt b.0 in
    let g = passing_first (test_forms (length (symbols_in T)) 1 s.closed) _ tt f.1 in
    forms_within (length (symbols_in T)) 1 s.closed g.0

-- the facts of Close steps have the numbers of the conclusions of these
module _ (L : PlainLedger) (n : Next) where
  abbrev Have : List (List Num) → List Fact → Type 0
  Have cs zs = (m : ℕ) (z : Fact) → slice_get zs m ≡ Some z → IsZeroOf L n (vector_in L.presentation.field (get_or cs m [])) z

  closed_have : (steps : List Step) (cs : List (List Num)) (zs : List Fact) → length zs ≡ length cs → Have cs zs →
      (length (close_facts steps zs) ≡ length (close_rows steps cs)) × Have (close_rows steps cs) (close_facts steps zs)
  closed_have [] cs zs l h = (refl, λ m z e. absurd (none_some e))
  closed_have (s ∷ ss) [] [] l h = (refl, λ m z e. absurd (none_some e))
  closed_have (s ∷ ss) [] (z ∷ zs) l h = absurd (omega (arith, l))
  closed_have (s ∷ ss) (c ∷ cs) [] l h = absurd (omega (arith, l))
  closed_have ((Insert o ts k) ∷ ss) (c ∷ cs) (z ∷ zs) l h = closed_have ss cs zs (omega (arith, l)) (λ m y e. h (suc m) y e)
  closed_have ((Close of ts) ∷ ss) (c ∷ cs) (z ∷ zs) l h =
      let r = closed_have ss cs zs (omega (arith, l)) (λ m y e. h (suc m) y e) in
      (ap suc r.0, λ m y e. more (close_rows ss cs) (close_facts ss zs) r.1 m y e)
    where
      more : (ds : List (List Num)) (ys : List Fact) → Have ds ys → Have (c ∷ ds) (z ∷ ys)
      more ds ys g zero y e = subst (λ (y : Fact). IsZeroOf L n (vector_in L.presentation.field c) y) (some_same e) (h zero z refl)
      more ds ys g (suc m) y e = g m y e

module _ (K L : PlainLedger) (same : L.presentation ≡ K.presentation) (field : L.presentation.field ≡ Prime L.prime) (T : PlainTable) (n : Next) (s : Section)
    (holds : Holds K.presentation T) (section : IsSectionFor T s) (accepts : Accepts T K.presentation s (rows_stored T s)) (cs : List (List Num))
    (concluded : conclusions_of T K.presentation s ≡ Ok cs) (zs : List Fact) (have : AreConcluded L n cs zs) where
  abbrev rows : List (List Num)
  rows = rows_stored T s

  same_rows : rows ≡ close_rows s.steps cs
  same_rows =
      let is = is_field K.presentation T holds in
      let h = passes T is K.presentation s section rows accepts in
      let e : h.conclusions ≡ cs = ok_is (sym h.concluded ∙ concluded) in
      passed_same T is K.presentation s section rows h (conclusions_rows K.presentation T s holds section h.conclusions h.concluded)
      (conclusions_whole K.presentation T s holds section h.conclusions h.concluded)
      ∙ ap (close_rows s.steps) e

  closes : (length (close_facts s.steps zs) ≡ length (close_rows s.steps cs)) × Have L n (close_rows s.steps cs) (close_facts s.steps zs)
  closes = closed_have L n s.steps cs zs have.count have.each

  pub closes_count : length (close_facts s.steps zs) ≡ length (map pivot_of rows)
  closes_count = closes.0 ∙ ap length (sym same_rows) ∙ sym (length-map rows pivot_of)

  pub closes_zero : All (IsZero L n.trees.items) (close_facts s.steps zs)
  closes_zero i d l = (closes.1 i (get_or (close_facts s.steps zs) i d) (slice_get-get_or (close_facts s.steps zs) i d l)).zero

  is_closed : IsClosedList T.kind (length (symbols_in T)) rows
  is_closed = accepted_closed K.presentation T s holds section rows accepts

  solved_at : (k : Kind) → T.kind ≡ k → (m : ℕ) → m < length rows → (ts : List Term) → ((i : ℕ) → number_in k ts i ≡ vector_in k (get_or rows m []) i) →
      (number_in k ts (pivot_of (get_or rows m [])) ≡ (field_of k).unit) ×
      ((i : ℕ) → pivot_of (get_or rows m []) < i → number_in k ts i ≡ (field_of k).nought)
  solved_at k e m l ts numbers =
      let closed = subst (λ (k : Kind). IsClosed (field_of k) (length rows) (row_in k rows) (pivot_in rows)) e is_closed.closed in
      (numbers (pivot_of (get_or rows m [])) ∙ closed.leads m l, λ i h. numbers i ∙ closed.above m i l h)

  pub closes_solved : AreSolved L.prime (map pivot_of rows) (close_facts s.steps zs)
  closes_solved m z e =
      let l : m < length rows = (let a = slice_get_within (close_facts s.steps zs) m z e in
      let b = closes.0 in let c = ap length same_rows in omega (arith, a, b, c)) in
      let f = L.presentation.field in
      let numbers = subst (λ (rs : List (List Num)). (i : ℕ) → number_in f z.terms.items i ≡ vector_in f (get_or rs m []) i) (sym same_rows)
      (closes.1 m z e).numbers in
      let numbers' = subst (λ (k : Kind). (i : ℕ) → number_in k z.terms.items i ≡ vector_in k (get_or rows m []) i) field numbers in
      let is : T.kind ≡ Prime L.prime = holds.kind ∙ ap (λ (p : Presentation). p.field) (sym same) ∙ field in
      let at = solved_at (Prime L.prime) is m l z.terms.items numbers' in
      let lead : pivot_of (get_or rows m []) ≡ get_or (map pivot_of rows) m 0 = sym (get_or-map pivot_of rows m [] 0 l) in
      record {
        one = subst (λ (i : ℕ). number_in (Prime L.prime) z.terms.items i ≡ (field_of (Prime L.prime)).unit) lead at.0;
        above = subst (λ (j : ℕ). (i : ℕ) → j < i → number_in (Prime L.prime) z.terms.items i ≡ (field_of (Prime L.prime)).nought) lead at.1;
      }
