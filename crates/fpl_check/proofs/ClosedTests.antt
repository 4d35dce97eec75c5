-- Rows that pass their tests are closed.
use Rattle.std.specs.Prelude.{◌≡◌, ◌≢◌, ℕ, zero, suc, ◌+◌, ◌-◌, ◌<◌, ◌⊎◌, List, [], ◌∷◌, length, get_or, Option, Some, None, Result, Ok, Err, Bool, true, false, not, ◌||◌, nat_eq, nat_lt, unwrap_or, IfOk}
use mathlib.Core.Path.{refl, sym, ap, subst, ◌∙◌}
use mathlib.Core.Logic.{inl, inr}
use native.Mathlib.Omega.{arith}
use native.Mathlib.Decide.{dec_lt}
use Rattle.std.proofs.lemmas.Bool.Decides.{nat_tests}
use Rattle.math_fields.specs.Field.{Field}
use Rattle.fpl_numbers.specs.declared.number.Num.{Num}
use Rattle.fpl_numbers.specs.declared.number.Kind.{Kind}
use Rattle.fpl_numbers.specs.Numbers.{IsField, is_nought, residue}
use Rattle.fpl_numbers.specs.Reads.{Reads}
use Rattle.fpl_numbers.specs.Kinds.{field_of, number_of}
use Rattle.fpl_numbers.proofs.KindReads.{kind_reads}
use Rattle.fpl_rows.specs.Positions.{lead_of}
use Rattle.fpl_rows.specs.Meaning.{row_in, pivot_in, AreRows, IsClosedList}
use Rattle.fpl_rows.proofs.Leads.{LeadIs, lead_is}
use Rattle.fpl_rows.proofs.Ones.{one_is}
use Rattle.fpl_rows.proofs.Readings.{at_place, nought_at, nought_past}
use Rattle.fpl_check.specs.declared.fault.Spot.TheVariants.{Closed as AtClosed}
use Rattle.fpl_check.specs.declared.fault.Why.TheVariants.{NotClosed}
use Rattle.fpl_check.specs.declared.fault.CheckFault.{CheckFault}
use Rattle.fpl_check.specs.Refusal.{demand, GivesCheck}
use Rattle.fpl_check.specs.ClosedRows.{test_lead_at, lead_or_none, test_leads, is_greatest, test_crossing, test_apart}
use Rattle.fpl_check.proofs.ListedOrigins.{demanded, passing_first}
use Rattle.fpl_check.proofs.Loops.{both_true, is_below}
use Rattle.fpl_check.proofs.RowLoops.{is_same}

-- a row with 1 at its greatest symbol, which comes after `before`
record HasOne (before : ℕ) (row : List Num) : Type 0 where
  lead : ℕ
  is : lead_of row ≡ Some lead
  one : get_or row (lead - 1) (residue 0) ≡ residue 1
  above : before < lead

has_one : (k before : ℕ) (row : List Num) → test_lead_at k before row (lead_of row) ≡ Ok tt → HasOne before row
has_one k before row e = go (lead_of row) refl e
  where
    go : (o : Option ℕ) → lead_of row ≡ o → test_lead_at k before row o ≡ Ok tt → HasOne before row
    go None f e = absurd (let z : ⊥ = cc in z)
    go (Some s) f e =
        let b = both_true _ (nat_lt before s) (demanded _ _ _ e) in
        record { lead = s; is = f; one = is_same _ _ b.0; above = is_below before s b.1 }

lead_is_lead : (before : ℕ) (row : List Num) (h : HasOne before row) → lead_or_none row ≡ h.lead
lead_is_lead before row h = ap (λ o. unwrap_or o 0) h.is

ones : (k before : ℕ) (rows : List (List Num)) → test_leads k before rows ≡ Ok tt → (i : ℕ) → i < length rows → HasOne before (get_or rows i [])
ones k before [] e i l = absurd (omega (arith, l))
ones k before (row ∷ rows) e zero l = has_one k before row
    (passing_first (test_lead_at k before row (lead_of row)) (test_leads (k + 1) (lead_or_none row) rows) tt e).0
ones k before (row ∷ rows) e (suc i) l =
    let a = passing_first (test_lead_at k before row (lead_of row)) (test_leads (k + 1) (lead_or_none row) rows) tt e in
    let h = ones (k + 1) (lead_or_none row) rows a.1 i (omega (arith, l)) in
    let r = has_one k before row a.0 in
    let s = lead_is_lead before row r in
    record { lead = h.lead; is = h.is; one = h.one; above = omega (arith, h.above, r.above, s) }

leads_ascend : (k before : ℕ) (rows : List (List Num)) → test_leads k before rows ≡ Ok tt → (i j : ℕ) → i < j → j < length rows →
    lead_or_none (get_or rows i []) < lead_or_none (get_or rows j [])
leads_ascend k before [] e i j l m = absurd (omega (arith, m))
leads_ascend k before (row ∷ rows) e i zero l m = absurd (omega (arith, l))
leads_ascend k before (row ∷ rows) e zero (suc j) l m =
    let a = passing_first (test_lead_at k before row (lead_of row)) (test_leads (k + 1) (lead_or_none row) rows) tt e in
    let h = ones (k + 1) (lead_or_none row) rows a.1 j (omega (arith, m)) in
    let s = lead_is_lead (lead_or_none row) (get_or rows j []) h in
    omega (arith, h.above, s)
leads_ascend k before (row ∷ rows) e (suc i) (suc j) l m =
    let a = passing_first (test_lead_at k before row (lead_of row)) (test_leads (k + 1) (lead_or_none row) rows) tt e in
    leads_ascend (k + 1) (lead_or_none row) rows a.1 i j (omega (arith, l)) (omega (arith, m))

-- what a row that passes has at its symbols
cases : (a b d : Bool) → (a || b || d) ≡ true → (a ≡ true) ⊎ ((b ≡ true) ⊎ (d ≡ true))
cases true b d e = inl refl
cases false true d e = inr (inl refl)
cases false false d e = inr (inr e)

not_true : (a : Bool) → not a ≡ true → a ≡ false
not_true true e = absurd (let k : ⊥ = cc in k)
not_true false e = refl

same_symbol : (s t : ℕ) → nat_eq s t ≡ true → s ≡ t
same_symbol s t e = grind (arith, nat_tests)

symbol_same : (s t : ℕ) → s ≡ t → nat_eq s t ≡ true
symbol_same s t e = grind (arith, nat_tests)

crossings : (k : ℕ) (leads : ℕ → Bool) (lead s : ℕ) (row : List Num) → test_crossing k leads lead s row ≡ Ok tt → (t : ℕ) → t < length row →
    (is_nought (get_or row t (residue 0)) ≡ true) ⊎ ((s + t ≡ lead) ⊎ (leads (s + t) ≡ false))
crossings k leads lead s [] e t l = absurd (omega (arith, l))
crossings k leads lead s (c ∷ cs) e zero l =
    let a = passing_first (demand (is_nought c || nat_eq s lead || not (leads s)) (AtClosed k) (NotClosed s)) (test_crossing k leads lead (s + 1) cs) tt e in
    go (cases _ _ _ (demanded _ _ _ a.0))
  where
    at : s ≡ s + 0
    at = omega arith

    go : (is_nought c ≡ true) ⊎ ((nat_eq s lead ≡ true) ⊎ (not (leads s) ≡ true)) → (is_nought c ≡ true) ⊎ ((s + 0 ≡ lead) ⊎ (leads (s + 0) ≡ false))
    go (inl z) = inl z
    go (inr (inl z)) = inr (inl (sym at ∙ same_symbol s lead z))
    go (inr (inr z)) = inr (inr (ap leads (sym at) ∙ not_true (leads s) z))
crossings k leads lead s (c ∷ cs) e (suc t) l =
    let a = passing_first (demand (is_nought c || nat_eq s lead || not (leads s)) (AtClosed k) (NotClosed s)) (test_crossing k leads lead (s + 1) cs) tt e in
    subst (λ w. (is_nought (get_or cs t (residue 0)) ≡ true) ⊎ ((w ≡ lead) ⊎ (leads w ≡ false))) (let f : s + 1 + t ≡ s + suc t = omega arith in f)
    (crossings k leads lead (s + 1) cs a.1 t (omega (arith, l)))

each_apart : (k : ℕ) (all rows : List (List Num)) → test_apart k all rows ≡ Ok tt → (i : ℕ) → i < length rows → (m : ℕ) ×
    (test_crossing m (is_greatest all) (lead_or_none (get_or rows i [])) 1 (get_or rows i []) ≡ Ok tt)
each_apart k all [] e i l = absurd (omega (arith, l))
each_apart k all (row ∷ rows) e zero l = (k, (passing_first (test_crossing k (is_greatest all) (lead_or_none row) 1 row) (test_apart (k + 1) all rows) tt e).0)
each_apart k all (row ∷ rows) e (suc i) l = each_apart (k + 1) all rows
    (passing_first (test_crossing k (is_greatest all) (lead_or_none row) 1 row) (test_apart (k + 1) all rows) tt e).1 i (omega (arith, l))

lead_found : (rows : List (List Num)) (j : ℕ) → j < length rows → is_greatest rows (lead_or_none (get_or rows j [])) ≡ true
lead_found [] j l = absurd (omega (arith, l))
lead_found (row ∷ rows) zero l = ap (λ b. b || is_greatest rows (lead_or_none row)) (symbol_same (lead_or_none row) (lead_or_none row) refl)
lead_found (row ∷ rows) (suc j) l = or_later _ _ (lead_found rows j (omega (arith, l)))
  where
    or_later : (a b : Bool) → b ≡ true → (a || b) ≡ true
    or_later true b e = refl
    or_later false b e = e

module _ (kind : Kind) (listed : IsField kind) (n : ℕ) (rows : List (List Num)) (are : AreRows kind n rows) (leads : test_leads 1 0 rows ≡ Ok tt)
    (apart : test_apart 1 rows rows ≡ Ok tt) where
  abbrev K : Field
  K = field_of kind

  reads : Reads kind K (number_of kind)
  reads = kind_reads kind listed

  one_at : (i : ℕ) → i < length rows → HasOne 0 (get_or rows i [])
  one_at i l = ones 1 0 rows leads i l

  pivot_is : (i : ℕ) (l : i < length rows) → pivot_in rows i ≡ (one_at i l).lead - 1
  pivot_is i l = ap (λ o. unwrap_or o 1 - 1) (one_at i l).is

  lead_at : (i : ℕ) (l : i < length rows) → LeadIs (get_or rows i []) (length (get_or rows i [])) (one_at i l).lead
  lead_at i l = lead_is (get_or rows i []) (length (get_or rows i [])) (one_at i l).lead (one_at i l).is

  pivots_ascend : (i j : ℕ) → i < j → j < length rows → pivot_in rows i < pivot_in rows j
  pivots_ascend i j l m =
      let first : i < length rows = omega (arith, l, m) in
      let a = leads_ascend 1 0 rows leads i j l m in
      let b = lead_is_lead 0 (get_or rows i []) (one_at i first) in
      let c = lead_is_lead 0 (get_or rows j []) (one_at j m) in
      let d = pivot_is i first in
      let e = pivot_is j m in
      let f = (one_at i first).above in
      omega (arith, a, b, c, d, e, f)

  other_pivot : (i j : ℕ) → i < length rows → j < length rows → i ≢ j → pivot_in rows i ≢ pivot_in rows j
  other_pivot i j l m d e = go (dec_lt i j)
    where
      go : Dec (i < j) → ⊥
      go (yes o) = absurd (omega (arith, pivots_ascend i j o m, e))
      go (no o) = let p : j < i = omega (arith, o, d) in absurd (omega (arith, pivots_ascend j i p l, e))

  pub are_closed : IsClosedList kind n rows
  are_closed = record {
    are_rows = are;
    closed = record {
      leads = λ i l.
          let h = one_at i l in
          let s = lead_at i l in
          let a = s.from_one in let b = s.to_end in
          ap (row_in kind rows i) (pivot_is i l) ∙ at_place kind K (number_of kind) reads (get_or rows i []) (h.lead - 1) (residue 0) (omega (arith, a, b))
          ∙ ap (number_of kind) h.one ∙ one_is kind K (number_of kind) reads listed;
      above = λ i s l k.
          let h = lead_at i l in let q = pivot_is i l in let a = h.from_one in
          nought_past kind K (number_of kind) reads (get_or rows i []) (one_at i l).lead (are i [] l).elements h s (omega (arith, k, q, a));
      ascend = pivots_ascend;
      apart = λ i j l m d. zero_there i j l m d;
    };
  }
    where
      zero_there : (i j : ℕ) → i < length rows → j < length rows → i ≢ j → row_in kind rows i (pivot_in rows j) ≡ K.nought
      zero_there i j l m d =
          let q = pivot_is j m in
          let h = lead_at j m in let a = h.from_one in let b = h.to_end in
          let x = each_apart 1 rows rows apart i l in
          let within : pivot_in rows j < length (get_or rows i []) =
          (let p = (are i [] l).length_is in let r = (are j [] m).length_is in omega (arith, q, a, b, p, r)) in
          go within (crossings x.0 (is_greatest rows) (lead_or_none (get_or rows i [])) 1 (get_or rows i []) x.1 (pivot_in rows j) within)
        where
          go : pivot_in rows j < length (get_or rows i []) →
              (is_nought (get_or (get_or rows i []) (pivot_in rows j) (residue 0)) ≡ true) ⊎
              ((1 + pivot_in rows j ≡ lead_or_none (get_or rows i [])) ⊎ (is_greatest rows (1 + pivot_in rows j) ≡ false)) →
              row_in kind rows i (pivot_in rows j) ≡ K.nought
          go within (inl z) = nought_at kind K (number_of kind) reads (get_or rows i []) (pivot_in rows j) (are i [] l).elements within z
          go within (inr (inl z)) =
              let c = lead_is_lead 0 (get_or rows i []) (one_at i l) in
              let e = pivot_is i l in
              absurd (other_pivot i j l m d (omega (arith, z, c, e)))
          go within (inr (inr z)) =
              let c = lead_is_lead 0 (get_or rows j []) (one_at j m) in
              let e = pivot_is j m in
              let a = (one_at j m).above in
              let s : lead_or_none (get_or rows j []) ≡ 1 + pivot_in rows j = omega (arith, c, e, a) in
              let t : is_greatest rows (1 + pivot_in rows j) ≡ true = ap (is_greatest rows) (sym s) ∙ lead_found rows j m in
              absurd (let k : ⊥ = cc in k)

pub closed_when : (kind : Kind) → IsField kind → (n : ℕ) (rows : List (List Num)) → AreRows kind n rows → test_leads 1 0 rows ≡ Ok tt →
    (r : Result (Unit {0}) CheckFault) →
    GivesCheck (λ (done : Unit {0}). done) r (test_apart 1 rows rows) → IfOk r (λ done. IsClosedList kind n rows)
closed_when kind listed n rows are leads (Ok done) h = are_closed kind listed n rows are leads h
closed_when kind listed n rows are leads (Err fault) h = tt
