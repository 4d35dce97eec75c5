-- Ascending reduced pivot rows are a closed list of the same span.
use Rattle.std.specs.Prelude.{◌≡◌, ℕ, zero, suc, ◌+◌, ◌-◌, ◌<◌, ◌↔◌, List, [], ◌∷◌, length, get_or, All, Option, Some, None, option_map, unwrap_or, Bool, true, false, cond}
use Rattle.std.specs.List.{find}
use mathlib.Core.Path.{sym, refl, ap, ◌∙◌}
use native.Mathlib.Omega.{arith}
use Rattle.std.proofs.lemmas.List.{get_or-map, length-map}
use Rattle.math_fields.specs.Field.{Field}
use Rattle.math_linear.specs.Vector.{Vector}
use Rattle.math_linear.specs.Lists.{vector_of}
use Rattle.math_linear.specs.Span.{InSpan}
use Rattle.math_linear.specs.Closed.{IsClosed}
use Rattle.math_linear.specs.Echelon.{IsReduced, AreRowsOf}
use Rattle.math_linear.proofs.ReducedRows.{reduced_is_closed}
use Rattle.fpl_numbers.specs.declared.number.Num.{Num}
use Rattle.fpl_numbers.specs.declared.number.Kind.{Kind}
use Rattle.fpl_numbers.specs.Numbers.{IsField, is_nought}
use Rattle.fpl_numbers.specs.Reads.{Reads}
use Rattle.fpl_rows.specs.Meaning.{pivot_of}
use Rattle.fpl_rows.proofs.Fits.{some_same, none_some}
use Rattle.fpl_rows.proofs.Leads.{lead_found}
use Rattle.plain_elimination.specs.Plain.{PivotRow, IsPivotRow, stands_at, rows_of}
use Rattle.plain_elimination.specs.Spans.{table_of, InSpanAt}
use Rattle.plain_elimination.proofs.PivotRows.{found_lead}
use Rattle.plain_elimination.proofs.Ascending.{AscendsFrom, found_first, found_later}

no_row : PivotRow
no_row = record { lead = 0; step = 0; row = [] }

-- in an ascending list each row is found by its lead, and leads ascend
pub ascends_found : (m n : ℕ) (ps : List PivotRow) (d : PivotRow) (i : ℕ) → AscendsFrom m n ps → i < length ps →
    (m < (get_or ps i d).lead) × (find (stands_at (get_or ps i d).lead) ps ≡ Some (get_or ps i d))
ascends_found m n [] d i h l = absurd (omega arith)
ascends_found m n (p ∷ ps) d zero h l = (h.0, found_first p ps)
ascends_found m n (p ∷ ps) d (suc i) h l =
    let k = ascends_found p.lead n ps d i h.1 (omega arith) in
    let below : p.lead < (get_or ps i d).lead = k.0 in
    ((let a = h.0 in omega arith), found_later p ps (get_or ps i d).lead below ∙ k.1)

pub leads_ascend : (m n : ℕ) (ps : List PivotRow) (d : PivotRow) (i j : ℕ) → AscendsFrom m n ps → i < j → j < length ps →
    (get_or ps i d).lead < (get_or ps j d).lead
leads_ascend m n [] d i j h l k = absurd (omega arith)
leads_ascend m n (p ∷ ps) d i zero h l k = absurd (omega arith)
leads_ascend m n (p ∷ ps) d zero (suc j) h l k = (ascends_found p.lead n ps d j h.1 (omega arith)).0
leads_ascend m n (p ∷ ps) d (suc i) (suc j) h l k = leads_ascend p.lead n ps d i j h.1 (omega arith) (omega arith)

-- what is found stands somewhere
pub found_at : (s : ℕ) (ps : List PivotRow) (p d : PivotRow) → find (stands_at s) ps ≡ Some p → (i : ℕ) × ((i < length ps) × (get_or ps i d ≡ p))
found_at s [] p d e = absurd (none_some e)
found_at s (q ∷ ps) p d e = go (stands_at s q) (found_at s ps p d) e
  where
    go : (b : Bool) → (find (stands_at s) ps ≡ Some p → (i : ℕ) × ((i < length ps) × (get_or ps i d ≡ p))) →
        cond b (Some q) (find (stands_at s) ps) ≡ Some p → (i : ℕ) × ((i < suc (length ps)) × (get_or (q ∷ ps) i d ≡ p))
    go true k f = (0, (omega arith, some_same f))
    go false k f = (let r = k f in (suc r.0, ((let l = r.1.0 in omega arith), r.1.1)))

module _ (kind : Kind) (K : Field) (value : Num → K.Carrier) (reads : Reads kind K value) (listed : IsField kind) (n : ℕ) (ps : List PivotRow)
    (rows : All (IsPivotRow kind n) ps) (ascends : AscendsFrom 0 n ps) where
  abbrev pub row_at : ℕ → Vector K
  row_at i = vector_of K value (get_or (rows_of ps) i [])

  abbrev pub pivot_at : ℕ → ℕ
  pivot_at i = pivot_of (get_or (rows_of ps) i [])

  row_is : (i : ℕ) → i < length ps → get_or (rows_of ps) i [] ≡ (get_or ps i no_row).row
  row_is i l = get_or-map (λ p. p.row) ps i no_row [] l

  pivot_is : (i : ℕ) → i < length ps → pivot_at i ≡ (get_or ps i no_row).lead - 1
  pivot_is i l =
      let h = rows i no_row l in
      ap pivot_of (row_is i l) ∙ ap (λ o. unwrap_or o 1 - 1) (lead_found (get_or ps i no_row).row (get_or ps i no_row).lead h.from_one
      (let a = h.to_end in let b = h.length_is in omega arith) (ap is_nought h.leads) (λ t m k. h.above t m (let b = h.length_is in omega arith)))

  there : (i : ℕ) → i < length ps → table_of K value ps (pivot_at i) ≡ Some (row_at i)
  there i l =
      let h = rows i no_row l in
      ap (λ s. option_map (λ p. vector_of K value p.row) (find (stands_at s) ps)) (let a = pivot_is i l in let b = h.from_one in
      let e : pivot_at i + 1 ≡ (get_or ps i no_row).lead = omega arith in e)
      ∙ ap (option_map (λ p. vector_of K value p.row)) (ascends_found 0 n ps no_row i ascends l).1 ∙ ap (λ w. Some (vector_of K value w)) (sym (row_is i l))

  are_rows : AreRowsOf K (table_of K value ps) (length (rows_of ps)) row_at pivot_at
  are_rows = record {
    there = λ i l. there i (let m = length-map ps (λ p. p.row) in omega arith);
    ascend = λ i j l k.
        let m = length-map ps (λ p. p.row) in
        let a = pivot_is i (omega arith) in
        let b = pivot_is j (omega arith) in
        let c = leads_ascend 0 n ps no_row i j ascends l (omega arith) in
        let d = (rows i no_row (omega arith)).from_one in
        omega arith;
    all = λ s u e. found s u (find (stands_at (s + 1)) ps) refl e;
  }
    where
      found : (s : ℕ) (u : Vector K) (o : Option PivotRow) → find (stands_at (s + 1)) ps ≡ o → option_map (λ p. vector_of K value p.row) o ≡ Some u →
          (i : ℕ) × (i < length (rows_of ps)) × (pivot_at i ≡ s)
      found s u None f e = absurd (none_some e)
      found s u (Some p) f e =
          let m = length-map ps (λ p. p.row) in
          let r = found_at (s + 1) ps p no_row f in
          let q = found_lead (s + 1) ps p (sym f) in
          let a = pivot_is r.0 r.1.0 in
          let b : (get_or ps r.0 no_row).lead ≡ p.lead = ap (λ w. w.lead) r.1.1 in
          (r.0, (let l = r.1.0 in omega arith), omega arith)

  pub closed_list : IsReduced K n (table_of K value ps) → IsClosed K (length (rows_of ps)) row_at pivot_at ×
      ((v : Vector K) → InSpan K (length (rows_of ps)) row_at v ↔ InSpanAt K value ps v)
  closed_list r = reduced_is_closed K n (table_of K value ps) r (length (rows_of ps)) row_at pivot_at are_rows
