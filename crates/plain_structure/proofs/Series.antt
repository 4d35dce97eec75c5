-- The plain run of the lower central series gives its terms.
use Rattle.std.specs.Prelude.{◌≡◌, ℕ, zero, suc, ◌+◌, ◌-◌, ◌<◌, ◌≤◌, List, [], ◌∷◌, ◌++◌, length, get_or, Some, unwrap_or, Ok, cond, nat_eq, true, false}
use mathlib.Core.Path.{sym, refl, ap, ap₂, ◌∙◌, subst}
use native.Mathlib.Omega.{arith}
use native.Mathlib.Decide.{ℕ_discrete}
use Rattle.math_linear.specs.Vector.{Vector, vzero, place, total, scale}
use Rattle.math_linear.proofs.Span.{spanned_more, spanned_through, in_span}
use Rattle.math_linear.proofs.Places.{zero_at}
use Rattle.math_linear.proofs.Closed.{combination_none}
use Rattle.math_linear.proofs.Vectors.{place_same, place_other, from_places, total_below}
use Rattle.fpl_numbers.specs.declared.number.Num.{Num}
use Rattle.fpl_numbers.specs.Numbers.{IsField, residue, is_nought}
use Rattle.fpl_numbers.specs.Results.{and_then}
use Rattle.fpl_numbers.specs.Kinds.{field_of}
use Rattle.fpl_rows.specs.Meaning.{vector_in, row_in, pivot_of, pivot_in, IsRowOf}
use Rattle.fpl_rows.specs.Positions.{lead_below}
use Rattle.fpl_rows.proofs.Fits.{ok_same, first_fits, part_fits}
use Rattle.fpl_model.specs.declared.presentation.Presentation.{Presentation}
use Rattle.fpl_table.specs.Plain.{PlainTable, table_in}
use Rattle.plain_sources.specs.Premises.{HasRows}
use Rattle.math_structure.specs.Structure.{term}
use Rattle.math_structure.specs.Laws.{HasWeights}
use Rattle.math_structure.proofs.Series.{series_ends}
use Rattle.plain_spans.proofs.Gathered.{span_means, span_fits}
use Rattle.plain_spans.proofs.Kernels.{numbers_length, number_at}
use Rattle.plain_structure.specs.Plain.{Rows, size, unit_row, units_to, bracket_rows, next_term, before, series_from}
use Rattle.plain_structure.specs.Means.{AreRowsOf, AreTerms, SeriesMeans}
use Rattle.plain_sources.proofs.Laws.{rows_of_shape}
use Rattle.plain_structure.proofs.Acting.{IsEnough, is_enough}
use Rattle.plain_structure.proofs.Held.{held_field, held_weights}
use Rattle.plain_structure.proofs.BracketRows.{brackets_formed, formed_bracket, bracket_formed, unit_vector, unit_is_row}

module _ (T : PlainTable) (listed : IsField T.kind) (has : HasRows T) (enough : IsEnough T.kind T) where
  -- the next term, by rows of the term before
  pub next_is : (k : ℕ) (rows next : Rows) → AreRowsOf T.kind T rows (term (field_of T.kind) (table_in T.kind T) k) → next_term T rows ≡ Ok next →
      AreRowsOf T.kind T next (term (field_of T.kind) (table_in T.kind T) (suc k))
  next_is k rows next h e =
      let m = span_means T.kind listed (size T) (bracket_rows T rows) next (brackets_formed T listed has rows h.closed.are_rows) e in
      let t = enough.terms k (length rows) (row_in T.kind rows) h.span in
      record {
        closed = m.0;
        span = λ v. (
          (λ s. (t v).0 (spanned_more (field_of T.kind) _ _ (formed_bracket T listed has rows h.closed.are_rows) v ((m.1 v).0 s))),
          (λ s. (m.1 v).1 (spanned_through (field_of T.kind) _ _ (bracket_formed T listed has rows h.closed.are_rows
              (span_fits T.kind (size T) (bracket_rows T rows) next e)) v ((t v).1 s))),
        );
      }

  -- a term that is 0 has no rows
  pub no_rows : (rows : Rows) (Q : Vector (field_of T.kind) → Type 0) → AreRowsOf T.kind T rows Q →
      ((v : Vector (field_of T.kind)) → Q v → v ≡ vzero (field_of T.kind)) → rows ≡ []
  no_rows [] Q h z = refl
  no_rows (r ∷ rs) Q h z =
      absurd
      ((field_of T.kind).unit≢nought
      (sym (h.closed.closed.leads 0 (omega arith)) ∙
      ap (λ v. v (pivot_in (r ∷ rs) 0)) (z (row_in T.kind (r ∷ rs) 0)
      ((h.span _).0 (in_span (field_of T.kind) (length (r ∷ rs)) (row_in T.kind (r ∷ rs)) 0 (omega arith))))
      ∙ zero_at (field_of T.kind) _))

  not_empty : (r : List Num) (rs : Rows) → r ∷ rs ≡ [] → ⊥
  not_empty r rs e = cc

  more_terms : (i : ℕ) (r : List Num) (rs : Rows) (terms : List Rows) → AreRowsOf T.kind T (r ∷ rs) (term (field_of T.kind) (table_in T.kind T) i) →
      AreTerms T.kind T (suc i) terms → AreTerms T.kind T i (before (r ∷ rs) terms)
  more_terms i r rs [] h k = absurd k
  more_terms i r rs (next ∷ terms) h k = (h, not_empty r rs, k)

  pub series_terms : HasWeights (field_of T.kind) (table_in T.kind T) → (n i : ℕ) (rows : Rows) (terms : List Rows) → i + n ≡ T.weight →
      AreRowsOf T.kind T rows (term (field_of T.kind) (table_in T.kind T) i) →
      series_from T n rows ≡ Ok terms → AreTerms T.kind T i terms
  series_terms weights n i [] terms l h e = subst (AreTerms T.kind T i) (ok_same e) (h, refl)
  series_terms weights zero i (r ∷ rs) terms l h e =
      absurd
      (not_empty r rs
      (no_rows (r ∷ rs) (term (field_of T.kind) (table_in T.kind T) i) h
      (subst (λ k. (v : Vector (field_of T.kind)) → term (field_of T.kind) (table_in T.kind T) k v → v ≡ vzero (field_of T.kind))
      (let d : T.weight ≡ i = omega arith in d) (series_ends (field_of T.kind) (table_in T.kind T) weights))))
  series_terms weights (suc n) i (r ∷ rs) terms l h e =
      let p = part_fits (before (r ∷ rs)) (and_then (series_from T n) (next_term T (r ∷ rs))) terms e in
      let q = first_fits (series_from T n) (next_term T (r ∷ rs)) p.0 p.1.0 in
      subst (AreTerms T.kind T i) (sym p.1.1) (more_terms i r rs p.0 h (series_terms weights n (suc i) q.0 p.0 (omega arith)
      (next_is i (r ∷ rs) q.0 h q.1.0) q.1.1))

  -- the unit rows are closed, and span all vectors
  more_units : (xs : Rows) (y : List Num) → length (xs ++ y ∷ []) ≡ suc (length xs)
  more_units [] y = refl
  more_units (x ∷ xs) y = ap suc (more_units xs y)

  units_length : (n i : ℕ) → length (units_to n i) ≡ i
  units_length n zero = refl
  units_length n (suc i) = more_units (units_to n i) (unit_row n i) ∙ ap suc (units_length n i)

  units_at : (n i : ℕ) (k : ℕ) (d : List Num) → k < i → get_or (units_to n i) k d ≡ unit_row n k
  units_at n zero k d l = absurd (omega arith)
  units_at n (suc i) k d l = go (ℕ_discrete k i) (λ m. units_at n i k d m)
    where
      at_more : (xs : Rows) (y d : List Num) (s : ℕ) → s < length xs → get_or (xs ++ y ∷ []) s d ≡ get_or xs s d
      at_more [] y d s l = absurd (omega arith)
      at_more (x ∷ xs) y d zero l = refl
      at_more (x ∷ xs) y d (suc s) l = at_more xs y d s (omega arith)

      at_last : (xs : Rows) (y d : List Num) → get_or (xs ++ y ∷ []) (length xs) d ≡ y
      at_last [] y d = refl
      at_last (x ∷ xs) y d = at_last xs y d

      go : Dec (k ≡ i) → (k < i → get_or (units_to n i) k d ≡ unit_row n k) → get_or (units_to n i ++ unit_row n i ∷ []) k d ≡ unit_row n k
      go (yes e) h = ap (λ a. get_or (units_to n i ++ unit_row n i ∷ []) a d) (e ∙ sym (units_length n i)) ∙ at_last (units_to n i) (unit_row n i) d ∙
          ap (unit_row n) (sym e)
      go (no e) h = at_more (units_to n i) (unit_row n i) d k (let a = units_length n i in omega arith) ∙ h (omega arith)

  unit_lead : (n i m : ℕ) → i < m → m ≤ n → lead_below (unit_row n i) m ≡ Some (suc i)
  unit_lead n i zero l k = absurd (omega arith)
  unit_lead n i (suc s) l k = go (ℕ_discrete i s) (λ m. unit_lead n i s m (omega arith))
    where
      at : get_or (unit_row n i) s (residue 0) ≡ cond (nat_eq i s) (residue 1) (residue 0)
      at = number_at n (λ s. cond (nat_eq i s) (residue 1) (residue 0)) s (residue 0) (omega arith)

      go : Dec (i ≡ s) → (i < s → lead_below (unit_row n i) s ≡ Some (suc i)) → cond (is_nought (get_or (unit_row n i) s (residue 0)))
          (lead_below (unit_row n i) s) (Some (suc s)) ≡ Some (suc i)
      go (yes e) h =
          let t : nat_eq i s ≡ true = grind arith in
          ap (λ c. cond (is_nought c) (lead_below (unit_row n i) s) (Some (suc s))) (at ∙ ap (λ b. cond b (residue 1) (residue 0)) t) ∙
          ap (λ w. Some (suc w)) (sym e)
      go (no e) h =
          let t : nat_eq i s ≡ false = grind arith in
          ap (λ c. cond (is_nought c) (lead_below (unit_row n i) s) (Some (suc s))) (at ∙ ap (λ b. cond b (residue 1) (residue 0)) t) ∙ h (omega arith)

  first_is : AreRowsOf T.kind T (units_to (size T) (size T)) (term (field_of T.kind) (table_in T.kind T) 0)
  first_is = record {
    closed = record {
      are_rows = λ k d l. subst (IsRowOf T.kind (size T)) (sym (units_at (size T) (size T) k d (below k l))) (unit_is_row T listed has k);
      closed = record {
        leads = λ i l. ap₂ (λ v s. v s) (row_is i (below i l)) (pivot_is i (below i l)) ∙ place_same (field_of T.kind) i;
        above = λ i s l m. ap (λ v. v s) (row_is i (below i l)) ∙ place_other (field_of T.kind) i s (let a = pivot_is i (below i l) in omega arith);
        ascend = λ i j m l. (let a = pivot_is i (let b = below j l in omega arith) in let c = pivot_is j (below j l) in omega arith);
        apart = λ i j l m d. ap₂ (λ v s. v s) (row_is i (below i l)) (pivot_is j (below j m)) ∙ place_other (field_of T.kind) i j d;
      };
    };
    span = λ v. (
      (λ h s past. ap (λ w. w s) h.1 ∙ combination_none (field_of T.kind) (length units) (row_in T.kind units) h.0 s
          (λ i l. ap (λ w. w s) (row_is i (below i l)) ∙ place_other (field_of T.kind) i s (let a = below i l in omega arith))),
      (λ h. (
        v,
        from_places (field_of T.kind) (size T) v h ∙
            ap (λ n. total (field_of T.kind) n (λ i. scale (field_of T.kind) (v i) (place (field_of T.kind) i))) (sym (units_length (size T) (size T)))
            ∙ total_below (field_of T.kind) (length units) _ _ (λ i l. ap (scale (field_of T.kind) (v i)) (sym (row_is i (below i l)))),
      )),
    );
  }
    where
      units : Rows
      units = units_to (size T) (size T)

      below : (k : ℕ) → k < length units → k < size T
      below k l = (let a = units_length (size T) (size T) in omega arith)

      row_is : (i : ℕ) → i < size T → row_in T.kind units i ≡ place (field_of T.kind) i
      row_is i l = ap (vector_in T.kind) (units_at (size T) (size T) i [] l) ∙ unit_vector T listed has i l

      pivot_is : (i : ℕ) → i < size T → pivot_in units i ≡ i
      pivot_is i l =
          ap pivot_of (units_at (size T) (size T) i [] l)
          ∙ ap (λ o. unwrap_or o 1 - 1) (ap (lead_below (unit_row (size T) i)) (numbers_length (size T)
          (λ s. cond (nat_eq i s) (residue 1) (residue 0))) ∙ unit_lead (size T) i (size T) l (omega arith)) ∙ (let e : suc i - 1 ≡ i = omega arith in e)

pub series_means : (p : Presentation) → SeriesMeans p
series_means p T holds terms e =
    subst (λ k. AreTerms k T 0 terms) holds.kind
    (series_terms T (held_field p T holds) (rows_of_shape T holds.shape) (is_enough p T holds) (held_weights p T holds) T.weight 0
    (units_to (size T) (size T)) terms
    (omega arith) (first_is T (held_field p T holds) (rows_of_shape T holds.shape) (is_enough p T holds)) e)
