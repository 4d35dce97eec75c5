-- Terms whose numbers are those of rows.
use Rattle.std.proofs.Common.{◌≡◌, ◌<◌, ◌+◌, ◌-◌, ◌++◌, ℕ, suc, List, [], ◌∷◌, length, get_or, drop, ap, sym, subst, ◌∙◌, arith, All}
use Rattle.std.specs.Prelude.{slice_get, Some, None, Ok, Bool, true, false, if◌then◌else◌}
use Rattle.fpl_numbers.specs.declared.number.Num.{Num}
use Rattle.fpl_numbers.specs.declared.number.Kind.{Kind}
use Rattle.fpl_numbers.specs.declared.number.Kind.TheVariants.{Prime}
use Rattle.fpl_numbers.specs.Numbers.{IsListed, IsElement, is_nought, negative_of, residue_of, residue}
use Rattle.fpl_numbers.specs.Kinds.{field_of, number_of}
use Rattle.fpl_numbers.specs.Reads.{Reads}
use Rattle.fpl_numbers.proofs.KindReads.{kind_reads}
use Rattle.math_linear.specs.Vector.{scale}
use Rattle.fpl_scalar.specs.Vectors.{axpy_of}
use Rattle.fpl_rows.specs.Meaning.{IsRowOf, vector_in}
use Rattle.fpl_rows.proofs.Fits.{ok_same, first_fits, all_head, all_tail}
use Rattle.fpl_rows.proofs.Readings.{axpy_places, scale_places}
use Rattle.fpl_log.specs.declared.terms.Term as log
use Rattle.fpl_log.specs.Plain.{IsTermOf, term_row, terms_off, scaled_by, conclude_of}
use Rattle.fpl_log.proofs.TermsTaken.{drop_next}
use Rattle.fpl_model.specs.declared.expr.Expr.{Expr}
use Rattle.fpl_check.specs.Steps.{scale_if}
use Rattle.fpl_forms.specs.declared.term.Term.{Term}
use Rattle.fpl_forms.specs.declared.term.Fact.{Fact}
use Rattle.fpl_forms.specs.Ledgers.{PlainLedger, Grows}
use Rattle.fpl_forms.specs.Forms.{AreTermsOf}
use Rattle.fpl_forms.specs.Forms as form
use Rattle.fpl_forms.specs.Combining.{multiplied}
use Rattle.fpl_forms.specs.Laws.{number_in}
use Rattle.fpl_forms.proofs.Values.{number-append, tidied_form, multiplied_is_form}
use Rattle.fpl_forms.proofs.Tidied.{tidied_is_form}
use Rattle.fpl_facts.specs.Facts.{IsZero}
use Rattle.fpl_prove.specs.Taking.{off_number, taken, all_taken, scaled_terms}
use Rattle.fpl_table_facts.proofs.Grown.{grows_fact}
use Rattle.std.proofs.lemmas.List.Elements.{All-append}

pub grows_zeros : {L M : PlainLedger} (g : Grows L M) (atoms : List Expr) (zs : List Fact) → All (IsZero L atoms) zs → All (IsZero M atoms) zs
grows_zeros g atoms zs h i d lt = grows_fact g (h i d lt)

pub taken_step : (q : ℕ) (zss : List (List Term)) (ts us : List Term) (terms : List log.Term) (j k : ℕ) (t : log.Term) → j ≡ suc k →
    Some t ≡ slice_get terms k →
    us ≡ taken q zss ts t → all_taken q zss us (drop j terms) ≡ all_taken q zss ts (drop k terms)
taken_step q zss ts us terms j k t e got is =
    ap (λ (i : ℕ). all_taken q zss us (drop i terms)) e ∙ ap (λ (us : List Term). all_taken q zss us (drop (suc k) terms)) is
    ∙ ap (all_taken q zss ts) (sym (drop_next terms k t got))

-- terms of m atoms that are read as a row of n numbers
pub record IsRead (k : Kind) (q m n : ℕ) (xs : List Num) (ts : List Term) : Type 0 where
  pub row : IsRowOf k n xs
  pub terms : AreTermsOf q m ts
  pub numbers : (i : ℕ) → number_in k ts i ≡ vector_in k xs i

pub record AreRead (k : Kind) (q m n : ℕ) (rows : List (List Num)) (tss : List (List Term)) : Type 0 where
  pub count : length tss ≡ length rows
  pub each : (i : ℕ) → i < length rows → IsRead k q m n (get_or rows i []) (get_or tss i [])

module _ (q : ℕ) (listed : IsListed q) (m n : ℕ) where
  reads : Reads (Prime q) (field_of (Prime q)) (number_of (Prime q))
  reads = kind_reads (Prime q) listed

  taken_read : (cs : List (List Num)) (zss : List (List Term)) (v w : List Num) (ts : List Term) (t : log.Term) → AreRead (Prime q) q m n cs zss →
      IsRead (Prime q) q m n v ts → IsTermOf (Prime q) (length cs) t → axpy_of (Prime q) v (negative_of (Prime q) t.factor) (term_row cs t) ≡ Ok w →
      IsRead (Prime q) q m n w (taken q zss ts t)
  taken_read cs zss v w ts t are is h e =
      let K = field_of (Prime q) in
      let neg = reads.negative t.factor h.factor in
      let one = h.from_one in
      let most = h.to_end in
      let named = are.each (t.step - 1) (omega arith) in
      let r = axpy_places (Prime q) K (number_of (Prime q)) reads v (term_row cs t) w (negative_of (Prime q) t.factor) is.row.elements
      neg.0 named.row.elements (is.row.length_is ∙ sym named.row.length_is) e in
      let c = off_number q t.factor in
      let us = get_or zss (t.step - 1) [] in
      let times = multiplied_is_form q m c us listed neg.0.0.0 named.terms in
      let good : AreTermsOf q m (ts ++ multiplied q c us) = All-append (form.IsTermOf q m) ts (multiplied q c us) is.terms times.0 in
      record {
        row = record { elements = r.0; length_is = r.1.0 ∙ is.row.length_is };
        terms = (tidied_form q listed m (ts ++ multiplied q c us) good).terms;
        numbers = λ i.
            (tidied_is_form q m (ts ++ multiplied q c us) listed good).2 i ∙ number-append q listed ts (multiplied q c us) i
            ∙ ap (K.plus (number_in (Prime q) ts i)) (times.3 i)
            ∙ ap (λ x. K.plus x (K.times (number_of (Prime q) (residue c)) (number_in (Prime q) us i))) (is.numbers i)
            ∙ ap (λ x. K.plus (vector_in (Prime q) v i) (K.times (number_of (Prime q) (residue c)) x)) (named.numbers i)
            ∙ sym (r.1.1 i);
      }

  all_taken_read : (cs : List (List Num)) (zss : List (List Term)) (v w : List Num) (ts : List Term) (terms : List log.Term) → AreRead (Prime q) q m n cs zss →
      IsRead (Prime q) q m n v ts → All (IsTermOf (Prime q) (length cs)) terms → terms_off (Prime q) cs v terms ≡ Ok w →
      IsRead (Prime q) q m n w (all_taken q zss ts terms)
  all_taken_read cs zss v w ts [] are is all e = subst (λ (u : List Num). IsRead (Prime q) q m n u ts) (ok_same e) is
  all_taken_read cs zss v w ts (t ∷ terms) are is all e =
      let f = first_fits _ (axpy_of (Prime q) v (negative_of (Prime q) t.factor) (term_row cs t)) w e in
      all_taken_read cs zss f.0 w (taken q zss ts t) terms are
      (taken_read cs zss v f.0 ts t are is (all_head (IsTermOf (Prime q) (length cs)) t terms all) f.1.0)
      (all_tail (IsTermOf (Prime q) (length cs)) t terms all) f.1.1

  scaled_read : (v w : List Num) (ts : List Term) (scale : Num) → IsElement (Prime q) scale → IsRead (Prime q) q m n v ts →
      scaled_by (Prime q) (scale_if scale) v ≡ Ok w → IsRead (Prime q) q m n w (scaled_terms q scale ts)
  scaled_read v w ts scale el is e = go (is_nought scale) e
    where
      go : (b : Bool) → scaled_by (Prime q) (if b then None else Some scale) v ≡ Ok w →
          IsRead (Prime q) q m n w (if b then ts else multiplied q (residue_of scale) ts)
      go true e = subst (λ (u : List Num). IsRead (Prime q) q m n u ts) (ok_same e) is
      go false e =
          let K = field_of (Prime q) in
          let r = scale_places (Prime q) K (number_of (Prime q)) reads v w scale is.row.elements el e in
          let times = multiplied_is_form q m (residue_of scale) ts listed el.0.0 is.terms in
          record {
            row = record { elements = r.0; length_is = r.1.0 ∙ is.row.length_is };
            terms = times.0;
            numbers = λ i.
                times.3 i ∙ ap (λ (c : Num). K.times (number_of (Prime q) c) (number_in (Prime q) ts i)) (sym el.0.1)
                ∙ ap (K.times (number_of (Prime q) scale)) (is.numbers i) ∙ sym (r.1.1 i);
          }

  -- what a step makes of rows and of terms
  abbrev ConcludesRead : Kind → Type 0
  ConcludesRead k =
      (cs : List (List Num)) (zss : List (List Term)) (source row : List Num) (ts : List Term) (terms : List log.Term) (scale : Num) → AreRead k q m n cs zss →
      IsRead k q m n source ts → All (IsTermOf k (length cs)) terms → IsElement k scale → conclude_of k cs source terms (scale_if scale) ≡ Ok row →
      IsRead k q m n row (scaled_terms q scale (all_taken q zss ts terms))

  concluded_read : ConcludesRead (Prime q)
  concluded_read cs zss source row ts terms scale are is all el e =
      let f = first_fits _ (terms_off (Prime q) cs source terms) row e in
      scaled_read f.0 row (all_taken q zss ts terms) scale el (all_taken_read cs zss source f.0 ts terms are is all f.1.0) f.1.1

  pub insert_read : (k : Kind) → k ≡ Prime q → ConcludesRead k
  insert_read k e = subst ConcludesRead (sym e) concluded_read

  abbrev ClosesRead : Kind → Type 0
  ClosesRead k =
      (cs : List (List Num)) (zss : List (List Term)) (source row : List Num) (ts : List Term) (terms : List log.Term) → AreRead k q m n cs zss →
      IsRead k q m n source ts → All (IsTermOf k (length cs)) terms → conclude_of k cs source terms None ≡ Ok row →
      IsRead k q m n row (all_taken q zss ts terms)

  closed_read : ClosesRead (Prime q)
  closed_read cs zss source row ts terms are is all e =
      let f = first_fits _ (terms_off (Prime q) cs source terms) row e in
      subst (λ (u : List Num). IsRead (Prime q) q m n u (all_taken q zss ts terms)) (ok_same f.1.1) (all_taken_read cs zss source f.0 ts terms are is all f.1.0)

  pub close_read : (k : Kind) → k ≡ Prime q → ClosesRead k
  close_read k e = subst ClosesRead (sym e) closed_read
