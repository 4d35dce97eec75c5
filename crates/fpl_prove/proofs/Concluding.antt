-- What steps conclude has the numbers of their conclusions.
use Rattle.std.proofs.Common.{◌≡◌, ◌≤◌, ◌<◌, ◌-◌, ℕ, zero, suc, List, [], ◌∷◌, length, map, get_or, refl, ap, sym, subst, ◌∙◌, arith, All, true}
use Rattle.std.specs.Prelude.{slice_get, Some, Ok}
use Rattle.fpl_numbers.specs.declared.number.Num.{Num}
use Rattle.fpl_numbers.specs.declared.number.Kind.{Kind}
use Rattle.fpl_numbers.specs.declared.number.Kind.TheVariants.{Prime}
use Rattle.fpl_numbers.specs.Numbers.{IsElement}
use Rattle.fpl_rows.specs.Meaning.{AreRows, vector_in}
use Rattle.fpl_log.specs.declared.step.Origin.{Origin}
use Rattle.fpl_log.specs.declared.step.Step.TheVariants.{Insert, Close}
use Rattle.fpl_log.specs.declared.terms.Term as log
use Rattle.fpl_log.specs.Plain.{IsTermOf}
use Rattle.fpl_model.specs.declared.presentation.Presentation.{Presentation}
use Rattle.fpl_table.specs.Plain.{PlainTable, symbols_in}
use Rattle.plain_tables.specs.Holds.{Holds}
use Rattle.fpl_rewrite.specs.Rows.{row_of_origin}
use Rattle.plain_sources.proofs.Laws.{rows_of_shape, weights_of_built, rows_stand}
use Rattle.plain_sources.proofs.HeldTables.{origin_rows}
use Rattle.fpl_check.specs.Steps.{is_origin}
use Rattle.fpl_check.proofs.ListedOrigins.{origin_listed}
use Rattle.fpl_check.proofs.StepParts.{step_parts}
use Rattle.fpl_forms.specs.declared.term.Term.{Term}
use Rattle.fpl_forms.specs.declared.term.Fact.{Fact}
use Rattle.fpl_forms.specs.Ledgers.{PlainLedger, IsSoundLedger, Grows}
use Rattle.fpl_forms.specs.Forms.{AreTermsOf}
use Rattle.fpl_forms.specs.Combining.{terms_of}
use Rattle.fpl_forms.specs.Laws.{number_in}
use Rattle.fpl_facts.specs.Facts.{IsZero}
use Rattle.fpl_table_facts.specs.declared.known.Next.{Next}
use Rattle.fpl_prove.specs.Zeros.{IsZeroOf, AreConcluded, origin_vector}
use Rattle.fpl_prove.specs.Taking.{all_taken, scaled_terms}
use Rattle.fpl_prove.specs.Concluding.{IsConclusionOf}
use Rattle.fpl_prove.proofs.Reading.{IsRead, AreRead, insert_read, close_read}

pub got_item : {A B : Type 0} (f : A → B) (xs : List A) (i : ℕ) (d : B) → i < length xs → (x : A) × (slice_get xs i ≡ Some x) × (get_or (map f xs) i d ≡ f x)
got_item f [] i d l = absurd (omega (arith, l))
got_item f (x ∷ xs) zero d l = (x, refl, refl)
got_item f (x ∷ xs) (suc i) d l = got_item f xs i d (omega (arith, l))

length_mapped : {A B : Type 0} (f : A → B) (xs : List A) → length (map f xs) ≡ length xs
length_mapped f [] = refl
length_mapped f (x ∷ xs) = ap suc (length_mapped f xs)

-- numbers over one kind, over another that is the same
numbers_over : (k h : Kind) → k ≡ h → (ts : List Term) (row : List Num) → ((i : ℕ) → number_in k ts i ≡ vector_in k row i) →
    (i : ℕ) → number_in h ts i ≡ vector_in h row i
numbers_over k h e ts row n = subst (λ (k : Kind). (i : ℕ) → number_in k ts i ≡ vector_in k row i) e n

module _ (L : PlainLedger) (T : PlainTable) (n : Next) (holds : Holds L.presentation T) (s : IsSoundLedger L) where
  abbrev m : ℕ
  m = length n.trees.items

  abbrev size : ℕ
  size = length (symbols_in T)

  prime_is : T.kind ≡ Prime L.prime
  prime_is = holds.kind ∙ s.field

  pub prime_after : (M : PlainLedger) → Grows L M → T.kind ≡ Prime M.prime
  prime_after M g = prime_is ∙ ap Prime (sym g.prime)

  are_read : (cs : List (List Num)) (zs : List Fact) → AreConcluded L n cs zs → AreRows T.kind size cs → AreRead T.kind L.prime m size cs (map terms_of zs)
  are_read cs zs h rows = record {
    count = length_mapped terms_of zs ∙ h.count;
    each = λ i l.
        let z = got_item terms_of zs i [] (let c = h.count in omega (arith, l, c)) in
        let is = h.each i z.0 z.1 in
        subst (IsRead T.kind L.prime m size (get_or cs i [])) (sym z.2)
        (record {
          row = rows i [] l;
          terms = is.zero.work.terms;
          numbers = numbers_over L.presentation.field T.kind (sym holds.kind) z.0.terms.items (get_or cs i []) is.numbers;
        });
  }

  -- the row of an origin
  source_read : (M : PlainLedger) → Grows L M → (o : Origin) (source : List Num) (f : Fact) → is_origin T L.presentation o ≡ true →
      row_of_origin T L.presentation o ≡ Ok source → IsZeroOf M n (origin_vector M.presentation T o) f →
      IsRead T.kind L.prime m size source f.terms.items
  source_read M g o source f is reads h =
      let p = L.presentation in
      let listed = origin_listed T p o is in
      let stands = rows_stand p T holds.kind holds.generators holds.sound (rows_of_shape T holds.shape)
      (weights_of_built p T holds.kind holds.generators holds.sound holds.built) o listed source reads in
      let numbers = subst (λ (p : Presentation). (i : ℕ) → number_in p.field f.terms.items i ≡ origin_vector p T o i) g.presentation h.numbers in
      record {
        row = origin_rows p T holds o listed source reads;
        terms = subst (λ (q : ℕ). AreTermsOf q m f.terms.items) g.prime h.zero.work.terms;
        numbers = numbers_over p.field T.kind (sym holds.kind) f.terms.items source (λ i. numbers i ∙ sym (ap (λ v. v i) stands.vector));
      }

  -- what is read as a row over the kind of the table
  zero_read : (M : PlainLedger) → Grows L M → (row : List Num) (f : Fact) (ts : List Term) → f.terms.items ≡ ts → IsZero M n.trees.items f →
      IsRead T.kind L.prime m size row ts → IsZeroOf M n (vector_in M.presentation.field row) f
  zero_read M g row f ts e z is = record {
    zero = z;
    numbers = numbers_over T.kind M.presentation.field (holds.kind ∙ ap (λ (p : Presentation). p.field) (sym g.presentation)) f.terms.items row
        (subst (λ (ts : List Term). (i : ℕ) → number_in T.kind ts i ≡ vector_in T.kind row i) (sym e) is.numbers);
  }

  pub inserted : (N M : PlainLedger) → Grows L N → Grows L M → (zs : List Fact) (o : Origin) (terms : List log.Term) (scale : Num) (start f : Fact) →
      is_origin T L.presentation o ≡ true → All (IsTermOf T.kind (length zs)) terms → IsElement T.kind scale →
      IsZeroOf N n (origin_vector N.presentation T o) start → IsZero M n.trees.items f →
      f.terms.items ≡ scaled_terms L.prime scale (all_taken L.prime (map terms_of zs) start.terms.items terms) →
      IsConclusionOf L M T n zs (Insert o terms scale) f
  inserted N M h g zs o terms scale start f is all el started z e steps cs row concluded rows passes =
      let parts = step_parts T L.presentation steps cs (Insert o terms scale) row passes in
      let read = insert_read L.prime s.listed m size T.kind prime_is cs (map terms_of zs) parts.source row start.terms.items terms scale
      (are_read cs zs concluded rows) (source_read N h o parts.source start is parts.reads started)
      (subst (λ (c : ℕ). All (IsTermOf T.kind c) terms) concluded.count all) el parts.concludes in
      zero_read M g row f _ e z read

  pub closed : (M : PlainLedger) → Grows L M → (zs : List Fact) (of : ℕ) (terms : List log.Term) (f start : Fact) → 1 ≤ of → of ≤ length zs →
      All (IsTermOf T.kind (length zs)) terms → slice_get zs (of - 1) ≡ Some start → IsZero M n.trees.items f →
      f.terms.items ≡ all_taken L.prime (map terms_of zs) start.terms.items terms →
      IsConclusionOf L M T n zs (Close of terms) f
  closed M g zs of terms f start one most all got z e steps cs row concluded rows passes =
      let parts = step_parts T L.presentation steps cs (Close of terms) row passes in
      let count = concluded.count in
      let is = concluded.each (of - 1) start got in
      let from : IsRead T.kind L.prime m size (get_or cs (of - 1) []) start.terms.items = record {
        row = rows (of - 1) [] (omega (arith, one, most, count));
        terms = is.zero.work.terms;
        numbers = numbers_over L.presentation.field T.kind (sym holds.kind) start.terms.items (get_or cs (of - 1) []) is.numbers;
      } in
      let read = close_read L.prime s.listed m size T.kind prime_is cs (map terms_of zs) (get_or cs (of - 1) []) row start.terms.items terms
      (are_read cs zs concluded rows) from (subst (λ (c : ℕ). All (IsTermOf T.kind c) terms) concluded.count all) parts.concludes in
      zero_read M g row f _ e z read
