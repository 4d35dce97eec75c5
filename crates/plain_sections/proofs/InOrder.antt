-- The steps of an accepted section are in order: a row that is zero is never closed, since closed rows are independent.
use Rattle.std.specs.Prelude.{◌≡◌, ◌≢◌, ℕ, zero, suc, ◌+◌, ◌-◌, ◌<◌, ◌≤◌, List, [], ◌∷◌, ◌++◌, length, map, drop, get_or, slice_get, Option, Some, None, Ok, Bool, true, false, All, if◌then◌else◌}
use mathlib.Core.Path.{refl, sym, ap, ap₂, ◌∙◌, subst}
use native.Mathlib.Omega.{arith}
use native.Mathlib.Decide.{ℕ_discrete}
use Rattle.std.proofs.lemmas.List.{length-append, get_or_append_left, get_or_push, get_or-map}
use Rattle.math_fields.specs.Field.{Field}
use Rattle.math_linear.specs.Vector.{Vector, vzero, vplus, scale}
use Rattle.math_linear.proofs.Numbers.{times-nought}
use Rattle.fpl_numbers.specs.declared.number.Num.{Num}
use Rattle.fpl_numbers.specs.Numbers.{IsField, is_nought}
use Rattle.fpl_numbers.specs.Reads.{Reads}
use Rattle.fpl_numbers.specs.Kinds.{field_of, number_of}
use Rattle.fpl_numbers.proofs.KindReads.{kind_reads}
use Rattle.fpl_rows.specs.Positions.{lead_of}
use Rattle.fpl_rows.specs.Meaning.{vector_in, pivot_in, AreRows, IsRowOf, IsClosedList}
use Rattle.fpl_rows.proofs.Fits.{none_some, all_head, all_tail}
use Rattle.fpl_rows.proofs.Readings.{all_nought}
use Rattle.fpl_model.specs.declared.presentation.Presentation.{Presentation}
use Rattle.fpl_log.specs.declared.terms.Term.{Term}
use Rattle.fpl_log.specs.declared.step.Step.{Step}
use Rattle.fpl_log.specs.declared.step.Step.TheVariants.{Insert, Close}
use Rattle.fpl_log.specs.declared.section.Section.{Section}
use Rattle.fpl_log.specs.Conclusion.{cited, terms_sum}
use Rattle.fpl_log.specs.Plain.{IsTermOf}
use Rattle.fpl_log.specs.Slim.{new_number, next_number, next_count, IsEarlier, AreInOrder}
use Rattle.fpl_log.proofs.TermsTaken.{conclusion_means}
use Rattle.fpl_table.specs.Plain.{PlainTable, symbols_in}
use Rattle.fpl_check.specs.declared.cites.Cited.{Cited}
use Rattle.fpl_check.specs.declared.cites.Cited.TheVariants.{Inserts, Closes}
use Rattle.fpl_check.specs.declared.fault.Spot.TheVariants.{Step as AtStep}
use Rattle.fpl_check.specs.Cited.{named}
use Rattle.fpl_check.specs.Premises.{AreFactorsOf, HasNumbersOf, IsSectionFor}
use Rattle.fpl_check.specs.Steps.{is_close, names_close, test_cites, test_zero, test_dependent}
use Rattle.fpl_check.specs.ClosedRows.{close_rows}
use Rattle.fpl_check.specs.Check.{Accepts, rows_stored}
use Rattle.fpl_check.proofs.Loops.{both_true}
use Rattle.fpl_check.proofs.ListedOrigins.{named_within, terms_pass}
use Rattle.fpl_check.proofs.PassedRows.{zero_is}
use Rattle.fpl_check.proofs.StepParts.{all_cited, CloseParts}
use Rattle.fpl_check.proofs.Conclusions.{Concludes, HaveRows, rows_more}
use Rattle.plain_sections.proofs.Accepted.{accepted_parts, stored_are_concluded, stored_are_closed}

-- an Insert step with scale 0 concludes zero
pub dependent_zero : (n : ℕ) (scale : Num) (row : List Num) → test_dependent n scale row ≡ Ok tt → is_nought scale ≡ true → lead_of row ≡ None
dependent_zero n scale row e z = zero_is (AtStep n) row (subst (λ b. (if b then test_zero (AtStep n) row else Ok tt) ≡ Ok tt) z e)

-- where a list goes on with x, x stands there
pub record IsThere {X : Type 0} (xs : List X) (k : ℕ) (x d : X) (rest : List X) : Type 0 where
  pub inside : k < length xs
  pub found : slice_get xs k ≡ Some x
  pub got : get_or xs k d ≡ x
  pub after : drop (k + 1) xs ≡ rest

pub is_there : {X : Type 0} (xs : List X) (k : ℕ) (x d : X) (rest : List X) → drop k xs ≡ x ∷ rest → IsThere xs k x d rest
is_there [] zero x d rest e = absurd (let z : ⊥ = cc in z)
is_there [] (suc k) x d rest e = absurd (let z : ⊥ = cc in z)
is_there (y ∷ ys) zero x d rest e =
    let f : y ≡ x = cc in
    record { inside = omega arith; found = ap Some f; got = f; after = (let g : ys ≡ rest = cc in g) }
is_there (y ∷ ys) (suc k) x d rest e = let h = is_there ys k x d rest e in record {
  inside = omega (arith, h.inside);
  found = h.found;
  got = h.got;
  after = ap (λ i. drop i (y ∷ ys)) (let g : suc k + 1 ≡ suc (k + 1) = omega arith in g) ∙ h.after;
}

module _ (K : Field) (value : Num → K.Carrier) where
  -- a sum of terms is 0 where the rows that they name are
  sum_at : (f : ℕ → Vector K) (q : ℕ) (ts : List Term) → All (λ t. f t.step q ≡ K.nought) ts → terms_sum K value f ts q ≡ K.nought
  unfolding terms_sum vzero vplus scale
  sum_at f q [] all = refl
  sum_at f q (t ∷ ts) all =
      ap₂ K.plus (ap (K.times (value t.factor)) (all_head (λ t. f t.step q ≡ K.nought) t ts all) ∙ times-nought K (value t.factor))
      (sum_at f q ts (all_tail (λ t. f t.step q ≡ K.nought) t ts all))
      ∙ K.plus-nought K.nought

  less_at : (v t : Vector K) (q : ℕ) → v q ≡ K.nought → t q ≡ K.nought → vplus K v (scale K (K.minus K.unit) t) q ≡ K.nought
  unfolding vplus scale
  less_at v t q e f = ap₂ K.plus e (ap (K.times (K.minus K.unit)) f ∙ times-nought K (K.minus K.unit)) ∙ K.plus-nought K.nought

  zero_at : (q : ℕ) → vzero K q ≡ K.nought
  unfolding vzero
  zero_at q = refl

-- the new numbers of the steps before: where there is none the conclusion is zero
pub record Kept (numbers : List (Option ℕ)) (earlier : List (List Num)) : Type 0 where
  pub same_length : length numbers ≡ length earlier
  pub zero_row : (i : ℕ) → i < length earlier → get_or numbers i None ≡ None → lead_of (get_or earlier i []) ≡ None

pub kept_more : (numbers : List (Option ℕ)) (earlier : List (List Num)) (o : Option ℕ) (row : List Num) → Kept numbers earlier →
    (o ≡ None → lead_of row ≡ None) → Kept (numbers ++ o ∷ []) (earlier ++ row ∷ [])
kept_more numbers earlier o row h zero_now = record {
  same_length = length-append numbers (o ∷ []) ∙ ap (λ k. k + 1) h.same_length ∙ sym (length-append earlier (row ∷ []));
  zero_row = λ i l. at i l (ℕ_discrete i (length earlier));
}
  where
    at : (i : ℕ) → i < length (earlier ++ row ∷ []) → Dec (i ≡ length earlier) → get_or (numbers ++ o ∷ []) i None ≡ None →
        lead_of (get_or (earlier ++ row ∷ []) i []) ≡ None
    at i l (yes d) e =
        ap lead_of (get_or_push earlier row [] i (sym d)) ∙ zero_now (sym (get_or_push numbers o None i (h.same_length ∙ sym d)) ∙ e)
    at i l (no d) e =
        let below : i < length earlier = (let k = length-append earlier (row ∷ []) in omega (arith, l, d, k)) in
        ap lead_of (get_or_append_left earlier (row ∷ []) [] i below)
        ∙ h.zero_row i below (sym (get_or_append_left numbers (o ∷ []) None i (let k = h.same_length in omega (arith, below, k))) ∙ e)

module _ (T : PlainTable) (p : Presentation) (listed : IsField T.kind) (n : ℕ) (sources : HaveRows T p n) (steps : List Step) (rows : List (List Num))
    (closed : IsClosedList T.kind n rows) where
  abbrev K : Field
  K = field_of T.kind

  abbrev value : Num → K.Carrier
  value = number_of T.kind

  reads : Reads T.kind K value
  reads = kind_reads T.kind listed

  -- the conclusions of the Close steps before are the first k rows
  AreFirst : ℕ → List (List Num) → Type 0
  AreFirst k earlier = (i : ℕ) → i < length earlier → is_close (slice_get steps i) ≡ true → (j : ℕ) × ((j < k) × (get_or rows j [] ≡ get_or earlier i []))

  first_more : (k k' : ℕ) (earlier : List (List Num)) (row : List Num) → k ≤ k' → AreFirst k earlier →
      (is_close (slice_get steps (length earlier)) ≡ true → (k < k') × (get_or rows k [] ≡ row)) → AreFirst k' (earlier ++ row ∷ [])
  unfolding AreFirst
  first_more k k' earlier row most h now i l e = at (ℕ_discrete i (length earlier))
    where
      at : Dec (i ≡ length earlier) → (j : ℕ) × ((j < k') × (get_or rows j [] ≡ get_or (earlier ++ row ∷ []) i []))
      at (yes d) = let a = now (subst (λ i. is_close (slice_get steps i) ≡ true) d e) in (k, (a.0, a.1 ∙ sym (get_or_push earlier row [] i (sym d))))
      at (no d) =
          let below : i < length earlier = (let m = length-append earlier (row ∷ []) in omega (arith, l, d, m)) in
          let a = h i below e in
          (a.0, ((let b = a.1.0 in omega (arith, b, most)), a.1.1 ∙ sym (get_or_append_left earlier (row ∷ []) [] i below)))

  -- what a Close step closes is not left out
  closed_kept : (earlier : List (List Num)) (numbers : List (Option ℕ)) (k of : ℕ) (terms : List Term) (row : List Num) → AreRows T.kind n earlier →
      Kept numbers earlier → AreFirst k earlier → k < length rows → get_or rows k [] ≡ row →
      AreFactorsOf T.kind terms → CloseParts T p steps earlier of terms row → new_number numbers of ≢ None
  unfolding AreFirst
  closed_kept earlier numbers k of terms row are kept first l at factors h left =
      K.unit≢nought (sym (closed.closed.leads k l) ∙ ap (λ v. v q) (ap (vector_in T.kind) at ∙ means)
      ∙ less_at K value (vector_in T.kind start) (terms_sum K value (cited K value done) terms) q start_at
      (sum_at K value (cited K value done) q terms each))
    where
      q : ℕ
      q = pivot_in rows k

      start : List Num
      start = get_or earlier (of - 1) []

      done : List (Vector K)
      done = map (vector_in T.kind) earlier

      of_is : (1 ≤ of) × (of ≤ length earlier)
      of_is = named_within Inserts steps (length earlier) of h.of_named

      below : of - 1 < length earlier
      below = (let a = of_is.0 in let b = of_is.1 in omega (arith, a, b))

      is : IsRowOf T.kind n start
      is = are (of - 1) [] below

      start_at : vector_in T.kind start q ≡ K.nought
      start_at = ap (λ v. v q) (all_nought T.kind K value reads start is.elements (kept.zero_row (of - 1) below left)) ∙ zero_at K value q

      terms_are : All (IsTermOf T.kind (length earlier)) terms
      terms_are = terms_pass T.kind Closes steps (length earlier) terms factors h.cites

      means : vector_in T.kind row ≡ vplus K (vector_in T.kind start) (scale K (K.minus K.unit) (terms_sum K value (cited K value done) terms))
      means = conclusion_means T.kind earlier start row terms None listed is.elements
          (subst (λ w. AreRows T.kind w earlier) (sym is.length_is) are) terms_are (λ c e. absurd (none_some e)) h.concludes

      each : All (λ t. cited K value done t.step q ≡ K.nought) terms
      each i d m =
          let t = get_or terms i d in
          let named = all_cited (names_close steps (length earlier + 1)) (length earlier + 1) terms h.cites i d m in
          let within = named_within Closes steps (length earlier) t.step named in
          let inside : t.step - 1 < length earlier = (let a = within.0 in let b = within.1 in omega (arith, a, b)) in
          let j = first (t.step - 1) inside (both_true _ (is_close (slice_get steps (t.step - 1))) named).1 in
          let other : j.0 ≢ k = (let b = j.1.0 in omega (arith, b)) in
          ap (λ v. v q) (get_or-map (vector_in T.kind) earlier (t.step - 1) [] (vzero K) inside ∙ ap (vector_in T.kind) (sym j.1.1))
          ∙ closed.closed.apart j.0 k (let b = j.1.0 in omega (arith, b, l)) l other

  cites_earlier : (sort : Cited) (earlier : List (List Num)) (numbers : List (Option ℕ)) (ts : List Term) → Kept numbers earlier →
      test_cites (named sort steps (length earlier + 1)) (length earlier + 1) ts ≡ Ok tt → All (λ t. IsEarlier (length numbers) t.step) ts
  cites_earlier sort earlier numbers ts kept e i d l =
      let a = named_within sort steps (length earlier) (get_or ts i d).step
      (all_cited (named sort steps (length earlier + 1)) (length earlier + 1) ts e i d l) in
      record { from_one = a.0; to_end = (let b = a.1 in let c = kept.same_length in omega (arith, b, c)) }

  -- the steps that are left, where the rows that are left are the conclusions of their Close steps
  order : (ss : List Step) (rest earlier : List (List Num)) (numbers : List (Option ℕ)) (count k : ℕ) → Concludes T p steps earlier ss rest →
      drop (length earlier) steps ≡ ss → drop k rows ≡ close_rows ss rest →
      Kept numbers earlier → AreFirst k earlier → AreRows T.kind n earlier → All (HasNumbersOf T.kind) ss → AreInOrder numbers count ss
  order [] rest earlier numbers count k h from left kept first are all = tt
  order (s ∷ ss) [] earlier numbers count k h from left kept first are all = absurd h
  order ((Insert o terms c) ∷ ss) (row ∷ rest) earlier numbers count k h from left kept first are all =
      let here = is_there steps (length earlier) (Insert o terms c) (Insert o terms c) ss from in (
        cites_earlier Inserts earlier numbers terms kept h.0.cites,
        order ss rest (earlier ++ row ∷ []) (numbers ++ (next_number (is_nought c) count) ∷ []) (next_count (is_nought c) count) k h.1
            (ap (λ m. drop m steps) (length-append earlier (row ∷ [])) ∙ here.after) left
            (kept_more numbers earlier (next_number (is_nought c) count) row kept (zero_now (is_nought c) refl))
            (first_more k k earlier row (omega arith) first (λ e. absurd (not_close (ap is_close here.found) e)))
            (rows_more T p listed n sources steps earlier (Insert o terms c) row are (all_head (HasNumbersOf T.kind) (Insert o terms c) ss all) h.0)
            (all_tail (HasNumbersOf T.kind) (Insert o terms c) ss all),
      )
    where
      zero_now : (b : Bool) → is_nought c ≡ b → next_number b count ≡ None → lead_of row ≡ None
      zero_now true e f = dependent_zero (length earlier + 1) c row h.0.dependent e
      zero_now false e f = absurd (none_some (sym f))

      not_close : {x : Bool} → x ≡ false → x ≡ true → ⊥
      not_close e f = cc
  order ((Close of terms) ∷ ss) (row ∷ rest) earlier numbers count k h from left kept first are all =
      let here = is_there steps (length earlier) (Close of terms) (Close of terms) ss from in
      let there = is_there rows k row [] (close_rows ss rest) left in
      let numbers_of = all_head (HasNumbersOf T.kind) (Close of terms) ss all in
      let a = named_within Inserts steps (length earlier) of h.0.of_named in (
        (
          (record { from_one = a.0; to_end = (let b = a.1 in let c = kept.same_length in omega (arith, b, c)) }),
          closed_kept earlier numbers k of terms row are kept first there.inside there.got numbers_of h.0,
          cites_earlier Closes earlier numbers terms kept h.0.cites,
        ),
        order ss rest (earlier ++ row ∷ []) (numbers ++ (Some (count + 1)) ∷ []) (count + 1) (k + 1) h.1
            (ap (λ m. drop m steps) (length-append earlier (row ∷ [])) ∙ here.after) there.after
            (kept_more numbers earlier (Some (count + 1)) row kept (λ e. absurd (none_some (sym e))))
            (first_more k (k + 1) earlier row (omega arith) first (λ e. (omega arith, there.got)))
            (rows_more T p listed n sources steps earlier (Close of terms) row are numbers_of h.0) (all_tail (HasNumbersOf T.kind) (Close of terms) ss all),
      )

module _ (T : PlainTable) (p : Presentation) (listed : IsField T.kind) (sources : HaveRows T p (length (symbols_in T))) where
  pub accepted_in_order : (s : Section) (rows : List (List Num)) → IsSectionFor T s → Accepts T p s rows → AreInOrder [] 0 s.steps
  unfolding AreFirst
  accepted_in_order s rows is e =
      let h = (accepted_parts T p s rows e).0 in
      order T p listed (length (symbols_in T)) sources s.steps (rows_stored T s) (stored_are_closed T p listed sources s is h) s.steps h.conclusions []
      [] 0 0 h.conclude refl
      (stored_are_concluded T p listed sources s is h) (record { same_length = refl; zero_row = λ i l. absurd (omega (arith, l)) })
      (λ i l. absurd (omega (arith, l))) (λ i d l. absurd (omega (arith, l))) is.numbers.steps
