-- Steps that are left out, because they conclude zero, change no conclusion of the others, operation by operation.
use Rattle.std.specs.Prelude.{◌≡◌, ◌≢◌, ℕ, ◌+◌, ◌-◌, ◌<◌, List, [], ◌∷◌, ◌++◌, length, drop, get_or, slice_get, Option, Some, None, unwrap_or, Ok, Bool, true, false, All, if◌then◌else◌}
use mathlib.Core.Path.{refl, sym, ap, ◌∙◌, subst}
use native.Mathlib.Omega.{arith}
use Rattle.std.proofs.lemmas.List.{length-append, get_or_push}
use Rattle.math_linear.specs.Vector.{vplus, scale}
use Rattle.math_linear.specs.Lists.{vector_of}
use Rattle.math_linear.proofs.Vectors.{vplus-vzero, scale-vzero}
use Rattle.fpl_numbers.specs.declared.number.Num.{Num}
use Rattle.fpl_numbers.specs.Numbers.{IsField, is_nought, negative_of}
use Rattle.fpl_numbers.specs.Reads.{Reads}
use Rattle.fpl_numbers.specs.Kinds.{field_of, number_of}
use Rattle.fpl_numbers.specs.Results.{and_then}
use Rattle.fpl_numbers.proofs.KindReads.{kind_reads}
use Rattle.fpl_scalar.specs.Vectors.{axpy_of}
use Rattle.fpl_rows.specs.Positions.{lead_of}
use Rattle.fpl_rows.specs.Meaning.{IsRowOf, AreRows}
use Rattle.fpl_rows.proofs.Fits.{first_fits, all_head, all_tail, all_cons}
use Rattle.fpl_rows.proofs.Readings.{axpy_reads, all_nought, vectors_same}
use Rattle.fpl_model.specs.declared.presentation.Presentation.{Presentation}
use Rattle.fpl_log.specs.declared.terms.Term.{Term}
use Rattle.fpl_log.specs.declared.step.Origin.{Origin}
use Rattle.fpl_log.specs.declared.step.Step.{Step}
use Rattle.fpl_log.specs.declared.step.Step.TheVariants.{Insert, Close}
use Rattle.fpl_log.specs.Plain.{IsTermOf, term_row, terms_off, scaled_by}
use Rattle.fpl_log.specs.Slim.{new_number, next_number, next_count, slim_term, slim_terms, slim_step, kept_if, slim_steps, AreInOrder}
use Rattle.fpl_table.specs.Plain.{PlainTable}
use Rattle.fpl_check.specs.declared.cites.Cited.{Cited}
use Rattle.fpl_check.specs.declared.cites.Cited.TheVariants.{Inserts, Closes}
use Rattle.fpl_check.specs.declared.fault.Spot.TheVariants.{Step as AtStep}
use Rattle.fpl_check.specs.Cited.{named}
use Rattle.fpl_check.specs.Premises.{AreFactorsOf, HasNumbersOf}
use Rattle.fpl_check.specs.Steps.{names_insert, names_close, test_zero, scale_if}
use Rattle.fpl_check.specs.ClosedRows.{close_rows}
use Rattle.fpl_check.proofs.ListedOrigins.{origin_listed, named_within, terms_pass}
use Rattle.fpl_check.proofs.StepParts.{all_cited, InsertParts, CloseParts, StepParts}
use Rattle.fpl_check.proofs.Conclusions.{Concludes, HaveRows, rows_more}
use Rattle.plain_sections.proofs.InOrder.{dependent_zero, is_there}
use Rattle.plain_sections.proofs.StepsMore.{is_sort, named_is, named_sort, cites_all}
use Rattle.plain_sections.proofs.Staying.{Stays, Agrees, Same, agrees_more, same_more}

module _ (T : PlainTable) (p : Presentation) (listed : IsField T.kind) (n : ℕ) (sources : HaveRows T p n) (steps slim : List Step) where
  reads : Reads T.kind (field_of T.kind) (number_of T.kind)
  reads = kind_reads T.kind listed

  -- a multiple of zero that fits changes nothing
  same_less : (v w u : List Num) (count : ℕ) (t : Term) → IsRowOf T.kind n v → IsRowOf T.kind n u → IsTermOf T.kind count t → lead_of u ≡ None →
      axpy_of T.kind v (negative_of T.kind t.factor) u ≡ Ok w → v ≡ w
  same_less v w u count t a b is z e =
      let m = reads.negative t.factor is.factor in
      let r = axpy_reads T.kind (field_of T.kind) (number_of T.kind) reads v u w (negative_of T.kind t.factor) a.elements m.0 b.elements
      (a.length_is ∙ sym b.length_is) e in
      vectors_same T.kind (field_of T.kind) (number_of T.kind) reads v w a.elements r.elements (sym r.length_is)
      (sym (r.vector ∙ ap (λ x. vplus (field_of T.kind) (vector_of (field_of T.kind) (number_of T.kind) v)
      (scale (field_of T.kind) (number_of T.kind (negative_of T.kind t.factor)) x))
      (all_nought T.kind (field_of T.kind) (number_of T.kind) reads u b.elements z)
      ∙ ap (vplus (field_of T.kind) (vector_of (field_of T.kind) (number_of T.kind) v)) (scale-vzero (field_of T.kind) _) ∙ vplus-vzero (field_of T.kind) _))

  module _ (numbers : List (Option ℕ)) (earlier earlier' : List (List Num)) (same : Same steps slim numbers earlier earlier')
      (are : AreRows T.kind n earlier) where
    -- terms that stay cite steps of the same sort
    cites_stay : (sort : Cited) (ts : List Term) → All (λ t. named sort steps (length earlier + 1) t.step ≡ true) ts →
        All (λ t. named sort slim (length earlier' + 1) t.step ≡ true) (slim_terms numbers ts)
    unfolding Agrees
    cites_stay sort [] all = λ i d l. absurd (omega (arith, l))
    cites_stay sort (t ∷ ts) all =
        let first = all_head (λ t. named sort steps (length earlier + 1) t.step ≡ true) t ts all in
        let within = named_within sort steps (length earlier) t.step first in
        go (new_number numbers t.step) (same.each (t.step - 1) (let a = within.0 in let b = within.1 in omega (arith, a, b)))
        (named_sort sort steps (length earlier + 1) t.step first)
        (cites_stay sort ts (all_tail (λ t. named sort steps (length earlier + 1) t.step ≡ true) t ts all))
      where
        go : (o : Option ℕ) → Agrees steps slim earlier' (t.step - 1) o (get_or earlier (t.step - 1) []) → is_sort sort (slice_get steps (t.step - 1)) ≡ true →
            All (λ t. named sort slim (length earlier' + 1) t.step ≡ true) (slim_terms numbers ts) →
            All (λ t. named sort slim (length earlier' + 1) t.step ≡ true) (slim_term o t (slim_terms numbers ts))
        go None h s rest = rest
        go (Some m) h s rest =
            all_cons (λ t. named sort slim (length earlier' + 1) t.step ≡ true) (record { step = m; factor = t.factor }) (slim_terms numbers ts)
            (named_is sort slim (length earlier' + 1) m h.from_one (let a = h.to_end in omega (arith, a)) (h.sorts sort s)) rest

    -- and take off the same
    off_same : (v w : List Num) (ts : List Term) → IsRowOf T.kind n v → All (IsTermOf T.kind (length earlier)) ts →
        terms_off T.kind earlier v ts ≡ Ok w → terms_off T.kind earlier' v (slim_terms numbers ts) ≡ Ok w
    unfolding Agrees
    off_same v w [] is all e = e
    off_same v w (t ∷ ts) is all e =
        let a = all_head (IsTermOf T.kind (length earlier)) t ts all in
        let inside : t.step - 1 < length earlier = (let x = a.from_one in let y = a.to_end in omega (arith, x, y)) in
        let u = are (t.step - 1) [] inside in
        let f = first_fits (λ x. terms_off T.kind earlier x ts) (axpy_of T.kind v (negative_of T.kind t.factor) (term_row earlier t)) w e in
        let r = axpy_reads T.kind (field_of T.kind) (number_of T.kind) reads v (term_row earlier t) f.0 (negative_of T.kind t.factor) is.elements
        (reads.negative t.factor a.factor).0 u.elements (is.length_is ∙ sym u.length_is) f.1.0 in
        let rest = off_same f.0 w ts (record { elements = r.elements; length_is = r.length_is ∙ is.length_is })
        (all_tail (IsTermOf T.kind (length earlier)) t ts all) f.1.1 in
        go f.0 (new_number numbers t.step) (same.each (t.step - 1) inside) u a f.1.0 rest
      where
        go : (x : List Num) (o : Option ℕ) → Agrees steps slim earlier' (t.step - 1) o (get_or earlier (t.step - 1) []) →
            IsRowOf T.kind n (get_or earlier (t.step - 1) []) → IsTermOf T.kind (length earlier) t →
            axpy_of T.kind v (negative_of T.kind t.factor) (term_row earlier t) ≡ Ok x → terms_off T.kind earlier' x (slim_terms numbers ts) ≡ Ok w →
            terms_off T.kind earlier' v (slim_term o t (slim_terms numbers ts)) ≡ Ok w
        go x None h u a f rest =
            let m = same_less v x (get_or earlier (t.step - 1) []) (length earlier) t is u a h f in
            ap (λ y. terms_off T.kind earlier' y (slim_terms numbers ts)) m ∙ rest
        go x (Some m) h u a f rest =
            ap (λ y. and_then (λ z. terms_off T.kind earlier' z (slim_terms numbers ts)) (axpy_of T.kind v (negative_of T.kind t.factor) y)) h.is
            ∙ ap (and_then (λ z. terms_off T.kind earlier' z (slim_terms numbers ts))) f ∙ rest

    of_stays : (of : ℕ) (o : Option ℕ) → o ≢ None → Agrees steps slim earlier' (of - 1) o (get_or earlier (of - 1) []) →
        Stays steps slim earlier' (of - 1) (unwrap_or o 0) (get_or earlier (of - 1) [])
    unfolding Agrees
    of_stays of None d h = absurd (d refl)
    of_stays of (Some m) d h = h

    insert_stays : (o : Origin) (ts : List Term) (c : Num) (row : List Num) → is_nought c ≡ false → AreFactorsOf T.kind ts →
        InsertParts T p steps earlier o ts c row → InsertParts T p slim earlier' o (slim_terms numbers ts) c row
    insert_stays o ts c row kept factors h =
        let is = sources o (origin_listed T p o h.origin_is) h.source h.reads in
        let f = first_fits (λ v. scaled_by T.kind (scale_if c) v) (terms_off T.kind earlier h.source ts) row h.concludes in
        record {
          origin_is = h.origin_is;
          cites = cites_all (names_insert slim (length earlier' + 1)) (length earlier' + 1) (slim_terms numbers ts)
              (cites_stay Inserts ts (all_cited (names_insert steps (length earlier + 1)) (length earlier + 1) ts h.cites));
          source = h.source;
          reads = h.reads;
          concludes = ap (and_then (λ v. scaled_by T.kind (scale_if c) v))
              (off_same h.source f.0 ts is (terms_pass T.kind Inserts steps (length earlier) ts factors h.cites) f.1.0) ∙ f.1.1;
          dependent = ap (λ b. if b then test_zero (AtStep (length earlier' + 1)) row else Ok tt) kept;
        }

    close_stays : (of : ℕ) (ts : List Term) (row : List Num) → new_number numbers of ≢ None → AreFactorsOf T.kind ts → CloseParts T p steps earlier of ts row →
        CloseParts T p slim earlier' (unwrap_or (new_number numbers of) 0) (slim_terms numbers ts) row
    close_stays of ts row some factors h =
        let within = named_within Inserts steps (length earlier) of h.of_named in
        let inside : of - 1 < length earlier = (let a = within.0 in let b = within.1 in omega (arith, a, b)) in
        let s = of_stays of (new_number numbers of) some (same.each (of - 1) inside) in
        let f = first_fits (λ v. scaled_by T.kind None v) (terms_off T.kind earlier (get_or earlier (of - 1) []) ts) row h.concludes in
        record {
          of_named = named_is Inserts slim (length earlier' + 1) (unwrap_or (new_number numbers of) 0) s.from_one
              (let a = s.to_end in omega (arith, a)) (s.sorts Inserts (named_sort Inserts steps (length earlier + 1) of h.of_named));
          cites = cites_all (names_close slim (length earlier' + 1)) (length earlier' + 1) (slim_terms numbers ts)
              (cites_stay Closes ts (all_cited (names_close steps (length earlier + 1)) (length earlier + 1) ts h.cites));
          concludes = ap (λ v. and_then (λ w. scaled_by T.kind None w) (terms_off T.kind earlier' v (slim_terms numbers ts))) s.is
              ∙ ap (and_then (λ w. scaled_by T.kind None w))
              (off_same (get_or earlier (of - 1) []) f.0 ts (are (of - 1) [] inside)
              (terms_pass T.kind Closes steps (length earlier) ts factors h.cites) f.1.0) ∙ f.1.1;
        }

    -- the step that is kept stands where it should
    new_stays : (s : Step) (ss more : List Step) (row : List Num) → drop (length earlier) steps ≡ s ∷ ss →
        drop (length earlier') slim ≡ slim_step numbers s ∷ more → Stays steps slim (earlier' ++ row ∷ []) (length earlier) (length earlier' + 1) row
    new_stays s ss more row from from' =
        let here = is_there steps (length earlier) s s ss from in
        let there = is_there slim (length earlier') (slim_step numbers s) s more from' in
        let at : length earlier' ≡ length earlier' + 1 - 1 = omega arith in
        record {
          from_one = omega arith;
          to_end = (let k = length-append earlier' (row ∷ []) in omega (arith, k));
          is = get_or_push earlier' row [] (length earlier' + 1 - 1) at;
          sorts = λ sort e. ap (λ i. is_sort sort (slice_get slim i)) (sym at) ∙ ap (is_sort sort) there.found
              ∙ alike s sort (sym (ap (is_sort sort) here.found) ∙ e);
        }
      where
        alike : (s : Step) (sort : Cited) → is_sort sort (Some s) ≡ true → is_sort sort (Some (slim_step numbers s)) ≡ true
        alike (Insert o ts c) Inserts e = e
        alike (Insert o ts c) Closes e = e
        alike (Close of ts) Inserts e = e
        alike (Close of ts) Closes e = e

  -- what the steps that stay conclude
  pub record IsSlim (earlier' : List (List Num)) (ss' : List Step) (closes : List (List Num)) : Type 0 where
    pub rest : List (List Num)
    pub conclude : Concludes T p slim earlier' ss' rest
    pub closes_are : close_rows ss' rest ≡ closes

  kept_first : (earlier' : List (List Num)) (s : Step) (ss' : List Step) (row : List Num) (closes closes' : List (List Num)) →
      StepParts T p slim earlier' s row → (close_rows (s ∷ []) (row ∷ []) ++ closes ≡ closes') → IsSlim (earlier' ++ row ∷ []) ss' closes →
      IsSlim earlier' (s ∷ ss') closes'
  kept_first earlier' (Insert o ts c) ss' row closes closes' parts e h = record {
    rest = row ∷ h.rest;
    conclude = (parts, h.conclude);
    closes_are = h.closes_are ∙ e;
  }
  kept_first earlier' (Close of ts) ss' row closes closes' parts e h = record {
    rest = row ∷ h.rest;
    conclude = (parts, h.conclude);
    closes_are = ap (λ w. row ∷ w) h.closes_are ∙ e;
  }

  -- for whatever stands before
  Follows : List Step → Type 0
  Follows ss =
      (rest earlier earlier' : List (List Num)) (numbers : List (Option ℕ)) (count : ℕ) → length earlier' ≡ count →
      Concludes T p steps earlier ss rest → drop (length earlier) steps ≡ ss → drop count slim ≡ slim_steps numbers count ss →
      Same steps slim numbers earlier earlier' → AreInOrder numbers count ss → AreRows T.kind n earlier → All (HasNumbersOf T.kind) ss →
      IsSlim earlier' (slim_steps numbers count ss) (close_rows ss rest)

  insert_follows : (o : Origin) (ts : List Term) (c : Num) (ss : List Step) → Follows ss →
      (row : List Num) (rest earlier earlier' : List (List Num)) (numbers : List (Option ℕ)) (count : ℕ) → length earlier' ≡ count →
      InsertParts T p steps earlier o ts c row → Concludes T p steps (earlier ++ row ∷ []) ss rest → drop (length earlier) steps ≡ Insert o ts c ∷ ss →
      Same steps slim numbers earlier earlier' → AreRows T.kind n earlier → AreRows T.kind n (earlier ++ row ∷ []) →
      AreFactorsOf T.kind ts → All (HasNumbersOf T.kind) ss → (b : Bool) → is_nought c ≡ b →
      drop count slim ≡ kept_if b (slim_step numbers (Insert o ts c)) (slim_steps (numbers ++ (next_number b count) ∷ []) (next_count b count) ss) →
      AreInOrder (numbers ++ (next_number b count) ∷ []) (next_count b count) ss →
      IsSlim earlier' (kept_if b (slim_step numbers (Insert o ts c)) (slim_steps (numbers ++ (next_number b count) ∷ []) (next_count b count) ss))
      (close_rows ss rest)
  unfolding Follows Agrees
  insert_follows o ts c ss follows row rest earlier earlier' numbers count long parts h from same are more factors all true z from' order =
      let here = is_there steps (length earlier) (Insert o ts c) (Insert o ts c) ss from in
      follows rest (earlier ++ row ∷ []) earlier' (numbers ++ None ∷ []) count long h
      (ap (λ k. drop k steps) (length-append earlier (row ∷ [])) ∙ here.after) from'
      (same_more steps slim numbers earlier earlier' earlier' None row same (λ i o r a. a)
      (dependent_zero (length earlier + 1) c row parts.dependent z)) order more all
  insert_follows o ts c ss follows row rest earlier earlier' numbers count long parts h from same are more factors all false z from' order =
      let here = is_there steps (length earlier) (Insert o ts c) (Insert o ts c) ss from in
      let there = is_there slim count (slim_step numbers (Insert o ts c)) (Insert o ts c)
      (slim_steps (numbers ++ (Some (count + 1)) ∷ []) (count + 1) ss) from' in
      let one = insert_stays numbers earlier earlier' same are o ts c row z factors parts in
      kept_first earlier' (slim_step numbers (Insert o ts c)) (slim_steps (numbers ++ (Some (count + 1)) ∷ []) (count + 1) ss) row (close_rows ss rest)
      (close_rows ss rest) one refl
      (follows rest (earlier ++ row ∷ []) (earlier' ++ row ∷ []) (numbers ++ (Some (count + 1)) ∷ []) (count + 1)
      (length-append earlier' (row ∷ []) ∙ ap (λ k. k + 1) long) h
      (ap (λ k. drop k steps) (length-append earlier (row ∷ [])) ∙ here.after) there.after
      (same_more steps slim numbers earlier earlier' (earlier' ++ row ∷ []) (Some (count + 1)) row same (λ i o r a. agrees_more steps slim earlier' row i o r a)
      (subst (λ k. Stays steps slim (earlier' ++ row ∷ []) (length earlier) (k + 1) row) long
      (new_stays numbers earlier earlier' same are (Insert o ts c) ss (slim_steps (numbers ++ (Some (count + 1)) ∷ []) (count + 1) ss) row from
      (ap (λ k. drop k slim) long ∙ from')))) order more all)

  all_follow : (ss : List Step) → Follows ss
  unfolding Follows Agrees
  all_follow [] [] earlier earlier' numbers count long h from from' same order are all = record { rest = []; conclude = tt; closes_are = refl }
  all_follow [] (row ∷ rest) earlier earlier' numbers count long h from from' same order are all = absurd h
  all_follow (s ∷ ss) [] earlier earlier' numbers count long h from from' same order are all = absurd h
  all_follow ((Insert o ts c) ∷ ss) (row ∷ rest) earlier earlier' numbers count long h from from' same order are all =
      let here = all_head (HasNumbersOf T.kind) (Insert o ts c) ss all in
      insert_follows o ts c ss (all_follow ss) row rest earlier earlier' numbers count long h.0 h.1 from same are
      (rows_more T p listed n sources steps earlier (Insert o ts c) row are here h.0) here.0
      (all_tail (HasNumbersOf T.kind) (Insert o ts c) ss all) (is_nought c) refl from' order.1
  all_follow ((Close of ts) ∷ ss) (row ∷ rest) earlier earlier' numbers count long h from from' same order are all =
      let factors = all_head (HasNumbersOf T.kind) (Close of ts) ss all in
      let more = slim_steps (numbers ++ (Some (count + 1)) ∷ []) (count + 1) ss in
      let here = is_there steps (length earlier) (Close of ts) (Close of ts) ss from in
      let there = is_there slim count (slim_step numbers (Close of ts)) (Close of ts) more from' in
      let one = close_stays numbers earlier earlier' same are of ts row order.0.1 factors h.0 in
      kept_first earlier' (slim_step numbers (Close of ts)) more row (close_rows ss rest) (row ∷ close_rows ss rest) one refl
      (all_follow ss rest (earlier ++ row ∷ []) (earlier' ++ row ∷ []) (numbers ++ (Some (count + 1)) ∷ []) (count + 1)
      (length-append earlier' (row ∷ []) ∙ ap (λ k. k + 1) long) h.1
      (ap (λ k. drop k steps) (length-append earlier (row ∷ [])) ∙ here.after) there.after
      (same_more steps slim numbers earlier earlier' (earlier' ++ row ∷ []) (Some (count + 1)) row same (λ i o r a. agrees_more steps slim earlier' row i o r a)
      (subst (λ k. Stays steps slim (earlier' ++ row ∷ []) (length earlier) (k + 1) row) long
      (new_stays numbers earlier earlier' same are (Close of ts) ss more row from (ap (λ k. drop k slim) long ∙ from')))) order.1
      (rows_more T p listed n sources steps earlier (Close of ts) row are factors h.0) (all_tail (HasNumbersOf T.kind) (Close of ts) ss all))

module _ (T : PlainTable) (p : Presentation) (listed : IsField T.kind) (n : ℕ) (sources : HaveRows T p n) where
  pub slim_concludes : (steps : List Step) (rest : List (List Num)) → Concludes T p steps [] steps rest → AreInOrder [] 0 steps →
      All (HasNumbersOf T.kind) steps →
      IsSlim T p listed n sources steps (slim_steps [] 0 steps) [] (slim_steps [] 0 steps) (close_rows steps rest)
  unfolding Follows
  slim_concludes steps rest h order all =
      all_follow T p listed n sources steps (slim_steps [] 0 steps) steps rest [] [] [] 0 refl h refl refl
      (record { same_length = refl; each = λ i l. absurd (omega (arith, l)) }) order (λ i d l. absurd (omega (arith, l))) all
