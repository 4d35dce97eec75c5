-- The row of a symbol over the new basis stands for what the symbol means by the closed rows.
use Rattle.std.specs.Prelude.{ℕ, ◌≡◌, ◌≢◌, ◌<◌, ◌≤◌, ◌+◌, ◌-◌, List, [], ◌++◌, length, get_or, cond, nat_eq, Option, Some, None}
use mathlib.Core.Path.{sym, refl, ap, ap₂, ◌∙◌, fun_ext, subst}
use native.Mathlib.Omega.{arith}
use native.Mathlib.Decide.{ℕ_discrete, dec_lt}
use Rattle.std.proofs.lemmas.List.{length-append, length-replicate, get_or_append_left, get_or-append-add, get_or-replicate}
use Rattle.math_fields.specs.Field.{Field}
use Rattle.math_linear.specs.Vector.{vplus, scale, place}
use Rattle.math_linear.specs.Closed.{swept}
use Rattle.math_linear.proofs.Numbers.{minus-times, unit-times, nought-plus}
use Rattle.math_linear.proofs.Vectors.{place_same, place_other}
use Rattle.fpl_numbers.specs.declared.number.Num.{Num}
use Rattle.fpl_numbers.specs.declared.number.Kind.{Kind}
use Rattle.fpl_numbers.specs.Numbers.{residue, negative_of}
use Rattle.fpl_numbers.specs.Kinds.{field_of, number_of}
use Rattle.fpl_numbers.specs.Reads.{Reads}
use Rattle.fpl_scalar.specs.Vectors.{AreElements}
use Rattle.fpl_rows.specs.Meaning.{vector_in, row_in, pivot_in, IsClosedList}
use Rattle.fpl_rows.proofs.Readings.{at_place, vector_past}
use Rattle.math_algebra.specs.Built.{slot_of, at_slot, relabel, meaning_of}
use Rattle.math_standard.proofs.NewPlaces.{slot_new}
use Rattle.math_standard.proofs.NextTables.{get_or_map}
use Rattle.math_standard.proofs.Sweeps.{swept_free, swept_pivot}
use Rattle.fpl_table.specs.Value.{zero_row}
use Rattle.fpl_table.specs.Push.{row_with_lead, unit_row, solved}
use Rattle.fpl_table.proofs.Leads.{length-solved}
use Rattle.plain_tables.proofs.Leads.{row_found, row_missing}

module _ (k : Kind) (reads : Reads k (field_of k) (number_of k)) (nought_is : number_of k (residue 0) ≡ (field_of k).nought)
    (unit_is : number_of k (residue 1) ≡ (field_of k).unit)
    (m : ℕ) (rows : List (List Num)) (closed : IsClosedList k m rows) where
  abbrev K : Field
  K = field_of k

  abbrev n : ℕ
  n = length rows

  row_elements : (i : ℕ) → i < n → AreElements k (get_or rows i [])
  row_elements i l = (closed.are_rows i [] l).elements

  row_long : (i : ℕ) → i < n → length (get_or rows i []) ≡ m
  row_long i l = (closed.are_rows i [] l).length_is

  module _ (free : List ℕ) (s : ℕ) where
    number_at : Option (List Num) → ℕ → K.Carrier
    number_at o j = number_of k (get_or (solved k free s o) j (residue 0))

    unit_at : (j : ℕ) → j < length free → number_of k (get_or (unit_row free s) j (residue 0)) ≡ place K s (get_or free j 0)
    unit_at j l = ap (number_of k) (get_or_map (λ t. cond (nat_eq t s) (residue 1) (residue 0)) free j 0 (residue 0) l) ∙
        go (get_or free j 0) (ℕ_discrete (get_or free j 0) s)
      where
        go : (f : ℕ) → Dec (f ≡ s) → number_of k (cond (nat_eq f s) (residue 1) (residue 0)) ≡ place K s f
        go f (yes e) = ap (number_of k) (let q : cond (nat_eq f s) (residue 1) (residue 0) ≡ residue 1 = grind arith in q) ∙ unit_is ∙
            sym (place_same K s) ∙ ap (place K s) (sym e)
        go f (no d) = ap (number_of k) (let q : cond (nat_eq f s) (residue 1) (residue 0) ≡ residue 0 = grind arith in q) ∙ nought_is ∙
            sym (place_other K s f (λ e. d (sym e)))

    rest_at : (r : List Num) (j : ℕ) → j < length free → get_or free j 0 < length r → AreElements k r →
        number_of k (get_or (solved k free s (Some r)) j (residue 0)) ≡ K.minus (vector_in k r (get_or free j 0))
    rest_at r j l h e =
        ap (number_of k) (get_or_map (λ t. negative_of k (get_or r t (residue 0))) free j 0 (residue 0) l)
        ∙ (reads.negative _ (e (get_or free j 0) (residue 0) h)).1 ∙ ap K.minus (sym (at_place k K (number_of k) reads r (get_or free j 0) (residue 0) h))

    -- what is left of the symbol at a place that is no pivot
    pub solved_is : (j : ℕ) → j < length free → get_or free j 0 < m → ((i : ℕ) → i < n → pivot_in rows i ≢ get_or free j 0) →
        number_of k (get_or (solved k free s (row_with_lead rows s)) j (residue 0)) ≡ swept K n (row_in k rows) (pivot_in rows) (place K s) (get_or free j 0)
    solved_is j l h apart = go (row_with_lead rows s) refl
      where
        f : ℕ
        f = get_or free j 0

        less : (i : ℕ) → i < n → pivot_in rows i ≡ s → K.minus (row_in k rows i f) ≡ swept K n (row_in k rows) (pivot_in rows) (place K s) f
        less i o e =
            sym
            (ap (λ w. swept K n (row_in k rows) (pivot_in rows) (place K w) f) (sym e) ∙ ap (λ v. v f)
            (swept_pivot K n (row_in k rows) (pivot_in rows) closed.closed i o)
            ∙ unfold vplus scale in
            (ap (λ w. K.plus w (K.times (K.minus K.unit) (row_in k rows i f))) (place_other K (pivot_in rows i) f (apart i o)) ∙ nought-plus K _ ∙
            minus-times K K.unit _ ∙ ap K.minus (unit-times K _)))

        go : (o : Option (List Num)) → row_with_lead rows s ≡ o → number_of k (get_or (solved k free s o) j (residue 0)) ≡
            swept K n (row_in k rows) (pivot_in rows) (place K s) f
        go None e = unit_at j l ∙ ap (λ v. v f) (sym (swept_free K n (row_in k rows) (pivot_in rows) s (row_missing rows s e)))
        go (Some r) e =
            let q = row_found rows s r e in
            ap (λ w. number_of k (get_or (solved k free s (Some w)) j (residue 0))) (sym q.2)
            ∙ rest_at (get_or rows q.0 []) j l (omega (arith, h, row_long q.0 q.1)) (row_elements q.0 q.1) ∙ less q.0 q.1 q.3

  -- the row over the old basis elements, where it is 0, and the new ones
  pub symbol_is : (old : ℕ) (free : List ℕ) (s : ℕ) →
      ((j : ℕ) → j < length free → (get_or free j 0 < m) × ((i : ℕ) → i < n → pivot_in rows i ≢ get_or free j 0)) →
      vector_in k (zero_row old ++ solved k free s (row_with_lead rows s)) ≡ meaning_of K (slot_of old (length free) (λ i. get_or free i 0)) n
      (row_in k rows) (pivot_in rows) (place K s)
  unfolding meaning_of relabel
  symbol_is old free s are = fun_ext (λ t. go t (dec_lt t old) (dec_lt t (old + length free)))
    where
      new_long : length (solved k free s (row_with_lead rows s)) ≡ length free
      new_long = length-solved k free s (row_with_lead rows s)

      zeros : length (zero_row old) ≡ old
      zeros = length-replicate old (residue 0)

      long : length (zero_row old ++ solved k free s (row_with_lead rows s)) ≡ old + length free
      long = length-append (zero_row old) (solved k free s (row_with_lead rows s)) ∙ ap₂ (λ a b. a + b) zeros new_long

      slot_none : (t : ℕ) → t < old → slot_of old (length free) (λ i. get_or free i 0) t ≡ None
      slot_none t l = grind arith

      slot_past : (t : ℕ) → old + length free ≤ t → slot_of old (length free) (λ i. get_or free i 0) t ≡ None
      slot_past t l = grind arith

      at_new : (j : ℕ) → j < length free → vector_in k (zero_row old ++ solved k free s (row_with_lead rows s)) (old + j) ≡
          at_slot K (swept K n (row_in k rows) (pivot_in rows) (place K s)) (slot_of old (length free) (λ i. get_or free i 0) (old + j))
      at_new j l =
          at_place k K (number_of k) reads (zero_row old ++ solved k free s (row_with_lead rows s)) (old + j) (residue 0) (omega (arith, long, l))
          ∙ ap (number_of k)
          (ap (λ w. get_or (zero_row old ++ solved k free s (row_with_lead rows s)) (w + j) (residue 0)) (sym zeros) ∙
          get_or-append-add (zero_row old) (solved k free s (row_with_lead rows s)) j (residue 0))
          ∙ solved_is free s j l (are j l).0 (are j l).1
          ∙ ap (at_slot K (swept K n (row_in k rows) (pivot_in rows) (place K s))) (sym (slot_new old (length free) (λ i. get_or free i 0) j l))

      go : (t : ℕ) → Dec (t < old) → Dec (t < old + length free) → vector_in k (zero_row old ++ solved k free s (row_with_lead rows s)) t ≡
          at_slot K (swept K n (row_in k rows) (pivot_in rows) (place K s)) (slot_of old (length free) (λ i. get_or free i 0) t)
      go t (yes l) d =
          at_place k K (number_of k) reads (zero_row old ++ solved k free s (row_with_lead rows s)) t (residue 0) (omega (arith, long, l))
          ∙ ap (number_of k) (get_or_append_left (zero_row old) (solved k free s (row_with_lead rows s)) (residue 0) t (omega (arith, l, zeros)) ∙
          get_or-replicate old t (residue 0) (residue 0) l) ∙ nought_is
          ∙ ap (at_slot K (swept K n (row_in k rows) (pivot_in rows) (place K s))) (sym (slot_none t l))
      go t (no l) (no d) =
          vector_past K (number_of k) (zero_row old ++ solved k free s (row_with_lead rows s)) t (omega (arith, long, d)) ∙
          ap (at_slot K (swept K n (row_in k rows) (pivot_in rows) (place K s))) (sym (slot_past t (omega arith)))
      go t (no l) (yes d) =
          let e : old + (t - old) ≡ t = omega arith in
          subst (λ w. vector_in k (zero_row old ++ solved k free s (row_with_lead rows s)) w ≡
          at_slot K (swept K n (row_in k rows) (pivot_in rows) (place K s)) (slot_of old (length free) (λ i. get_or free i 0) w)) e
          (at_new (t - old) (omega (arith, l, d)))
