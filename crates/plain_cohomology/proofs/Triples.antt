-- The row of a triple stands for the coboundary of the forms that are 1 at one pair.
use Rattle.std.specs.Prelude.{◌≡◌, ℕ, ◌+◌, ◌<◌, ◌≤◌, ◌⊎◌, List, length, nat_eq, Bool, true, false, cond, not, ◌&&◌, Ok}
use mathlib.Core.Logic.{inl, inr}
use mathlib.Core.Path.{sym, refl, ap, ap₂, ◌∙◌, fun_ext, subst}
use native.Mathlib.Omega.{arith}
use native.Mathlib.Decide.{dec_lt}
use Rattle.math_fields.specs.Field.{Field}
use Rattle.math_linear.specs.Vector.{Vector, vzero, vplus, scale, place, total}
use Rattle.math_linear.proofs.Numbers.{nought-plus, times-nought, nought-times, unit-times, minus-times, minus_minus, minus_squared}
use Rattle.math_linear.proofs.Vectors.{vplus-vzero, scale_scale, scale_comm, scale-vzero, total_same, total_scale}
use Rattle.math_linear.proofs.Places.{zero_at}
use Rattle.math_algebra.specs.Tree.{Parity, even, odd}
use Rattle.math_algebra.specs.Derives.{sign}
use Rattle.math_algebra.specs.Table.{IsOf, IsRegular, product}
use Rattle.math_algebra.specs.Symbols.{is_odd}
use Rattle.fpl_numbers.specs.declared.number.Num.{Num}
use Rattle.fpl_numbers.specs.Numbers.{IsField, IsElement, negative_of}
use Rattle.fpl_numbers.specs.Results.{and_then}
use Rattle.fpl_numbers.specs.Kinds.{field_of, number_of}
use Rattle.fpl_rows.specs.Meaning.{vector_in, IsRowOf}
use Rattle.fpl_rows.proofs.Fits.{ok_same, first_fits}
use Rattle.fpl_table.specs.Plain.{PlainTable, table_in, Pairing, nothing, plus, minus, exchanged, itself, entry_row, pairing}
use Rattle.fpl_table.specs.Sums.{add_each}
use Rattle.fpl_table.specs.Value.{zero_row}
use Rattle.fpl_rewrite.specs.Rows.{entry_by, entry_if}
use Rattle.fpl_rewrite.specs.Terms.{signed}
use Rattle.plain_sources.specs.Premises.{HasRows, HasWeights, IsRowIn}
use Rattle.plain_sources.proofs.Rows.{zero_row_reads, add_at_reads}
use Rattle.plain_sources.proofs.Walks.{Adds, walk_reads}
use Rattle.plain_sources.proofs.Pairs.{paired, weight, parity, IsPairOf, IsPaired, pairing_is, pairing_below, pairing_itself}
use Rattle.plain_sources.proofs.Products.{reads, units, Stands, same, product_within}
use Rattle.plain_sources.proofs.Forms.{HasWeight, places_of, minus_once}
use Rattle.math_structure.proofs.Centre.{total_at}
use Rattle.math_cohomology.specs.Forms.{apply, coboundary2}
use Rattle.math_cohomology.specs.Laws.{IsSorted}
use Rattle.math_cohomology.specs.Tuples.{if_odd, two_of, cocycle_row2}
use Rattle.math_cohomology.proofs.Vectors.{plus_at, scale_at, two_below, two_above, two_same}
use Rattle.plain_cohomology.specs.Plain.{pairs, add_pair, add_term, add_terms, differ, second_negated, third_negated, triple_row}
use Rattle.plain_cohomology.proofs.Tuples.{pairs_numbered, pair_place, triple_of}

module _ (T : PlainTable) (is_field : IsField T.kind) (w : ℕ) where
  abbrev K : Field
  K = field_of T.kind

  abbrev count : ℕ
  count = length (pairs T w)

  abbrev at_place : ℕ → ℕ → Vector K
  at_place i j = place K (pair_place T w i j)

  -- what a number at a and b adds
  pub form : ℕ → ℕ → Vector K
  form a b = paired K at_place (pairing T a b)

  place_inside : (i j a b : ℕ) → IsPairOf T i j a b → weight T i + weight T j ≡ w → pair_place T w a b < count
  place_inside i j a b p e = (pairs_numbered T w).below a b p.second p.regular (p.weights ∙ e)

  add_reads : (i j : ℕ) (q : Pairing) → IsPaired T i j q → weight T i + weight T j ≡ w → (c : Num) (v z : List Num) (u : Vector K) → IsElement T.kind c →
      Stands T is_field count u v → add_pair T (pairs T w) q c v ≡ Ok z →
      Stands T is_field count (vplus K u (scale K (number_of T.kind c) (paired K at_place q))) z
  add_reads i j nothing p e c v z u is k f =
      subst (Stands T is_field count _) (ok_same f) (same T is_field count u _ v (sym (ap (vplus K u) (scale-vzero K _) ∙ vplus-vzero K u)) k)
  add_reads i j (plus a b) p e c v z u is k f =
      add_at_reads T.kind K (number_of T.kind) (reads T is_field) (units T is_field) count u v z (pair_place T w a b) c k is (place_inside i j a b p e) f
  add_reads i j (minus a b) p e c v z u is k f =
      same T is_field count _ _ z (ap (vplus K u) (minus_once T is_field c (at_place a b) is))
      (add_at_reads T.kind K (number_of T.kind) (reads T is_field) (units T is_field) count u v z (pair_place T w a b) (negative_of T.kind c) k
      ((reads T is_field).negative c is).0 (place_inside i j a b p e) f)

  place_same_way : (a s : ℕ) → place K a s ≡ place K s a
  unfolding place
  place_same_way a s = ap (λ b. cond b K.unit K.nought) (turned a s)
    where
      turned : (a s : ℕ) → nat_eq a s ≡ nat_eq s a
      turned a s = grind arith

  abbrev one_at : ℕ → ℕ → ℕ → K.Carrier
  one_at s i j = two_of K (table_in T.kind T) w (pair_place T w) (place K s) i j

  -- the form that is 1 at pair s, at t and k
  form_is : (t k s : ℕ) → weight T t + weight T k ≡ w → form t k s ≡ one_at s t k
  unfolding form
  form_is t k s e = go (dec_lt t k) (dec_lt k t)
    where
      exchanged_at : (p q : Parity) (i j : ℕ) → paired K at_place (exchanged p q i j) s ≡ K.times (K.minus (sign K p q)) (place K s (pair_place T w i j))
      exchanged_at odd odd i j =
          place_same_way (pair_place T w i j) s ∙ sym (unit-times K (place K s (pair_place T w i j)))
          ∙ ap (λ a. K.times a (place K s (pair_place T w i j))) (sym (minus_minus K K.unit))
      exchanged_at odd even i j = scale_at K (K.minus K.unit) (at_place i j) s ∙ ap (K.times (K.minus K.unit)) (place_same_way (pair_place T w i j) s)
      exchanged_at even q i j = scale_at K (K.minus K.unit) (at_place i j) s ∙ ap (K.times (K.minus K.unit)) (place_same_way (pair_place T w i j) s)

      itself_at : (p : Parity) (i : ℕ) → paired K at_place (itself p i) s ≡ if_odd K p (place K s (pair_place T w i i))
      itself_at even i = zero_at K s
      itself_at odd i = place_same_way (pair_place T w i i) s

      above : (t k : ℕ) → k < t → pairing T t k ≡ exchanged (parity T t) (parity T k) k t
      above t k m = grind arith

      go : Dec (t < k) → Dec (k < t) → paired K at_place (pairing T t k) s ≡ one_at s t k
      go (yes l) d =
          ap (λ q. paired K at_place q s) (pairing_below T t k l) ∙ place_same_way _ s
          ∙ sym (two_below K (table_in T.kind T) w (pair_place T w) (place K s) t k e l)
      go (no l) (yes m) =
          ap (λ q. paired K at_place q s) (above t k m) ∙ exchanged_at (parity T t) (parity T k) k t
          ∙ sym (two_above K (table_in T.kind T) w (pair_place T w) (place K s) t k e m)
      go (no l) (no m) =
          let d : t ≡ k = omega arith in
          subst (λ k. paired K at_place (pairing T t k) s ≡ one_at s t k) d
          (ap (λ q. paired K at_place q s) (pairing_itself T t) ∙ itself_at (parity T t) t
          ∙ sym (two_same K (table_in T.kind T) w (pair_place T w) (place K s) t t (subst (λ k. weight T t + weight T k ≡ w) (sym d) e) refl))

  -- a sign gives elements, and the number times a
  pub record IsTimes (negated : Bool) (a : K.Carrier) : Type 0 where
    pub element : (c : Num) → IsElement T.kind c → IsElement T.kind (signed T negated c)
    pub number : (c : Num) → IsElement T.kind c → number_of T.kind (signed T negated c) ≡ K.times (number_of T.kind c) a

  by_plus : IsTimes false K.unit
  by_plus = record { element = λ c is. is; number = λ c is. sym (K.times-unit _) }

  by_minus : IsTimes true (K.minus K.unit)
  by_minus = record {
    element = λ c is. ((reads T is_field).negative c is).0;
    number = λ c is.
        ((reads T is_field).negative c is).1 ∙ sym (K.times_comm _ _ ∙ minus-times K K.unit _ ∙ ap K.minus (unit-times K _));
  }

  second_sign : (s t : Parity) → IsTimes (not (is_odd s && is_odd t)) (K.minus (sign K s t))
  second_sign even even = by_minus
  second_sign even odd = by_minus
  second_sign odd even = by_minus
  second_sign odd odd = subst (IsTimes false) (sym (minus_minus K K.unit)) by_plus

  third_sign : (s t u : Parity) → IsTimes (differ (is_odd s && is_odd t) (is_odd s && is_odd u)) (K.times (sign K s t) (sign K s u))
  third_sign even t u = subst (IsTimes false) (sym (K.times-unit _)) by_plus
  third_sign odd even even = subst (IsTimes false) (sym (K.times-unit _)) by_plus
  third_sign odd even odd = subst (IsTimes true) (sym (unit-times K _)) by_minus
  third_sign odd odd even = subst (IsTimes true) (sym (K.times-unit _)) by_minus
  third_sign odd odd odd = subst (IsTimes false) (sym (minus_squared K)) by_plus

  -- regular pairs are their own
  own_pairing : (i j : ℕ) → IsRegular (table_in T.kind T) i j → pairing T i j ≡ plus i j
  own_pairing i j (inl l) = pairing_below T i j l
  own_pairing i j (inr h) = subst (λ j. pairing T i j ≡ plus i j) h.0 (pairing_itself T i ∙ ap (λ s. itself s i) h.1)

  module _ (has : HasRows T) (weights : HasWeights T) where
    -- the entry of a regular pair within the table's weight
    pub entry_is : (i j : ℕ) → IsRegular (table_in T.kind T) i j → weight T i + weight T j ≤ T.weight →
        vector_in T.kind (entry_row T i j) ≡ product K (table_in T.kind T) i j
    entry_is i j r h =
        ap (paired K (λ a b. vector_in T.kind (entry_row T a b))) (sym (own_pairing i j r)) ∙ sym (product_within T is_field i j h)

    entry_if_is : (i j : ℕ) → IsRegular (table_in T.kind T) i j → entry_if T i j ≡ entry_row T i j
    entry_if_is i j r = ap (entry_by T) (own_pairing i j r)

    -- the terms of [b_i, b_j] beside b_k
    terms_read : (negated : Bool) (a : K.Carrier) → IsTimes negated a → (i j k : ℕ) → i < length T.basis → j < length T.basis → k < length T.basis →
        IsRegular (table_in T.kind T) i j → weight T i + weight T j ≤ T.weight → weight T i + weight T j + weight T k ≡ w → (v z : List Num) (u : Vector K) →
        Stands T is_field count u v → add_terms T (pairs T w) negated i j k v ≡ Ok z →
        Stands T is_field count
        (vplus K u (scale K a (total K (length T.basis) (λ t. scale K (product K (table_in T.kind T) i j t) (form t k))))) z
    unfolding form
    terms_read negated a times i j k l m o r h e v z u s is =
        let row : IsRowIn T (entry_row T i j) = has.entries i j l m r h in
        same T is_field count _ _ z
        (ap (vplus K u)
        (ap (λ x. total K (length T.basis) (λ t. scale K (x t) (scale K a (form t k)))) (entry_is i j r h)
        ∙ total_same K (length T.basis) _ _ (λ t. scale_comm K _ a (form t k)) ∙ total_scale K (length T.basis) a _))
        (walk_reads T.kind K (number_of T.kind) (reads T is_field) (units T is_field) (length T.basis) count (HasWeight T is_field (weight T i + weight T j))
        (add_term T (pairs T w) negated k) (λ t. scale K a (form t k)) adds (entry_row T i j) v z u row.elements row.short
        (places_of T is_field (weight T i + weight T j) (entry_row T i j) row.elements
        (subst (IsOf K (table_in T.kind T) (weight T i + weight T j)) (sym (entry_is i j r h)) (weights.products i j l m)))
        s (ap (λ x. add_each (add_term T (pairs T w) negated k) 0 x v) (sym (entry_if_is i j r)) ∙ is))
      where
        adds : Adds T.kind K (number_of T.kind) (reads T is_field) (units T is_field) count (HasWeight T is_field (weight T i + weight T j))
            (add_term T (pairs T w) negated k) (λ t. scale K a (form t k))
        adds t c v z u d el st g =
            same T is_field count (vplus K u (scale K (number_of T.kind (signed T negated c)) (form t k)))
            (vplus K u (scale K (number_of T.kind c) (scale K a (form t k)))) z
            (ap (vplus K u) (ap (λ n. scale K n (form t k)) (times.number c el) ∙ sym (scale_scale K (number_of T.kind c) a (form t k))))
            (add_reads t k (pairing T t k) (pairing_is T t k d.0 o) (let b = d.1 in omega arith) (signed T negated c) v z u (times.element c el) st g)

    weight_or : (i j t : ℕ) → i < length T.basis → j < length T.basis →
        (product K (table_in T.kind T) i j t ≡ K.nought) ⊎ (weight T t ≡ weight T i + weight T j)
    weight_or i j t l m = elim (weights.products i j l m t) [ inl e ↦ inl e | inr d ↦ inr d.1 ]

    -- the terms, as the value of the form that is 1 at pair s
    terms_are : (i j k s : ℕ) → i < length T.basis → j < length T.basis → weight T i + weight T j + weight T k ≡ w →
        apply K (table_in T.kind T) (λ t. one_at s t k) (product K (table_in T.kind T) i j)
        ≡ total K (length T.basis) (λ t. scale K (product K (table_in T.kind T) i j t) (form t k)) s
    unfolding apply
    terms_are i j k s l m e =
        total_at K (length T.basis) (λ t. scale K (product K (table_in T.kind T) i j t) (form t k)) (λ t. one_at s t k)
        (product K (table_in T.kind T) i j) s (λ t q. go t (weight_or i j t l m))
      where
        go : (t : ℕ) → (product K (table_in T.kind T) i j t ≡ K.nought) ⊎ (weight T t ≡ weight T i + weight T j) →
            K.times (one_at s t k) (product K (table_in T.kind T) i j t) ≡ scale K (product K (table_in T.kind T) i j t) (form t k) s
        go t (inl z) =
            ap (K.times (one_at s t k)) z ∙ times-nought K _
            ∙ sym (scale_at K _ (form t k) s ∙ ap (λ a. K.times a (form t k s)) z ∙ nought-times K _)
        go t (inr d) =
            K.times_comm _ _ ∙ ap (K.times (product K (table_in T.kind T) i j t)) (sym (form_is t k s (omega arith))) ∙ sym (scale_at K _ (form t k) s)

    pub triple_reads : w ≤ T.weight → (i j k : ℕ) → k < length T.basis → IsSorted K (table_in T.kind T) i j k → weight T i + weight T j + weight T k ≡ w →
        (z : List Num) → triple_row T w (triple_of T w i j k) ≡ Ok z →
        IsRowOf T.kind count z × (vector_in T.kind z ≡ cocycle_row2 K (table_in T.kind T) w (pair_place T w) i j k)
    unfolding coboundary2
    triple_reads low i j k o sorted e z is =
        let a = before i j sorted.0 in
        let b = before j k sorted.1 in
        let n3 : Bool = third_negated T (triple_of T w i j k) in
        let n2 : Bool = second_negated T (triple_of T w i j k) in
        let s3 = first_fits (λ v. add_terms T (pairs T w) n3 j k i v)
        (and_then (λ v. add_terms T (pairs T w) n2 i k j v) (add_terms T (pairs T w) false i j k (zero_row count))) z is in
        let s2 = first_fits (λ v. add_terms T (pairs T w) n2 i k j v) (add_terms T (pairs T w) false i j k (zero_row count)) s3.0 s3.1.0 in
        let r1 = terms_read false K.unit by_plus i j k (omega arith) (omega arith) o sorted.0 (omega arith) e (zero_row count) s2.0 (vzero K)
        (zero_row_reads T.kind K (number_of T.kind) (reads T is_field) (units T is_field) count) s2.1.0 in
        let r2 = terms_read n2 (K.minus (sign K (parity T j) (parity T k))) (second_sign (parity T j) (parity T k)) i k j (omega arith) o (omega arith)
        (ends i j k sorted) (omega arith) (omega arith) s2.0 s3.0 _ r1 s2.1.1 in
        let r3 = terms_read n3 (K.times (sign K (parity T i) (parity T j)) (sign K (parity T i) (parity T k)))
        (third_sign (parity T i) (parity T j) (parity T k)) j k i (omega arith) o (omega arith) sorted.1 (omega arith) (omega arith) s3.0 z _ r2 s3.1.1 in (
          record { elements = r3.elements; length_is = r3.long },
          r3.vector ∙ fun_ext (λ s.
              plus_at K _ _ s
              ∙ ap₂ K.plus
              (plus_at K _ _ s
              ∙ ap₂ K.plus
              (plus_at K _ _ s
              ∙ ap₂ K.plus (zero_at K s) (scale_at K _ _ s ∙ unit-times K _ ∙ sym (terms_are i j k s (omega arith) (omega arith) e)) ∙ nought-plus K _)
              (scale_at K _ _ s ∙ ap (K.times _) (sym (terms_are i k j s (omega arith) o (omega arith)))))
              (scale_at K _ _ s ∙ ap (K.times _) (sym (terms_are j k i s (omega arith) o (omega arith))))
              ∙ K.plus_assoc _ _ _),
        )
      where
        before : (i j : ℕ) → IsRegular (table_in T.kind T) i j → i ≤ j
        before i j (inl l) = omega arith
        before i j (inr h) = (let e = h.0 in omega arith)

        ends : (i j k : ℕ) → IsSorted K (table_in T.kind T) i j k → IsRegular (table_in T.kind T) i k
        ends i j k s = go s.0 s.1
          where
            go : IsRegular (table_in T.kind T) i j → IsRegular (table_in T.kind T) j k → IsRegular (table_in T.kind T) i k
            go (inl l) (inl m) = inl (omega arith)
            go (inl l) (inr h) = inl (let e = h.0 in omega arith)
            go (inr h) (inl m) = inl (let e = h.0 in omega arith)
            go (inr h) (inr h') = inr (h.0 ∙ h'.0, h.1)
