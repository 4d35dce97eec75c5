-- The plain rows of triples and cubes stand for their rows in the mathematics.
use Rattle.std.specs.Prelude.{◌≡◌, ℕ, suc, ◌+◌, ◌<◌, ◌≤◌, List, length, Result, Ok}
use mathlib.Core.Path.{sym, refl, ap, ap₂, ◌∙◌, subst, fun_ext}
use native.Mathlib.Omega.{arith}
use native.Mathlib.Decide.{dec_lt}
use Rattle.math_fields.specs.Field.{Field}
use Rattle.math_linear.specs.Vector.{Vector, vzero, vplus, scale, total}
use Rattle.math_linear.proofs.Vectors.{vplus_assoc, vzero-vplus, scale-vplus, scale_scale, scale_comm, total_same, total_scale}
use Rattle.math_linear.proofs.Numbers.{minus_minus, minus-times, unit-times}
use Rattle.fpl_numbers.specs.declared.number.Num.{Num}
use Rattle.fpl_numbers.specs.declared.number.Unfit.{Unfit}
use Rattle.fpl_numbers.specs.Numbers.{IsField, IsElement, negative_of}
use Rattle.fpl_numbers.specs.Results.{and_then}
use Rattle.fpl_numbers.specs.Kinds.{field_of, number_of}
use Rattle.fpl_rows.proofs.Fits.{first_fits}
use Rattle.math_algebra.specs.Tree.{Parity, even, odd}
use Rattle.math_algebra.specs.Derives.{sign}
use Rattle.math_algebra.specs.Table.{IsOf, product}
use Rattle.math_algebra.specs.SourceRows.{outer_place, jacobi_row, cube_row}
use Rattle.math_standard.proofs.Views.{jacobi_entries, cube_entries}
use Rattle.fpl_rows.specs.Meaning.{vector_in}
use Rattle.fpl_table.specs.Plain.{PlainTable, table_in, shell_in, Pairing, nothing, plus, minus, itself, pairing}
use Rattle.fpl_table.specs.Value.{zero_row}
use Rattle.fpl_table.specs.Sums.{add_each}
use Rattle.fpl_rewrite.specs.Rows.{add_signed, entry_by, entry_if, first_terms, second_terms, swapped, third_terms, jacobi_row_of, cube_row_of}
use Rattle.plain_sources.specs.Premises.{IsRowIn, HasRows, HasWeights}
use Rattle.plain_sources.proofs.Walks.{Adds, Places, walk_reads}
use Rattle.plain_sources.proofs.Pairs.{paired, weight, parity, pairing_below, pairing_itself, IsPaired, pairing_is}
use Rattle.plain_sources.proofs.Products.{reads, units, Stands, same, entry, pair_row, empty_row, product_within}
use Rattle.plain_sources.proofs.Forms.{pairs, m, HasWeight, minus_once, signed_reads, outer_is, places_of, zero_symbols}

module _ (T : PlainTable) (is_field : IsField T.kind) where
  abbrev F : Field
  F = field_of T.kind

  abbrev at : ℕ → ℕ → Vector F
  at i j = outer_place F (table_in T.kind T) (pairs T is_field) i j

  abbrev n : ℕ
  n = length T.basis

  abbrev IsPlus : Pairing → Type 0
  IsPlus nothing = Unit {0}
  IsPlus (plus i j) = Unit {0}
  IsPlus (minus i j) = ⊥

  itself_plus : (s : Parity) (i : ℕ) → IsPlus (itself s i)
  itself_plus even i = tt
  itself_plus odd i = tt

  ordered_plus : (i j : ℕ) → i ≤ j → IsPlus (pairing T i j)
  ordered_plus i j l = go (dec_lt i j)
    where
      go : Dec (i < j) → IsPlus (pairing T i j)
      go (yes k) = subst IsPlus (sym (pairing_below T i j k)) tt
      go (no k) = let e : i ≡ j = omega arith in subst (λ j. IsPlus (pairing T i j)) e (subst IsPlus (sym (pairing_itself T i)) (itself_plus (parity T i) i))

  plus_entry : (pr : Pairing) → IsPlus pr → vector_in T.kind (entry_by T pr) ≡ paired F (entry T is_field) pr
  unfolding vzero
  plus_entry nothing h = fun_ext (λ s. refl)
  plus_entry (plus i j) h = refl
  plus_entry (minus i j) h = absurd h

  -- the entry of an ordered pair within the table's weight
  entry_is : (i j : ℕ) → i ≤ j → weight T i + weight T j ≤ T.weight → vector_in T.kind (entry_if T i j) ≡ product F (table_in T.kind T) i j
  entry_is i j l h = plus_entry (pairing T i j) (ordered_plus i j l) ∙ sym (product_within T is_field i j h)

  entry_row_in : HasRows T → (i j : ℕ) (pr : Pairing) → IsPaired T i j pr → weight T i + weight T j ≤ T.weight → IsRowIn T (entry_by T pr)
  entry_row_in rows i j nothing p h = empty_row T
  entry_row_in rows i j (plus a b) p h = pair_row T rows i j a b p h
  entry_row_in rows i j (minus a b) p h = empty_row T

  -- one place of an entry, in each of the three terms
  at_reads : (i j : ℕ) → i < n → j < n → weight T i + weight T j ≡ suc T.weight → (c : Num) (v z : List Num) (w : Vector F) → IsElement T.kind c →
      Stands T is_field (m T is_field) w v →
      add_signed T (pairing T i j) c v ≡ Ok z → Stands T is_field (m T is_field) (vplus F w (scale F (number_of T.kind c) (at i j))) z
  at_reads i j l k h c v z w is s e =
      same T is_field (m T is_field) _ _ z (ap (λ f. vplus F w (scale F (number_of T.kind c) f)) (outer_is T is_field i j h))
      (signed_reads T is_field i j (pairing T i j) (pairing_is T i j l k) h c v z w is s e)

  first_adds : (i b : ℕ) → i < n → weight T i + b ≡ suc T.weight → Adds T.kind F (number_of T.kind) (reads T is_field) (units T is_field)
      (m T is_field) (HasWeight T is_field b) (first_terms T i) (at i)
  first_adds i b l h t c v z w s is k e = at_reads i t l s.0 (let d = s.1 in omega arith) c v z w is k e

  second_adds : (k b : ℕ) → k < n → b + weight T k ≡ suc T.weight →
      Adds T.kind F (number_of T.kind) (reads T is_field) (units T is_field) (m T is_field) (HasWeight T is_field b) (second_terms T k)
      (λ t. scale F (F.minus F.unit) (at t k))
  second_adds k b l h t c v z w s is q e =
      same T is_field (m T is_field) _ _ z (ap (vplus F w) (minus_once T is_field c (at t k) is))
      (at_reads t k s.0 l (let d = s.1 in omega arith) (negative_of T.kind c) v z w ((reads T is_field).negative c is).0 q e)

  swapped_is : (s t : Parity) (c : Num) → IsElement T.kind c → IsElement T.kind (swapped T s t c) ×
      (number_of T.kind (swapped T s t c) ≡ F.times (number_of T.kind c) (F.minus (sign F s t)))
  swapped_is odd odd c is = (is, sym (ap (F.times (number_of T.kind c)) (minus_minus F F.unit) ∙ F.times-unit _))
  swapped_is odd even c is = let r = (reads T is_field).negative c is in
      (r.0, r.1 ∙ sym (F.times_comm _ _ ∙ minus-times F F.unit _ ∙ ap F.minus (unit-times F _)))
  swapped_is even t c is = let r = (reads T is_field).negative c is in
      (r.0, r.1 ∙ sym (F.times_comm _ _ ∙ minus-times F F.unit _ ∙ ap F.minus (unit-times F _)))

  abbrev turn : ℕ → ℕ → F.Carrier
  turn i j = F.minus (sign F (parity T i) (parity T j))

  third_adds : (i j b : ℕ) → j < n → weight T j + b ≡ suc T.weight →
      Adds T.kind F (number_of T.kind) (reads T is_field) (units T is_field) (m T is_field) (HasWeight T is_field b) (third_terms T i j)
      (λ t. scale F (turn i j) (at j t))
  third_adds i j b l h t c v z w s is q e =
      let r = swapped_is (parity T i) (parity T j) c is in
      same T is_field (m T is_field) _ _ z (ap (vplus F w) (ap (λ a. scale F a (at j t)) r.1 ∙ sym (scale_scale F _ _ (at j t))))
      (at_reads j t l s.0 (let d = s.1 in omega arith) (swapped T (parity T i) (parity T j) c) v z w r.0 q e)

  -- the sum of the three terms
  gathered : (a b c : Vector F) (s : F.Carrier) →
      vplus F (vplus F (vplus F (vzero F) a) (scale F (F.minus F.unit) b)) (scale F (F.minus s) c) ≡
      vplus F a (scale F (F.minus F.unit) (vplus F b (scale F s c)))
  gathered a b c s =
      ap₂ (vplus F) (ap (λ u. vplus F u (scale F (F.minus F.unit) b)) (vzero-vplus F a)) (ap (λ u. scale F u c)
      (sym (minus-times F F.unit s ∙ ap F.minus (unit-times F s))) ∙ sym (scale_scale F _ _ c))
      ∙ vplus_assoc F _ _ _ ∙ ap (vplus F a) (sym (scale-vplus F _ b (scale F s c)))

  module _ (rows : HasRows T) (weights : HasWeights T) where
    entry_in : (i j : ℕ) → i ≤ j → j < n → weight T i + weight T j ≤ T.weight → IsRowIn T (entry_if T i j)
    entry_in i j l k h = entry_row_in rows i j (pairing T i j) (pairing_is T i j (omega arith) k) h

    entry_places : (i j : ℕ) → i ≤ j → j < n → weight T i + weight T j ≤ T.weight → Places (HasWeight T is_field (weight T i + weight T j)) 0 (entry_if T i j)
    entry_places i j l k h =
        places_of T is_field (weight T i + weight T j) (entry_if T i j) (entry_in i j l k h).elements
        (subst (IsOf F (table_in T.kind T) (weight T i + weight T j)) (sym (entry_is i j l h)) (weights.products i j (omega arith) k))

    -- a walk over the entry of an ordered pair adds the sum over its product
    entry_walk : (i j : ℕ) → i ≤ j → j < n → weight T i + weight T j ≤ T.weight → (step : ℕ → Num → List Num → Result (List Num) Unfit) (form : ℕ → Vector F) →
        Adds T.kind F (number_of T.kind) (reads T is_field) (units T is_field) (m T is_field)
        (HasWeight T is_field (weight T i + weight T j)) step form → (v z : List Num) (w : Vector F) →
        Stands T is_field (m T is_field) w v → add_each step 0 (entry_if T i j) v ≡ Ok z →
        Stands T is_field (m T is_field) (vplus F w (total F n (λ t. scale F (product F (table_in T.kind T) i j t) (form t)))) z
    entry_walk i j l k h step form adds v z w s e =
        let r = entry_in i j l k h in
        same T is_field (m T is_field) _ _ z (ap (λ u. vplus F w (total F n (λ t. scale F (u t) (form t)))) (entry_is i j l h))
        (walk_reads T.kind F (number_of T.kind) (reads T is_field) (units T is_field) n (m T is_field)
        (HasWeight T is_field (weight T i + weight T j)) step form adds
        (entry_if T i j) v z w r.elements r.short (entry_places i j l k h) s e)

    scaled_total : (a : F.Carrier) (f : ℕ → F.Carrier) (g : ℕ → Vector F) → total F n (λ t. scale F (f t) (scale F a (g t))) ≡
        scale F a (total F n (λ t. scale F (f t) (g t)))
    scaled_total a f g = total_same F n _ _ (λ t. scale_comm F (f t) a (g t)) ∙ total_scale F n a (λ t. scale F (f t) (g t))

    -- the row of a triple
    pub jacobi_reads : (i j k : ℕ) → i ≤ j → j ≤ k → k < n → weight T i + weight T j + weight T k ≡ suc T.weight → (v : List Num) →
        jacobi_row_of T i j k ≡ Ok v →
        Stands T is_field (m T is_field) (jacobi_row F (table_in T.kind T) (pairs T is_field) i j k) v
    jacobi_reads i j k l l' q h v e =
        let y = first_fits (λ w. add_each (third_terms T i j) 0 (entry_if T i k) w) (and_then (λ w. add_each (second_terms T k) 0 (entry_if T i j) w)
        (add_each (first_terms T i) 0 (entry_if T j k) (zero_row (m T is_field)))) v e in
        let x = first_fits (λ w. add_each (second_terms T k) 0 (entry_if T i j) w) (add_each (first_terms T i) 0 (entry_if T j k)
        (zero_row (m T is_field))) y.0 y.1.0 in
        let pi = weights.positive i (omega arith) in
        let pj = weights.positive j (omega arith) in
        let pk = weights.positive k q in
        let first = entry_walk j k l' q (omega arith) (first_terms T i) (at i) (first_adds i (weight T j + weight T k) (omega arith) (omega arith))
        (zero_row (m T is_field)) x.0 (vzero F) (zero_symbols T is_field) x.1.0 in
        let second = entry_walk i j l (omega arith) (omega arith) (second_terms T k) (λ t. scale F (F.minus F.unit) (at t k))
        (second_adds k (weight T i + weight T j) q (omega arith)) x.0 y.0 _ first x.1.1 in
        let third = entry_walk i k (omega arith) q (omega arith) (third_terms T i j) (λ t. scale F (turn i j) (at j t))
        (third_adds i j (weight T i + weight T k) (omega arith) (omega arith)) y.0 v _ second y.1.1 in
        same T is_field (m T is_field) _ _ v
        (ap₂ (λ b c. vplus F (vplus F (vplus F (vzero F) (total F n (λ t. scale F (product F (table_in T.kind T) j k t) (at i t)))) b) c)
        (scaled_total (F.minus F.unit) (product F (table_in T.kind T) i j) (λ t. at t k)) (scaled_total (turn i j) (product F (table_in T.kind T) i k) (at j))
        ∙ gathered _ _ _ _ ∙ sym (jacobi_entries F (shell_in T.kind T) (table_in T.kind T) i j k (omega arith) (omega arith) q))
        third

    -- the row of a cube
    pub cube_reads : (i : ℕ) → i < n → weight T i + weight T i + weight T i ≡ suc T.weight → (v : List Num) → cube_row_of T i ≡ Ok v →
        Stands T is_field (m T is_field) (cube_row F (shell_in T.kind T) (table_in T.kind T) i) v
    cube_reads i l h v e =
        let p = weights.positive i l in
        same T is_field (m T is_field) _ _ v (vzero-vplus F _ ∙ sym (cube_entries F (shell_in T.kind T) (table_in T.kind T) i l))
        (entry_walk i i (omega arith) l (omega arith) (first_terms T i) (at i) (first_adds i (weight T i + weight T i) l (omega arith))
        (zero_row (m T is_field)) v (vzero F) (zero_symbols T is_field) e)
