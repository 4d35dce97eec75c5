-- The plain run of the centre gives its closed form.
use Rattle.std.specs.Prelude.{◌≡◌, ℕ, zero, suc, ◌+◌, ◌<◌, ◌≤◌, List, [], ◌∷◌, length, get_or, Option, Some, None, Result, Ok, true, false, cond, is_some, nat_le}
use mathlib.Core.Logic.{inl}
use mathlib.Core.Path.{sym, refl, ap, ◌∙◌, fun_ext, subst}
use native.Mathlib.Omega.{arith}
use native.Mathlib.Decide.{dec_lt, dec_le}
use Rattle.math_linear.specs.Vector.{Vector, scale}
use Rattle.math_linear.specs.Span.{Spanned}
use Rattle.math_linear.specs.Span.Spanned.{span_kind, span_none}
use Rattle.math_linear.proofs.Kernel.{same_solutions}
use Rattle.math_linear.proofs.Numbers.{unit-times, minus-times, minus-nought}
use Rattle.math_linear.proofs.Places.{zero_at}
use Rattle.fpl_numbers.specs.declared.number.Num.{Num}
use Rattle.fpl_numbers.specs.declared.number.Unfit.{Unfit}
use Rattle.fpl_numbers.specs.Numbers.{IsField, IsElement, residue}
use Rattle.fpl_numbers.specs.Kinds.{field_of, number_of}
use Rattle.fpl_numbers.proofs.KindReads.{kind_reads}
use Rattle.fpl_rows.specs.Meaning.{vector_in, IsRowOf}
use Rattle.fpl_rows.specs.Positions.{lead_of}
use Rattle.fpl_rows.proofs.Fits.{ok_same}
use Rattle.fpl_rows.proofs.Ones.{one_element}
use Rattle.fpl_rows.proofs.Noughts.{nought_element}
use Rattle.fpl_rows.proofs.Readings.{all_nought}
use Rattle.math_algebra.specs.Table.{product}
use Rattle.math_values.proofs.Parts.{product_past}
use Rattle.fpl_model.specs.declared.presentation.Presentation.{Presentation}
use Rattle.fpl_table.specs.Plain.{PlainTable, entry_row, table_in, Pairing, nothing, plus, minus, pairing}
use Rattle.plain_sources.specs.Premises.{HasRows}
use Rattle.plain_sources.proofs.Pairs.{paired, weight, IsPairOf, IsPaired, pairing_is}
use Rattle.plain_sources.proofs.Products.{pair_row, product_within}
use Rattle.math_structure.specs.Structure.{IsCentral}
use Rattle.math_structure.specs.Laws.{centre_row as centre_vector}
use Rattle.plain_spans.specs.Means.{IsFormed, AreFormed}
use Rattle.plain_spans.proofs.Among.{Among, formed_is, is_formed, are_formed, among_joined, joined_among}
use Rattle.plain_spans.proofs.Kernels.{numbers_vector, numbers_past, numbers_row, kernel_means}
use Rattle.math_linear.specs.Lists.{joined}
use Rattle.plain_structure.specs.Plain.{Rows, size, acts, entry_number, number_in, bracket_number, centre_row, if_any, centre_rows_at, centre_rows, centre_of}
use Rattle.plain_structure.specs.Means.{AreRowsOf, CentreMeans}
use Rattle.plain_structure.proofs.BracketRows.{any_is, among_acting, acting_among}
use Rattle.plain_sources.proofs.Laws.{rows_of_shape}
use Rattle.plain_structure.proofs.Acting.{IsActingRow, IsEnough, is_enough}
use Rattle.plain_structure.proofs.Held.{held_field}

module _ (T : PlainTable) (listed : IsField T.kind) (has : HasRows T) where
  nought_is : IsElement T.kind (residue 0)
  nought_is = nought_element T.kind (residue 1) (one_element T.kind listed)

  nought_value : number_of T.kind (residue 0) ≡ (field_of T.kind).nought
  nought_value = (kind_reads T.kind listed).zero_is (residue 0) nought_is refl

  -- a number of a row, and 0 past it
  number_element : (row : List Num) (t : ℕ) → ((s : ℕ) (d : Num) → s < length row → IsElement T.kind (get_or row s d)) →
      IsElement T.kind (get_or row t (residue 0))
  number_element [] t h = nought_is
  number_element (x ∷ xs) zero h = h 0 x (omega arith)
  number_element (x ∷ xs) (suc t) h = number_element xs t (λ s d l. h (suc s) d (omega arith))

  number_value : (row : List Num) (t : ℕ) → number_of T.kind (get_or row t (residue 0)) ≡ vector_in T.kind row t
  number_value [] t = nought_value
  number_value (x ∷ xs) zero = refl
  number_value (x ∷ xs) (suc t) = number_value xs t

  entry_within : (a b t : ℕ) → weight T a + weight T b ≤ T.weight → entry_number T a b t ≡ get_or (entry_row T a b) t (residue 0)
  entry_within a b t h = (let e : nat_le (weight T a + weight T b) T.weight ≡ true = grind arith in rw e refl)

  entry_past : (a b t : ℕ) → T.weight < weight T a + weight T b → entry_number T a b t ≡ residue 0
  entry_past a b t h = (let e : nat_le (weight T a + weight T b) T.weight ≡ false = grind arith in rw e refl)

  module _ (i j t : ℕ) where
    entry_element : (a b : ℕ) → IsPairOf T i j a b → Dec (weight T i + weight T j ≤ T.weight) → IsElement T.kind (entry_number T a b t)
    entry_element a b p (yes h) =
        subst (IsElement T.kind) (sym (entry_within a b t (let w = p.weights in omega arith)))
        (number_element (entry_row T a b) t (λ s d l. (pair_row T has i j a b p h).elements s d l))
    entry_element a b p (no h) = subst (IsElement T.kind) (sym (entry_past a b t (let w = p.weights in omega arith))) nought_is

    in_element : (pr : Pairing) → IsPaired T i j pr → IsElement T.kind (number_in T pr t)
    in_element nothing p = nought_is
    in_element (plus a b) p = entry_element a b p (dec_le (weight T i + weight T j) T.weight)
    in_element (minus a b) p = ((kind_reads T.kind listed).negative (entry_number T a b t) (entry_element a b p (dec_le (weight T i + weight T j) T.weight))).0

    abbrev entry : ℕ → ℕ → Vector (field_of T.kind)
    entry a b = vector_in T.kind (entry_row T a b)

    minus_at : (v : Vector (field_of T.kind)) → scale (field_of T.kind) ((field_of T.kind).minus (field_of T.kind).unit) v t ≡ (field_of T.kind).minus (v t)
    unfolding scale
    minus_at v = minus-times (field_of T.kind) (field_of T.kind).unit (v t) ∙ ap (field_of T.kind).minus (unit-times (field_of T.kind) (v t))

    within_value : (pr : Pairing) → IsPaired T i j pr → weight T i + weight T j ≤ T.weight →
        number_of T.kind (number_in T pr t) ≡ paired (field_of T.kind) entry pr t
    within_value nothing p h = nought_value ∙ sym (zero_at (field_of T.kind) t)
    within_value (plus a b) p h = ap (number_of T.kind) (entry_within a b t (let w = p.weights in omega arith)) ∙ number_value (entry_row T a b) t
    within_value (minus a b) p h =
        ((kind_reads T.kind listed).negative (entry_number T a b t) (entry_element a b p (yes h))).1
        ∙ ap (field_of T.kind).minus (ap (number_of T.kind) (entry_within a b t (let w = p.weights in omega arith)) ∙
        number_value (entry_row T a b) t) ∙ sym (minus_at (entry a b))

    past_value : (pr : Pairing) → IsPaired T i j pr → T.weight < weight T i + weight T j → number_of T.kind (number_in T pr t) ≡ (field_of T.kind).nought
    past_value nothing p h = nought_value
    past_value (plus a b) p h = ap (number_of T.kind) (entry_past a b t (let w = p.weights in omega arith)) ∙ nought_value
    past_value (minus a b) p h =
        ((kind_reads T.kind listed).negative (entry_number T a b t) (entry_element a b p (no (λ l. (let k = l in omega arith))))).1
        ∙ ap (field_of T.kind).minus (ap (number_of T.kind) (entry_past a b t (let w = p.weights in omega arith)) ∙ nought_value) ∙
        minus-nought (field_of T.kind)

    pub bracket_value : i < size T → j < size T → number_of T.kind (bracket_number T i j t) ≡ product (field_of T.kind) (table_in T.kind T) i j t
    bracket_value l m = go (dec_le (weight T i + weight T j) T.weight)
      where
        go : Dec (weight T i + weight T j ≤ T.weight) → number_of T.kind (bracket_number T i j t) ≡ product (field_of T.kind) (table_in T.kind T) i j t
        go (yes h) = within_value (pairing T i j) (pairing_is T i j l m) h ∙ ap (λ v. v t) (sym (product_within T listed i j h))
        go (no h) = past_value (pairing T i j) (pairing_is T i j l m) (omega arith) ∙ sym (zero_at (field_of T.kind) t) ∙
            ap (λ v. v t) (sym (product_past (field_of T.kind) (table_in T.kind T) i j (omega arith)))

    pub bracket_element : i < size T → j < size T → IsElement T.kind (bracket_number T i j t)
    bracket_element l m = in_element (pairing T i j) (pairing_is T i j l m)

  row_is_row : (j t : ℕ) → j < size T → IsRowOf T.kind (size T) (centre_row T j t)
  row_is_row j t m = numbers_row T.kind (size T) (λ i. bracket_number T i j t) (λ i l. bracket_element i j t l m)

  row_vector : (j t : ℕ) → j < size T → vector_in T.kind (centre_row T j t) ≡ centre_vector (field_of T.kind) (table_in T.kind T) j t
  unfolding centre_vector
  row_vector j t m = fun_ext (λ i. go i (dec_lt i (size T)))
    where
      go : (i : ℕ) → Dec (i < size T) → vector_in T.kind (centre_row T j t) i ≡ centre_vector (field_of T.kind) (table_in T.kind T) j t i
      go i (yes l) = numbers_vector T.kind listed (size T) (λ i. bracket_number T i j t) i l ∙ bracket_value i j t l m ∙ grind arith
      go i (no l) = numbers_past T.kind (size T) (λ i. bracket_number T i j t) i (omega arith) ∙ grind arith

  row_among : (r : Result (List Num) Unfit) → Among (centre_rows T) r →
      (j t : ℕ) × (j < size T) × (acts T j ≡ true) × (t < size T) × (Ok (centre_row T j t) ≡ r)
  row_among r h =
      let a = among_joined (size T) (centre_rows_at T) r h in
      let b = among_acting (acts T a.0) (joined (size T) (λ t. if_any (centre_row T a.0 t))) r a.2 in
      let d = among_joined (size T) (λ t. if_any (centre_row T a.0 t)) r b.1 in
      (a.0, d.0, a.1, b.0, d.1, any_is (centre_row T a.0 d.0) r d.2)

  rows_formed : AreFormed T.kind (size T) (centre_rows T)
  rows_formed = are_formed T.kind (size T) (centre_rows T) (λ row h. let r = row_among (Ok row) h in
      subst (IsRowOf T.kind (size T)) (ok_same r.5) (row_is_row r.0 r.1 r.2))

  formed_centre : (v : Vector (field_of T.kind)) → IsFormed T.kind (centre_rows T) v → IsActingRow T.kind T v
  formed_centre v h =
      let f = formed_is T.kind (centre_rows T) v h in
      let r = row_among (Ok f.0) f.1 in
      (r.0, r.1, r.2, r.3, r.4, f.2 ∙ ap (vector_in T.kind) (sym (ok_same r.5)) ∙ row_vector r.0 r.1 r.2)

  centre_spanned : (v : Vector (field_of T.kind)) → IsActingRow T.kind T v → Spanned (field_of T.kind) (IsFormed T.kind (centre_rows T)) v
  centre_spanned v r = subst (Spanned (field_of T.kind) (IsFormed T.kind (centre_rows T))) (sym (r.5 ∙ sym (row_vector r.0 r.1 r.2)))
      (go (lead_of (centre_row T r.0 r.1)) refl)
    where
      go : (o : Option ℕ) → lead_of (centre_row T r.0 r.1) ≡ o → Spanned (field_of T.kind) (IsFormed T.kind (centre_rows T))
          (vector_in T.kind (centre_row T r.0 r.1))
      go None e =
          subst (Spanned (field_of T.kind) (IsFormed T.kind (centre_rows T)))
          (sym (all_nought T.kind (field_of T.kind) (number_of T.kind) (kind_reads T.kind listed) (centre_row T r.0 r.1)
          (row_is_row r.0 r.1 r.2).elements e)) span_none
      go (Some s) e =
          span_kind _
          (is_formed T.kind (centre_rows T) (centre_row T r.0 r.1)
          (joined_among (size T) (centre_rows_at T) (Ok (centre_row T r.0 r.1)) r.0 r.2
          (acting_among (acts T r.0) (joined (size T) (λ t. if_any (centre_row T r.0 t))) (Ok (centre_row T r.0 r.1)) r.3
          (joined_among (size T) (λ t. if_any (centre_row T r.0 t)) (Ok (centre_row T r.0 r.1)) r.1 r.4
          (subst (λ o. Among {X = Result (List Num) Unfit} (cond (is_some o) (Ok (centre_row T r.0 r.1) ∷ []) []) (Ok (centre_row T r.0 r.1))) (sym e)
          (inl refl))))))

  pub centre_is : IsEnough T.kind T → (rows : Rows) → centre_of T ≡ Ok rows → AreRowsOf T.kind T rows (IsCentral (field_of T.kind) (table_in T.kind T))
  centre_is enough rows e =
      let m = kernel_means T.kind listed (size T) (centre_rows T) rows rows_formed e in
      record {
        closed = m.0;
        span = λ v. (
          (λ h. (enough.centre v).1
              (same_solutions (field_of T.kind) (size T) (IsFormed T.kind (centre_rows T)) (IsActingRow T.kind T) centre_spanned v ((m.1 v).0 h))),
          (λ h. (m.1 v).1
              (same_solutions (field_of T.kind) (size T) (IsActingRow T.kind T) (IsFormed T.kind (centre_rows T)) (λ u f. span_kind u (formed_centre u f)) v
              ((enough.centre v).0 h))),
        );
      }

pub centre_means : (p : Presentation) → CentreMeans p
centre_means p T holds rows e =
    subst (λ k. AreRowsOf k T rows (IsCentral (field_of k) (table_in k T))) holds.kind
    (centre_is T (held_field p T holds) (rows_of_shape T holds.shape) (is_enough p T holds) rows e)
