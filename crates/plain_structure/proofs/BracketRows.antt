-- The rows of brackets stand for the brackets of basis elements with rows.
use Rattle.std.specs.Prelude.{◌≡◌, ℕ, zero, suc, ◌<◌, List, [], ◌∷◌, length, get_or, Option, Some, None, Result, Ok, Err, Bool, true, false, nat_eq, cond, is_some}
use mathlib.Core.Logic.{inl, inr}
use mathlib.Core.Path.{sym, refl, ap, ◌∙◌, fun_ext, subst}
use native.Mathlib.Omega.{arith}
use native.Mathlib.Decide.{dec_lt}
use Rattle.math_fields.specs.Field.{Field}
use Rattle.math_linear.specs.Vector.{Vector, place}
use Rattle.math_linear.specs.Span.{Spanned}
use Rattle.math_linear.specs.Span.Spanned.{span_kind, span_none}
use Rattle.math_linear.proofs.Vectors.{place_other}
use Rattle.fpl_numbers.specs.declared.number.Num.{Num}
use Rattle.fpl_numbers.specs.declared.number.Unfit.{Unfit}
use Rattle.fpl_numbers.specs.Numbers.{IsField, residue}
use Rattle.fpl_numbers.specs.Kinds.{field_of, number_of}
use Rattle.fpl_numbers.proofs.KindReads.{kind_reads}
use Rattle.fpl_rows.specs.Meaning.{vector_in, row_in, IsRowOf as IsRowOfKind, AreRows}
use Rattle.fpl_rows.specs.Positions.{lead_of}
use Rattle.fpl_rows.proofs.Fits.{ok_not_err}
use Rattle.fpl_rows.proofs.Readings.{all_nought}
use Rattle.math_algebra.specs.Table.{Table, bracket}
use Rattle.fpl_table.specs.Plain.{PlainTable, table_in}
use Rattle.fpl_table.specs.Value.{bracket_of}
use Rattle.plain_sources.specs.Premises.{IsRowIn, HasRows}
use Rattle.plain_sources.proofs.Products.{bracket_reads}
use Rattle.plain_spans.specs.Means.{IsFormed, AreFormed}
use Rattle.plain_spans.proofs.Among.{Among, formed_is, is_formed, are_formed, among_left, among_right, among_either, among_joined, joined_among}
use Rattle.plain_spans.proofs.Kernels.{numbers_vector, numbers_past, numbers_row, unit_value, unit_element}
use Rattle.plain_structure.specs.Plain.{Rows, size, unit_row, acts, if_any, if_formed, brackets_with, bracket_rows_at, bracket_rows}
use Rattle.plain_structure.proofs.Acting.{IsActing}

abbrev pub Formed : Type 0
Formed = Result (List Num) Unfit

pub any_is : (row : List Num) (r : Formed) → Among (if_any row) r → Ok row ≡ r
any_is row r h = go (is_some (lead_of row)) h
  where
    go : (b : Bool) → Among {X = Result (List Num) Unfit} (cond b (Ok row ∷ []) []) r → Ok row ≡ r
    go true (inl e) = e
    go true (inr h) = absurd h
    go false h = absurd h

-- those that act
pub among_acting : {X : Type 0} (b : Bool) (xs : List X) (y : X) → Among (cond b xs []) y → (b ≡ true) × Among xs y
among_acting true xs y h = (refl, h)
among_acting false xs y h = absurd h

pub acting_among : {X : Type 0} (b : Bool) (xs : List X) (y : X) → b ≡ true → Among xs y → Among (cond b xs []) y
acting_among b xs y e h = subst (λ c. Among (cond c xs []) y) (sym e) h

module _ (T : PlainTable) (listed : IsField T.kind) (has : HasRows T) where
  abbrev pub F : Field
  F = field_of T.kind

  abbrev pub over : Table (field_of T.kind)
  over = table_in T.kind T

  pub unit_vector : (i : ℕ) → i < size T → vector_in T.kind (unit_row (size T) i) ≡ place (field_of T.kind) i
  unit_vector i l = fun_ext (λ s. go s (dec_lt s (size T)))
    where
      go : (s : ℕ) → Dec (s < size T) → vector_in T.kind (unit_row (size T) i) s ≡ place (field_of T.kind) i s
      go s (yes m) = numbers_vector T.kind listed (size T) (λ s. cond (nat_eq i s) (residue 1) (residue 0)) s m ∙ unit_value T.kind listed i s
      go s (no m) = numbers_past T.kind (size T) (λ s. cond (nat_eq i s) (residue 1) (residue 0)) s (omega arith) ∙
          sym (place_other (field_of T.kind) i s (omega arith))

  pub unit_is_row : (i : ℕ) → IsRowOfKind T.kind (size T) (unit_row (size T) i)
  unit_is_row i = numbers_row T.kind (size T) (λ s. cond (nat_eq i s) (residue 1) (residue 0)) (λ s l. unit_element T.kind listed (nat_eq i s))

  pub row_up_to : (row : List Num) → IsRowOfKind T.kind (size T) row → IsRowIn T row
  row_up_to row h = record { elements = h.elements; short = (let k = h.length_is in omega arith) }

  formed_of : (x r : Formed) → Among (if_formed x) r → x ≡ r
  formed_of (Ok row) r h = any_is row r h
  formed_of (Err u) r (inl e) = e
  formed_of (Err u) r (inr h) = absurd h

  with_among : (i : ℕ) (rows : Rows) (r : Formed) → Among (brackets_with T i rows) r →
      (j : ℕ) × (j < length rows) × Among (if_formed (bracket_of T (unit_row (size T) i) (get_or rows j []))) r
  with_among i [] r h = absurd h
  with_among i (x ∷ rows) r h =
      elim (among_either (if_formed (bracket_of T (unit_row (size T) i) x)) (brackets_with T i rows) r h) [
        | inl a ↦ (0, (omega arith), a)
        | inr a ↦ let b = with_among i rows r a in (suc b.0, (omega (arith, b.1)), b.2)
      ]

  among_with : (i : ℕ) (rows : Rows) (j : ℕ) (r : Formed) → j < length rows → Among (if_formed (bracket_of T (unit_row (size T) i) (get_or rows j []))) r →
      Among (brackets_with T i rows) r
  among_with i [] j r l h = absurd (omega arith)
  among_with i (x ∷ rows) zero r l h = among_left (if_formed (bracket_of T (unit_row (size T) i) x)) (brackets_with T i rows) r h
  among_with i (x ∷ rows) (suc j) r l h =
      among_right (if_formed (bracket_of T (unit_row (size T) i) x)) (brackets_with T i rows) r (among_with i rows j r (omega arith) h)

  module _ (rows : Rows) (are : AreRows T.kind (size T) rows) where
    pub is_bracket : (r : Formed) → Among (bracket_rows T rows) r →
        (i j : ℕ) × (i < size T) × (acts T i ≡ true) × (j < length rows) × (bracket_of T (unit_row (size T) i) (get_or rows j []) ≡ r)
    is_bracket r h =
        let a = among_joined (size T) (bracket_rows_at T rows) r h in
        let b = among_acting (acts T a.0) (brackets_with T a.0 rows) r a.2 in
        let d = with_among a.0 rows r b.1 in
        (a.0, d.0, a.1, b.0, d.1, formed_of _ r d.2)

    bracket_is : (i j : ℕ) (r : Formed) → i < size T → acts T i ≡ true → j < length rows →
        Among (if_formed (bracket_of T (unit_row (size T) i) (get_or rows j []))) r → Among (bracket_rows T rows) r
    bracket_is i j r l t m h =
        joined_among (size T) (bracket_rows_at T rows) r i l (acting_among (acts T i) (brackets_with T i rows) r t (among_with i rows j r m h))

    pub stands : (i j : ℕ) (z : List Num) → i < size T → j < length rows → bracket_of T (unit_row (size T) i) (get_or rows j []) ≡ Ok z →
        IsRowOfKind T.kind (size T) z ×
        (vector_in T.kind z ≡ bracket (field_of T.kind) (table_in T.kind T) (place (field_of T.kind) i) (row_in T.kind rows j))
    stands i j z l m e =
        let s = bracket_reads T listed has (unit_row (size T) i) (get_or rows j []) z (row_up_to _ (unit_is_row i)) (row_up_to _ (are j [] m)) e in (
          record { elements = s.elements; length_is = s.long },
          s.vector ∙ ap (λ w. bracket (field_of T.kind) (table_in T.kind T) w (row_in T.kind rows j)) (unit_vector i l),
        )

    pub brackets_formed : AreFormed T.kind (size T) (bracket_rows T rows)
    brackets_formed = are_formed T.kind (size T) (bracket_rows T rows) (λ z h. let b = is_bracket (Ok z) h in (stands b.0 b.1 z b.2 b.4 b.5).0)

    pub formed_bracket : (v : Vector (field_of T.kind)) → IsFormed T.kind (bracket_rows T rows) v → IsActing T.kind T (length rows) (row_in T.kind rows) v
    formed_bracket v h =
        let r = formed_is T.kind (bracket_rows T rows) v h in
        let b = is_bracket (Ok r.0) r.1 in
        (b.0, b.1, b.2, b.3, b.4, r.2 ∙ (stands b.0 b.1 r.0 b.2 b.4 b.5).1)

    -- where all could be formed; a bracket that is 0 isn't there
    pub bracket_formed : ((r : Formed) → Among (bracket_rows T rows) r → (row : List Num) × (r ≡ Ok row)) →
        (v : Vector (field_of T.kind)) → IsActing T.kind T (length rows) (row_in T.kind rows) v →
        Spanned (field_of T.kind) (IsFormed T.kind (bracket_rows T rows)) v
    bracket_formed fit v u = at (bracket_of T (unit_row (size T) u.0) (get_or rows u.1 [])) refl
      where
        in_list : (r : Formed) → Among (if_formed (bracket_of T (unit_row (size T) u.0) (get_or rows u.1 []))) r → Among (bracket_rows T rows) r
        in_list r h = bracket_is u.0 u.1 r u.2 u.3 u.4 h

        put : (z : List Num) → bracket_of T (unit_row (size T) u.0) (get_or rows u.1 []) ≡ Ok z → (o : Option ℕ) → lead_of z ≡ o →
            Spanned (field_of T.kind) (IsFormed T.kind (bracket_rows T rows)) (vector_in T.kind z)
        put z e None f =
            subst (Spanned (field_of T.kind) (IsFormed T.kind (bracket_rows T rows)))
            (sym (all_nought T.kind (field_of T.kind) (number_of T.kind) (kind_reads T.kind listed) z (stands u.0 u.1 z u.2 u.4 e).0.elements f)) span_none
        put z e (Some s) f =
            span_kind _
            (is_formed T.kind (bracket_rows T rows) z
            (in_list (Ok z)
            (subst (λ x. Among (if_formed x) (Ok z)) (sym e)
            (subst (λ o. Among {X = Result (List Num) Unfit} (cond (is_some o) (Ok z ∷ []) []) (Ok z)) (sym f) (inl refl)))))

        at : (r : Formed) → bracket_of T (unit_row (size T) u.0) (get_or rows u.1 []) ≡ r → Spanned (field_of T.kind) (IsFormed T.kind (bracket_rows T rows)) v
        at (Ok z) e =
            subst (Spanned (field_of T.kind) (IsFormed T.kind (bracket_rows T rows))) (sym (u.5 ∙ sym (stands u.0 u.1 z u.2 u.4 e).1))
            (put z e (lead_of z) refl)
        at (Err w) e = absurd (ok_not_err (sym (fit (Err w) (in_list (Err w) (subst (λ x. Among (if_formed x) (Err w)) (sym e) (inl refl)))).1))
