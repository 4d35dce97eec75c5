-- What the plain runs of the centre, the lower central series and an ideal mean, over the table T of a sound presentation p.
--
--   AreRowsOf k T rows Q     over the field of kind k: the closed form of the vectors of Q
--   CentreMeans p            the centre
--   AreTerms k T i terms     each is the closed form of its term, the first of term i, and the last alone is 0
--   SeriesMeans p            the terms of the lower central series, to the first that is 0
--   start_in k T es          the values of the elements
--   IdealMeans p             the ideal that they generate
--   CentreFits p, SeriesFits p, IdealFits p   over the prime p every operation of the plain run fits
use Rattle.std.specs.Prelude.{ℕ, suc, ◌≡◌, ◌↔◌, List, [], ◌∷◌, length, get_or, Ok, All}
use Rattle.math_linear.specs.Vector.{Vector}
use Rattle.math_linear.specs.Span.{IsRowOf}
use Rattle.fpl_numbers.specs.declared.number.Num.{Num}
use Rattle.fpl_numbers.specs.declared.number.Kind.{Kind}
use Rattle.fpl_numbers.specs.declared.number.Kind.TheVariants.{Prime}
use Rattle.fpl_numbers.specs.Kinds.{field_of}
use Rattle.fpl_rows.specs.Meaning.{IsClosedList, InSpanOf}
use Rattle.math_algebra.specs.Tree.{Tree, none}
use Rattle.math_algebra.specs.Table.{val}
use Rattle.math_structure.specs.Structure.{IsCentral, term, InIdeal}
use Rattle.fpl_model.specs.declared.presentation.Presentation.{Presentation}
use Rattle.fpl_model.specs.Meaning.{in_field}
use Rattle.fpl_model.specs.Sound.{IsWithin}
use Rattle.fpl_table.specs.Plain.{PlainTable, table_in}
use Rattle.plain_tables.specs.Holds.{Holds}
use Rattle.plain_structure.specs.Plain.{Rows, size, centre_of, lower_central_of, ideal_of}

pub record AreRowsOf (k : Kind) (T : PlainTable) (rows : Rows) (Q : Vector (field_of k) → Type 0) : Type 0 where
  pub closed : IsClosedList k (size T) rows
  pub span : (v : Vector (field_of k)) → InSpanOf k rows v ↔ Q v

abbrev pub CentreMeans : Presentation → Type 0
CentreMeans p =
    (T : PlainTable) → Holds p T → (rows : Rows) → centre_of T ≡ Ok rows → AreRowsOf p.field T rows (IsCentral (field_of p.field) (table_in p.field T))

abbrev pub AreTerms : Kind → PlainTable → ℕ → List Rows → Type 0
AreTerms k T i [] = ⊥
AreTerms k T i (rows ∷ []) = AreRowsOf k T rows (term (field_of k) (table_in k T) i) × (rows ≡ [])
AreTerms k T i (rows ∷ (next ∷ terms)) =
    AreRowsOf k T rows (term (field_of k) (table_in k T) i) × (rows ≡ [] → ⊥) × AreTerms k T (suc i) (next ∷ terms)

abbrev pub SeriesMeans : Presentation → Type 0
SeriesMeans p = (T : PlainTable) → Holds p T → (terms : List Rows) → lower_central_of T ≡ Ok terms → AreTerms p.field T 0 terms

abbrev pub start_in : (k : Kind) → PlainTable → List (Tree Num) → ℕ → Vector (field_of k)
start_in k T es i = val (field_of k) (table_in k T) (in_field k (get_or es i none))

abbrev pub IdealMeans : Presentation → Type 0
IdealMeans p =
    (T : PlainTable) → Holds p T → (es : List (Tree Num)) → All (IsWithin p.field (length p.generators)) es → (rows : Rows) → ideal_of T es ≡ Ok rows →
    AreRowsOf p.field T rows (InIdeal (field_of p.field) (table_in p.field T) (IsRowOf (field_of p.field) (length es) (start_in p.field T es)))

-- over a prime every operation fits
abbrev pub CentreFits : ℕ → Type 0
CentreFits p = (T : PlainTable) → T.kind ≡ Prime p → (rows : Rows) × (centre_of T ≡ Ok rows)

abbrev pub SeriesFits : ℕ → Type 0
SeriesFits p = (T : PlainTable) → T.kind ≡ Prime p → (terms : List Rows) × (lower_central_of T ≡ Ok terms)

abbrev pub IdealFits : ℕ → Type 0
IdealFits p = (T : PlainTable) (es : List (Tree Num)) → T.kind ≡ Prime p → (rows : Rows) × (ideal_of T es ≡ Ok rows)
