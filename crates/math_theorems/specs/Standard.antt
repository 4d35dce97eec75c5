-- Theorems on built tables and on the standard table, over a field K. P is a sound presentation.
--
--   BuiltObeys            a built table obeys the law of P: at all triples, in any order, with equal elements too
--   Headline              for expressions over P of top at most a built table's weight: equal values exactly where derivably equal
--   BuiltIsStandard       a built table is the standard table
--   StandardIsBuilt       and the other way
--   SomeStandard          there is a standard table through each weight
--   OneStandard           there is one: two standard tables through one weight agree, and so do the expressions of their basis elements
--   IsSoundTable          what a table says is derivable: each image and each entry, and each expression with the combination of its value and no
--                         other
--   StandardIsSound       the standard table is such a one
--   ImagesPastAreZero     images of generators past the table's weight are 0
--   RowsAreZero           over the symbols of the next weight, what is derivably 0 is exactly what the source rows span
--   ClosedRowsAreZero     and what the closed rows of a next table span, whoever made them
--   LowerIsBuilt          the part of a built table through a lower weight is built, and its symbols are those of the whole
--   AgreeingIsBuilt       what a built table holds where a table says nothing doesn't matter
--   ClosedRowsBuild       closed rows that span the source rows give the next table
use Rattle.std.specs.Prelude.{ℕ, ◌≡◌, ◌<◌, ◌≤◌, ◌+◌, ◌↔◌, length}
use Rattle.math_fields.specs.Field.{Field}
use Rattle.math_linear.specs.Vector.{Vector, vzero, EndsAt}
use Rattle.math_linear.specs.Span.{Spanned, InSpan}
use Rattle.math_linear.specs.Closed.{IsClosedForm}
use Rattle.math_algebra.specs.Tree.{Presentation, IsOver, gen, none, bracket_of, generator}
use Rattle.math_algebra.specs.Degrees.{top, IsSoundPresentation}
use Rattle.math_algebra.specs.Derives.{Derives, Expression}
use Rattle.math_algebra.specs.Table.{Table, weight_at, product, val, ObeysLaw}
use Rattle.math_algebra.specs.Symbols.{symbols, symbols_of, symbol_at, symbol_tree}
use Rattle.math_algebra.specs.SourceRows.{IsSource}
use Rattle.math_algebra.specs.Extending.{Agree, IsLower}
use Rattle.math_algebra.specs.Built.{Built, IsNext}
use Rattle.math_algebra.specs.Standard.{combined, IsStandard}
use Rattle.math_algebra.specs.NextTable.{next_table}

abbrev pub BuiltObeys : Field → Type 0
BuiltObeys K = (P : Presentation K.Carrier) → IsSoundPresentation P → (T : Table K) → Built K P T → ObeysLaw K P T

abbrev pub Headline : Field → Type 0
Headline K =
    (P : Presentation K.Carrier) → IsSoundPresentation P → (T : Table K) → Built K P T → (e f : Expression K) → IsOver P e → IsOver P f →
    top P e ≤ T.weight → top P f ≤ T.weight →
    (val K T e ≡ val K T f) ↔ Derives K P e f

abbrev pub BuiltIsStandard : Field → Type 0
BuiltIsStandard K = (P : Presentation K.Carrier) → IsSoundPresentation P → (T : Table K) → Built K P T → (tree : ℕ → Expression K) × IsStandard K P T tree

abbrev pub StandardIsBuilt : Field → Type 0
StandardIsBuilt K = (P : Presentation K.Carrier) → IsSoundPresentation P → (T : Table K) (tree : ℕ → Expression K) → IsStandard K P T tree → Built K P T

abbrev pub SomeStandard : Field → Type 0
SomeStandard K = (P : Presentation K.Carrier) → IsSoundPresentation P → (d : ℕ) → (T : Table K) × (tree : ℕ → Expression K) ×
    IsStandard K P T tree × (T.weight ≡ d)

abbrev pub OneStandard : Field → Type 0
OneStandard K =
    (P : Presentation K.Carrier) → IsSoundPresentation P → (T S : Table K) (tree twig : ℕ → Expression K) → IsStandard K P T tree →
    IsStandard K P S twig → T.weight ≡ S.weight →
    Agree K P T S × ((i : ℕ) → i < length T.basis → tree i ≡ twig i)

pub record IsSoundTable (K : Field) (P : Presentation K.Carrier) (T : Table K) (tree : ℕ → Expression K) : Type 0 where
  pub over : (i : ℕ) → i < length T.basis → IsOver P (tree i)
  pub images : (g : ℕ) → g < length P.generators → (generator P g).weight ≤ T.weight → Derives K P (gen g) (combined K tree (length T.basis) (T.image g))
  pub entries : (i j : ℕ) → i < length T.basis → j < length T.basis → weight_at T i + weight_at T j ≤ T.weight →
      Derives K P (bracket_of (tree i) (tree j)) (combined K tree (length T.basis) (product K T i j))
  pub expressions : (e : Expression K) → IsOver P e → top P e ≤ T.weight → Derives K P e (combined K tree (length T.basis) (val K T e))
  pub unique : (e : Expression K) (v : Vector K) → EndsAt K (length T.basis) v → Derives K P e (combined K tree (length T.basis) v) → v ≡ val K T e

abbrev pub StandardIsSound : Field → Type 0
StandardIsSound K = (P : Presentation K.Carrier) → IsSoundPresentation P → (T : Table K) (tree : ℕ → Expression K) → IsStandard K P T tree →
    IsSoundTable K P T tree

abbrev pub ImagesPastAreZero : Field → Type 0
ImagesPastAreZero K =
    (P : Presentation K.Carrier) → IsSoundPresentation P → (T : Table K) → Built K P T → (g : ℕ) → g < length P.generators →
    T.weight < (generator P g).weight → T.image g ≡ vzero K

-- the combination of the symbols of the next weight
abbrev pub over_symbols : (K : Field) → Presentation K.Carrier → Table K → (ℕ → Expression K) → Vector K → Expression K
over_symbols K P T tree v = combined K (λ s. symbol_tree tree (symbol_at P T s)) (length (symbols P T)) v

abbrev pub RowsAreZero : Field → Type 0
RowsAreZero K =
    (P : Presentation K.Carrier) → IsSoundPresentation P → (T : Table K) (tree : ℕ → Expression K) → IsStandard K P T tree → (v : Vector K) →
    EndsAt K (length (symbols P T)) v →
    Derives K P (over_symbols K P T tree v) none ↔ Spanned K (IsSource K P T) v

abbrev pub ClosedRowsAreZero : Field → Type 0
ClosedRowsAreZero K =
    (P : Presentation K.Carrier) → IsSoundPresentation P → (T : Table K) (tree : ℕ → Expression K) → IsStandard K P T tree →
    (T' : Table K) (next : IsNext K P T T') (v : Vector K) →
    EndsAt K (length (symbols P T)) v → Derives K P (over_symbols K P T tree v) none ↔ InSpan K next.number_of_rows next.row v

abbrev pub LowerIsBuilt : Field → Type 0
LowerIsBuilt K =
    (P : Presentation K.Carrier) → IsSoundPresentation P → (T S : Table K) → Built K P T → IsLower K P T S →
    Built K P S × ((w : ℕ) → w ≤ S.weight + 1 → symbols_of P T w ≡ symbols_of P S w)

abbrev pub AgreeingIsBuilt : Field → Type 0
AgreeingIsBuilt K = (P : Presentation K.Carrier) → IsSoundPresentation P → (T S : Table K) → Built K P T → Agree K P T S → Built K P S

abbrev pub ClosedRowsBuild : Field → Type 0
ClosedRowsBuild K =
    (P : Presentation K.Carrier) (T : Table K) → Built K P T → (n : ℕ) (row : ℕ → Vector K) (pivot : ℕ → ℕ) →
    IsClosedForm K (length (symbols P T)) (IsSource K P T) n row pivot →
    Built K P (next_table K P T n row pivot)
