-- The invariant of tables that are raised weight by weight, and its theorems.
--
--   Holds p T             T is a built table of the sound presentation p, in plain numbers
--   StartHolds            the table through weight 0 is
--   PushKeepsShape        pushing rows of elements over the symbols keeps the shape
--   PushHolds             so is one with a weight more, pushed by closed rows that span exactly the source rows
--   HeldIsTable           such a table is the table of p through its weight
--   SymbolsAreSame        the symbols that a table names are those of its presentation, in every weight
--   TablesAreOne          two tables of p through one weight have one basis, equal numbers at each place, and as many symbols
--   TruncatesHold         so is the part of such a table through a lower weight
--   SoundIsSound          a sound presentation is sound as far as the algebra goes
use Rattle.std.specs.Prelude.{ℕ, ◌≡◌, ◌≤◌, ◌<◌, ◌+◌, List, length, get_or}
use Rattle.math_linear.specs.Span.{SpansKind}
use Rattle.fpl_numbers.specs.declared.number.Num.{Num}
use Rattle.fpl_numbers.specs.Numbers.{residue}
use Rattle.fpl_numbers.specs.Kinds.{field_of}
use Rattle.fpl_rows.specs.Meaning.{row_in, AreRows, IsClosedList}
use Rattle.math_algebra.specs.Degrees.{IsSoundPresentation}
use Rattle.math_algebra.specs.Symbols.{symbols, symbols_of}
use Rattle.math_algebra.specs.SourceRows.{IsSource}
use Rattle.math_algebra.specs.Built.{Built}
use Rattle.fpl_model.specs.declared.presentation.Presentation.{Presentation}
use Rattle.fpl_model.specs.Meaning.{generators_in, presentation_in}
use Rattle.fpl_model.specs.Sound.{IsSound}
use Rattle.fpl_table.specs.Plain.{PlainTable, plain_basis, image_row, entry_row, first_partner, table_in, shell_in, symbols_in}
use Rattle.fpl_table.specs.Push.{push_of}
use Rattle.fpl_table.specs.Truncate.{truncate_of}
use Rattle.fpl_table.specs.Shape.{HasShape}
use Rattle.fpl_table.specs.Standard.{start_of, count_through, IsTableOf}

pub record Holds (p : Presentation) (T : PlainTable) : Type 0 where
  pub sound : IsSound p
  pub kind : T.kind ≡ p.field
  pub generators : T.generators ≡ generators_in p
  pub shape : HasShape T
  pub built : Built (field_of p.field) (presentation_in p) (table_in p.field T)

abbrev pub StartHolds : Type 0
StartHolds = (p : Presentation) → IsSound p → Holds p (start_of p)

abbrev pub PushKeepsShape : Type 0
PushKeepsShape =
    (T : PlainTable) (rows : List (List Num)) → HasShape T → T.weight < 1000 → length (symbols_in T) ≤ 2000000 →
    AreRows T.kind (length (symbols_in T)) rows → HasShape (push_of T rows)

abbrev pub PushHolds : Type 0
PushHolds =
    (p : Presentation) (T : PlainTable) (rows : List (List Num)) → Holds p T → T.weight < 1000 → length (symbols_in T) ≤ 2000000 →
    IsClosedList T.kind (length (symbols_in T)) rows →
    SpansKind (field_of p.field) (IsSource (field_of p.field) (presentation_in p) (table_in p.field T)) (length rows) (row_in p.field rows) →
    Holds p (push_of T rows)

abbrev pub HeldIsTable : Type 0
HeldIsTable = (p : Presentation) (T : PlainTable) → Holds p T → IsTableOf p T.weight T

abbrev pub SymbolsAreSame : Type 0
SymbolsAreSame =
    (p : Presentation) (T : PlainTable) → T.kind ≡ p.field → T.generators ≡ generators_in p →
    (symbols_in T ≡ symbols (presentation_in p) (table_in p.field T)) ×
    ((w : ℕ) → symbols_of (shell_in T.kind T) (table_in T.kind T) w ≡ symbols_of (presentation_in p) (table_in p.field T) w)

pub record AreOne (T S : PlainTable) : Type 0 where
  pub kind : T.kind ≡ S.kind
  pub weight : T.weight ≡ S.weight
  pub generators : T.generators ≡ S.generators
  pub basis : T.basis ≡ S.basis
  pub images : (g : ℕ) → g < length T.generators → (s : ℕ) → get_or (image_row T g) s (residue 0) ≡ get_or (image_row S g) s (residue 0)
  pub entries : (i j : ℕ) → i < length T.basis → j < length T.basis → first_partner T i ≤ j → (plain_basis T i).weight + (plain_basis T j).weight ≤ T.weight →
      (s : ℕ) → get_or (entry_row T i j) s (residue 0) ≡ get_or (entry_row S i j) s (residue 0)
  pub counts : (w : ℕ) → count_through T w ≡ count_through S w

abbrev pub TablesAreOne : Type 0
TablesAreOne = (p : Presentation) (d : ℕ) (T S : PlainTable) → IsSound p → IsTableOf p d T → IsTableOf p d S → AreOne T S

abbrev pub SoundIsSound : Type 0
SoundIsSound = (p : Presentation) → IsSound p → IsSoundPresentation (presentation_in p)

abbrev pub TruncatesHold : Type 0
TruncatesHold = (p : Presentation) (T : PlainTable) (d : ℕ) → Holds p T → d ≤ T.weight → Holds p (truncate_of T d)
