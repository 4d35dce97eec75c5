-- What the plain run of a span and of a kernel means.
--
--   IsFormed kind rows v         v is the vector of one of the rows that could be formed
--   AreFormed kind n rows        each row that can be formed has n numbers, which are canonical and fit
--   AreAllFormed rows            each row can be formed
--   SpanMeans k                  the closed rows are a closed list, and span what the rows span
--   AreSolutions kind n rows solved   closed rows that span exactly the vectors over n positions whose product sum with each row is 0
--   KernelMeans k                the rows of a kernel are a closed list, and span exactly the vectors whose product sum with each row is 0
--   SpanFits p, KernelFits p     over the prime p every operation of the span, or of the kernel, of rows that can be formed fits
use Rattle.std.specs.Prelude.{◌≡◌, ℕ, ◌↔◌, ◌⊎◌, List, [], ◌∷◌, length, Result, Ok, Err}
use Rattle.math_linear.specs.Vector.{Vector}
use Rattle.math_linear.specs.Span.{Spanned, IsRowOf as IsAmong}
use Rattle.math_linear.specs.Kernel.{IsSolution}
use Rattle.fpl_numbers.specs.declared.number.Num.{Num}
use Rattle.fpl_numbers.specs.declared.number.Kind.{Kind}
use Rattle.fpl_numbers.specs.declared.number.Kind.TheVariants.{Prime}
use Rattle.fpl_numbers.specs.declared.number.Unfit.{Unfit}
use Rattle.fpl_numbers.specs.Numbers.{IsField}
use Rattle.fpl_numbers.specs.Kinds.{field_of}
use Rattle.fpl_rows.specs.Meaning.{vector_in, row_in, IsRowOf, IsClosedList, InSpanOf}
use Rattle.plain_spans.specs.Plain.{span_of, kernel_of}

abbrev pub IsFormed : (kind : Kind) → List (Result (List Num) Unfit) → Vector (field_of kind) → Type 0
IsFormed kind [] v = ⊥
IsFormed kind (Ok row ∷ rows) v = (v ≡ vector_in kind row) ⊎ IsFormed kind rows v
IsFormed kind (Err u ∷ rows) v = IsFormed kind rows v

abbrev pub AreFormed : Kind → ℕ → List (Result (List Num) Unfit) → Type 0
AreFormed kind n [] = Unit {0}
AreFormed kind n (Ok row ∷ rows) = IsRowOf kind n row × AreFormed kind n rows
AreFormed kind n (Err u ∷ rows) = AreFormed kind n rows

abbrev pub SpanMeans : Kind → Type 0
SpanMeans k =
    IsField k → (n : ℕ) (rows : List (Result (List Num) Unfit)) (closed : List (List Num)) → AreFormed k n rows → span_of k n rows ≡ Ok closed →
    IsClosedList k n closed × ((v : Vector (field_of k)) → InSpanOf k closed v ↔ Spanned (field_of k) (IsFormed k rows) v)

pub record AreSolutions (kind : Kind) (n : ℕ) (rows solved : List (List Num)) : Type 0 where
  pub closed : IsClosedList kind n solved
  pub span : (v : Vector (field_of kind)) → InSpanOf kind solved v ↔ IsSolution (field_of kind) n (IsAmong (field_of kind) (length rows) (row_in kind rows)) v

abbrev pub KernelMeans : Kind → Type 0
KernelMeans k =
    IsField k → (n : ℕ) (rows : List (Result (List Num) Unfit)) (closed : List (List Num)) → AreFormed k n rows → kernel_of k n rows ≡ Ok closed →
    IsClosedList k n closed × ((v : Vector (field_of k)) → InSpanOf k closed v ↔ IsSolution (field_of k) n (IsFormed k rows) v)

abbrev pub AreAllFormed : List (Result (List Num) Unfit) → Type 0
AreAllFormed [] = Unit {0}
AreAllFormed (Ok row ∷ rows) = AreAllFormed rows
AreAllFormed (Err u ∷ rows) = ⊥

abbrev pub SpanFits : ℕ → Type 0
SpanFits p = (n : ℕ) (rows : List (Result (List Num) Unfit)) → AreAllFormed rows → (closed : List (List Num)) × (span_of (Prime p) n rows ≡ Ok closed)

abbrev pub KernelFits : ℕ → Type 0
KernelFits p = (n : ℕ) (rows : List (Result (List Num) Unfit)) → AreAllFormed rows → (closed : List (List Num)) × (kernel_of (Prime p) n rows ≡ Ok closed)
