-- Subspaces of a table T, without elimination and without rows.
--
--   IsVectorOf      a vector of T: one that is 0 past T's basis
--   IsCentral       a vector of T whose bracket with each basis element is 0
--   IsBracketWith   the bracket of a vector of T and a vector of a kind
--   term            the terms of the lower central series, from 0: all vectors of T, and then what the brackets of T with the term before span
--   InIdeal         the least space that holds the vectors of a kind and is closed under bracket with each basis element
use Rattle.std.specs.Prelude.{ℕ, zero, suc, ◌≡◌, ◌<◌, length}
use Rattle.math_fields.specs.Field.{Field}
use Rattle.math_linear.specs.Vector.{Vector, vzero, place, EndsAt}
use Rattle.math_linear.specs.Span.{Spanned}
use Rattle.math_algebra.specs.Table.{Table, bracket}
use Rattle.math_subspaces.specs.Subspaces.{IsImage, Least}

abbrev pub IsVectorOf : (K : Field) → Table K → Vector K → Type 0
IsVectorOf K T x = EndsAt K (length T.basis) x

pub record IsCentral (K : Field) (T : Table K) (z : Vector K) : Type 0 where
  pub vector : IsVectorOf K T z
  pub commutes : (i : ℕ) → i < length T.basis → bracket K T z (place K i) ≡ vzero K

abbrev pub IsBracketWith : (K : Field) → Table K → (Vector K → Type 0) → Vector K → Type 0
IsBracketWith K T Q v = IsImage K (bracket K T) (IsVectorOf K T) Q v

abbrev pub term : (K : Field) → Table K → ℕ → Vector K → Type 0
term K T zero v = IsVectorOf K T v
term K T (suc k) v = Spanned K (IsBracketWith K T (term K T k)) v

-- past the basis the bracket is 0
abbrev pub InIdeal : (K : Field) → Table K → (Vector K → Type 0) → Vector K → Type 0
InIdeal K T S v = Least K (λ i. bracket K T (place K i)) S v
