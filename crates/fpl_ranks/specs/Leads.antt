-- Places at which nothing in the span of rows has its lead: once the other places have their pivot rows, further rows add nothing. Places count from 0.
--
--   IsOverPrime kind                 a kind with an accepted prime
--   InSpan kind rows v               v is in the span of the rows
--   NeverLeads kind rows s           what is in their span and 0 past place s is 0 there too
--   OthersNeverLead kind rows flags  so it is at each place without a flag
--   LowersLead flags lead now        at most the flag at the place of the lead, a position, was taken down
--   EachRow P rows                   P holds of each row
--   IsBlankAt s row                  the row is 0 at place s
--   IsSolvedBy kind test row         the product sum of a row and a test is 0
--   AddsProduct kind sum a b more    more is the sum of sum and the product of a and b
--   SpansRows e rows                 the rows held span what these rows span
use Rattle.std.specs.Prelude.{◌≡◌, ℕ, ◌+◌, ◌<◌, ◌↔◌, ◌⊎◌, Option, Some, List, [], length, map, Ok, Bool, true, false, slice_index_or}
use Rattle.math_linear.specs.Vector.{Vector}
use Rattle.math_linear.specs.Span.{Spanned}
use Rattle.math_linear.specs.Kernel.{product_sum}
use Rattle.fpl_numbers.specs.declared.number.Num.{Num}
use Rattle.fpl_numbers.specs.declared.number.Kind.{Kind}
use Rattle.fpl_numbers.specs.declared.number.Kind.TheVariants.{Prime}
use Rattle.fpl_numbers.specs.Numbers.{IsListed, IsElement, is_nought, residue}
use Rattle.fpl_numbers.specs.Kinds.{field_of, number_of}
use Rattle.fpl_rows.specs.Meaning.{vector_in}
use Rattle.fpl_matrices.specs.Matrices.{prime_in}
use Rattle.plain_elimination.specs.Plain.{Elimination}
use Rattle.plain_elimination.specs.Spans.{IsSpanned}
use Rattle.plain_spans.specs.Means.{IsFormed}

pub record IsOverPrime (kind : Kind) : Type 0 where
  pub prime : kind ≡ Prime (prime_in kind)
  pub listed : IsListed (prime_in kind)

abbrev pub InSpan : (kind : Kind) → List (List Num) → Vector (field_of kind) → Type 0
InSpan kind rows v = Spanned (field_of kind) (IsFormed kind (map Ok rows)) v

abbrev pub NeverLeads : Kind → List (List Num) → ℕ → Type 0
NeverLeads kind rows s =
    (v : Vector (field_of kind)) → InSpan kind rows v → ((t : ℕ) → s < t → v t ≡ (field_of kind).nought) → v s ≡ (field_of kind).nought

abbrev pub OthersNeverLead : Kind → List (List Num) → List Bool → Type 0
OthersNeverLead kind rows flags = (s : ℕ) → slice_index_or flags s false ≡ false → NeverLeads kind rows s

abbrev pub LowersLead : List Bool → Option ℕ → List Bool → Type 0
LowersLead flags lead now = (s : ℕ) → slice_index_or now s false ≡ false → (slice_index_or flags s false ≡ false) ⊎ (lead ≡ Some (s + 1))

abbrev pub EachRow : (List Num → Type 0) → List (List Num) → Type 0
EachRow P rows = (i : ℕ) → i < length rows → P (slice_index_or rows i [])

abbrev pub IsBlankAt : ℕ → List Num → Type 0
IsBlankAt s row = is_nought (slice_index_or row s (residue 0)) ≡ true

abbrev pub IsSolvedBy : Kind → List Num → List Num → Type 0
IsSolvedBy kind test row = product_sum (field_of kind) (length test) (vector_in kind row) (vector_in kind test) ≡ (field_of kind).nought

pub record AddsProduct (kind : Kind) (sum a b more : ℕ) : Type 0 where
  pub element : IsElement kind (residue more)
  pub value : number_of kind (residue more) ≡ (field_of kind).plus (number_of kind (residue sum))
      ((field_of kind).times (number_of kind (residue a)) (number_of kind (residue b)))

abbrev pub SpansRows : Elimination → List (List Num) → Type 0
SpansRows e rows = (v : Vector (field_of e.kind)) → IsSpanned e v ↔ InSpan e.kind rows v
