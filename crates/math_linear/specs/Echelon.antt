-- Echelons: rows by place, at most one row at each place.
--
--   Pivots      the row that stands at each place
--   IsRow       one of the rows
--   HasLead     1 at a place, and 0 above it
--   IsEchelon   each row has its lead at its place, and stands below n
--   IsReduced   an echelon in which each row is 0 at the places of the others
--   take_off    the row of a place taken off a vector as often as the vector has that place
--   reduce      what is left of a vector when the rows below n are taken off, from the greatest place down
--   put         a row more
--   empty       no row
--   close_at    the closed rows below a place, and the closed row of that place
--   close       the rows below n, each less the closed rows below it
--   AreRowsOf   the rows of a table of pivots, in the order of their places
use Rattle.std.specs.Prelude.{ℕ, zero, suc, ◌≡◌, ◌≢◌, ◌<◌, Option, Some, None, cond, nat_eq}
use Rattle.math_fields.specs.Field.{Field}
use Rattle.math_linear.specs.Vector.{Vector, vplus, scale}

abbrev pub Pivots : Field → Type 0
Pivots K = ℕ → Option (Vector K)

abbrev pub IsRow : (K : Field) → Pivots K → Vector K → Type 0
IsRow K at u = (s : ℕ) × (at s ≡ Some u)

pub record HasLead (K : Field) (s : ℕ) (u : Vector K) : Type 0 where
  pub leads : u s ≡ K.unit
  pub above : (t : ℕ) → s < t → u t ≡ K.nought

pub record IsEchelon (K : Field) (n : ℕ) (at : Pivots K) : Type 0 where
  pub has_lead : (s : ℕ) (u : Vector K) → at s ≡ Some u → HasLead K s u
  pub below : (s : ℕ) (u : Vector K) → at s ≡ Some u → s < n

pub record IsReduced (K : Field) (n : ℕ) (at : Pivots K) : Type 0 where
  pub echelon : IsEchelon K n at
  pub apart : (s t : ℕ) (u v : Vector K) → at s ≡ Some u → at t ≡ Some v → s ≢ t → u t ≡ K.nought

unfoldable pub take_off : (K : Field) → Option (Vector K) → ℕ → Vector K → Vector K
take_off K None s v = v
take_off K (Some u) s v = vplus K v (scale K (K.minus (v s)) u)

unfoldable pub reduce : (K : Field) → Pivots K → ℕ → Vector K → Vector K
reduce K at zero v = v
reduce K at (suc s) v = reduce K at s (take_off K (at s) s v)

unfoldable pub put : (K : Field) → Pivots K → ℕ → Vector K → Pivots K
put K at s u t = cond (nat_eq s t) (Some u) (at t)

unfoldable pub empty : (K : Field) → Pivots K
empty K s = None

unfoldable pub close_at : (K : Field) → Pivots K → Option (Vector K) → ℕ → Pivots K
close_at K closed None s = closed
close_at K closed (Some u) s = put K closed s (reduce K closed s u)

unfoldable pub close : (K : Field) → Pivots K → ℕ → Pivots K
close K at zero = empty K
close K at (suc s) = close_at K (close K at s) (at s) s

pub record AreRowsOf (K : Field) (at : Pivots K) (count : ℕ) (row : ℕ → Vector K) (pivot : ℕ → ℕ) : Type 0 where
  pub there : (i : ℕ) → i < count → at (pivot i) ≡ Some (row i)
  pub ascend : (i j : ℕ) → i < j → j < count → pivot i < pivot j
  pub all : (s : ℕ) (u : Vector K) → at s ≡ Some u → (i : ℕ) × (i < count) × (pivot i ≡ s)
