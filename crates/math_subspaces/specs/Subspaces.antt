-- Subspaces of the vectors over a field: quotients, images under bilinear functions, and subspaces closed under functions.
--
--   Represents   a list that represents Z modulo B: each vector of Z is a combination of the list plus a vector of B, with unique coefficients
--   IsImage      the value of a function at a vector of S and one of R
--   Least        the least space that holds the vectors of S and is closed under the functions map 0, map 1, ..
use Rattle.std.specs.Prelude.{ℕ, ◌≡◌, ◌<◌}
use Rattle.math_fields.specs.Field.{Field}
use Rattle.math_linear.specs.Vector.{Vector, vzero, vplus, scale}
use Rattle.math_linear.specs.Span.{combination}

pub record Represents (K : Field) (Z B : Vector K → Type 0) (count : ℕ) (rep : ℕ → Vector K) : Type 0 where
  pub within : (k : ℕ) → k < count → Z (rep k)
  pub whole : (v : Vector K) → Z v → (c : ℕ → K.Carrier) × (b : Vector K) × B b × (v ≡ vplus K (combination K count rep c) b)
  pub unique : (c : ℕ → K.Carrier) → B (combination K count rep c) → (k : ℕ) → k < count → c k ≡ K.nought

pub record IsImage (K : Field) (f : Vector K → Vector K → Vector K) (S R : Vector K → Type 0) (v : Vector K) : Type 0 where
  pub first : Vector K
  pub second : Vector K
  pub of_first : S first
  pub of_second : R second
  pub is : v ≡ f first second

pub data Least (K : Field) (map : ℕ → Vector K → Vector K) (S : Vector K → Type 0) : Vector K → Type 0 where
  least_kind : (v : Vector K) → S v → Least K map S v
  least_none : Least K map S (vzero K)
  least_sum : (v w : Vector K) → Least K map S v → Least K map S w → Least K map S (vplus K v w)
  least_multiple : (c : K.Carrier) (v : Vector K) → Least K map S v → Least K map S (scale K c v)
  least_map : (i : ℕ) (v : Vector K) → Least K map S v → Least K map S (map i v)
