-- The bracket of a table is linear in each member.
use Rattle.std.specs.Prelude.{ℕ, ◌≡◌, ◌<◌, length}
use mathlib.Core.Path.{ap, ◌∙◌}
use Rattle.math_fields.specs.Field.{Field}
use Rattle.math_linear.specs.Vector.{Vector, vzero, vplus, scale, place}
use Rattle.math_algebra.specs.Tree.{Parity}
use Rattle.math_algebra.specs.Table.{Table, product, bracket, IsIn, parity_at}
use Rattle.math_linear.specs.Linear.{IsLinear}
use Rattle.math_linear.proofs.Linear.{linear_vzero, bilinear_left, bilinear_right, bilinear_places}
use Rattle.math_linear.proofs.Places.{by_places, linear_agree}

module _ (K : Field) (T : Table K) where
  pub bracket_linear_left : (y : Vector K) → IsLinear K (λ x. bracket K T x y)
  unfolding bracket
  bracket_linear_left y = bilinear_left K (length T.basis) (product K T) y

  pub bracket_linear_right : (x : Vector K) → IsLinear K (λ y. bracket K T x y)
  unfolding bracket
  bracket_linear_right x = bilinear_right K (length T.basis) (product K T) x

  pub bracket_places : (a b : ℕ) → a < length T.basis → b < length T.basis → bracket K T (place K a) (place K b) ≡ product K T a b
  unfolding bracket
  bracket_places a b l k = bilinear_places K (length T.basis) (product K T) a b l k

  pub linear_left : (f : Vector K → Vector K) (y : Vector K) → IsLinear K f → IsLinear K (λ x. bracket K T (f x) y)
  linear_left f y h = record {
    of_plus = λ u v. ap (λ w. bracket K T w y) (h.of_plus u v) ∙ (bracket_linear_left y).of_plus _ _;
    of_scale = λ c u. ap (λ w. bracket K T w y) (h.of_scale c u) ∙ (bracket_linear_left y).of_scale _ _;
  }

  pub linear_right : (x : Vector K) (f : Vector K → Vector K) → IsLinear K f → IsLinear K (λ y. bracket K T x (f y))
  linear_right x f h = record {
    of_plus = λ u v. ap (bracket K T x) (h.of_plus u v) ∙ (bracket_linear_right x).of_plus _ _;
    of_scale = λ c u. ap (bracket K T x) (h.of_scale c u) ∙ (bracket_linear_right x).of_scale _ _;
  }

  pub bracket-vplus : (x y z : Vector K) → bracket K T x (vplus K y z) ≡ vplus K (bracket K T x y) (bracket K T x z)
  bracket-vplus x y z = (bracket_linear_right x).of_plus y z

  pub vplus-bracket : (x y z : Vector K) → bracket K T (vplus K x y) z ≡ vplus K (bracket K T x z) (bracket K T y z)
  vplus-bracket x y z = (bracket_linear_left z).of_plus x y

  pub bracket-scale : (c : K.Carrier) (x y : Vector K) → bracket K T x (scale K c y) ≡ scale K c (bracket K T x y)
  bracket-scale c x y = (bracket_linear_right x).of_scale c y

  pub scale-bracket : (c : K.Carrier) (x y : Vector K) → bracket K T (scale K c x) y ≡ scale K c (bracket K T x y)
  scale-bracket c x y = (bracket_linear_left y).of_scale c x

  pub bracket-vzero : (x : Vector K) → bracket K T x (vzero K) ≡ vzero K
  bracket-vzero x = linear_vzero K _ (bracket_linear_right x)

  pub vzero-bracket : (x : Vector K) → bracket K T (vzero K) x ≡ vzero K
  vzero-bracket x = linear_vzero K _ (bracket_linear_left x)

  -- what is so of 0, of sums, of multiples and of the places of parity s is so of the part of parity s
  pub by_part : (s : Parity) (P : Vector K → Type 0) → P (vzero K) → ((x y : Vector K) → P x → P y → P (vplus K x y)) →
      ((c : K.Carrier) (x : Vector K) → P x → P (scale K c x)) →
      ((i : ℕ) → i < length T.basis → parity_at T i ≡ s → P (place K i)) → (x : Vector K) → IsIn K T s x → P x
  by_part s P none both times there x h = by_places K (length T.basis) (λ i. parity_at T i ≡ s) P none both times there x h

  -- two linear functions that agree at the places of a parity agree on its part
  pub linear_same : (s : Parity) (f g : Vector K → Vector K) → IsLinear K f → IsLinear K g →
      ((i : ℕ) → i < length T.basis → parity_at T i ≡ s → f (place K i) ≡ g (place K i)) → (x : Vector K) → IsIn K T s x → f x ≡ g x
  linear_same s f g h k same = linear_agree K (length T.basis) (λ i. parity_at T i ≡ s) f g h k same
