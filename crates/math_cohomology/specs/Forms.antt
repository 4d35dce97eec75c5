-- Super alternating forms on a table T, by their values at basis elements, of degrees 1, 2 and 3. Numbers of basis elements count from 0.
--
--   One, Two, Three           functions of one, two and three basis elements
--   IsForm1, IsForm2, IsForm3 forms of weight w: 0 at basis elements of another total weight, and an exchange of two neighbours a, b multiplies by
--                             minus (-1)^(|a||b|); what a function says past the basis doesn't matter
--   apply                     a linear form at a vector
--   coboundary1               of a 1-form: f([x,y])
--   coboundary2               of a 2-form: f([x,y],z) - (-1)^(|y||z|) f([x,z],y) + (-1)^(|x||y|+|x||z|) f([y,z],x)
--   Agree2                    two functions of two basis elements that agree on the basis
--   IsCocycle1, IsCocycle2    forms of weight w whose coboundary is 0 at all basis elements, in any order, repeated or not
--   IsCoboundary2             what agrees with the coboundary of a 1-form of weight w
--   sum2                      a combination of 2-forms
--   RepresentsH1              1-cocycles of which each 1-cocycle of the weight is a combination, with unique coefficients
--   RepresentsH2              2-cocycles of which each 2-cocycle of the weight is a combination but for a coboundary, with unique coefficients
use Rattle.std.specs.Prelude.{ℕ, zero, suc, ◌≡◌, ◌≢◌, ◌+◌, ◌<◌, length}
use Rattle.math_fields.specs.Field.{Field}
use Rattle.math_linear.specs.Vector.{Vector}
use Rattle.math_linear.specs.Kernel.{product_sum}
use Rattle.math_algebra.specs.Derives.{sign}
use Rattle.math_algebra.specs.Table.{Table, weight_at, parity_at, product}

abbrev pub One : Field → Type 0
One K = ℕ → K.Carrier

abbrev pub Two : Field → Type 0
Two K = ℕ → ℕ → K.Carrier

abbrev pub Three : Field → Type 0
Three K = ℕ → ℕ → ℕ → K.Carrier

-- (-1)^(|b_i||b_j|)
abbrev pub sign_at : (K : Field) → Table K → ℕ → ℕ → K.Carrier
sign_at K T i j = sign K (parity_at T i) (parity_at T j)

pub record IsForm1 (K : Field) (T : Table K) (w : ℕ) (f : One K) : Type 0 where
  pub of_weight : (i : ℕ) → i < length T.basis → weight_at T i ≢ w → f i ≡ K.nought

pub record IsForm2 (K : Field) (T : Table K) (w : ℕ) (f : Two K) : Type 0 where
  pub of_weight : (i j : ℕ) → i < length T.basis → j < length T.basis → weight_at T i + weight_at T j ≢ w → f i j ≡ K.nought
  pub exchanges : (i j : ℕ) → i < length T.basis → j < length T.basis → f i j ≡ K.times (K.minus (sign_at K T i j)) (f j i)

pub record IsForm3 (K : Field) (T : Table K) (w : ℕ) (f : Three K) : Type 0 where
  pub of_weight : (i j k : ℕ) → i < length T.basis → j < length T.basis → k < length T.basis → weight_at T i + weight_at T j + weight_at T k ≢ w →
      f i j k ≡ K.nought
  pub first : (i j k : ℕ) → i < length T.basis → j < length T.basis → k < length T.basis → f i j k ≡ K.times (K.minus (sign_at K T i j)) (f j i k)
  pub last : (i j k : ℕ) → i < length T.basis → j < length T.basis → k < length T.basis → f i j k ≡ K.times (K.minus (sign_at K T j k)) (f i k j)

unfoldable pub apply : (K : Field) → Table K → One K → Vector K → K.Carrier
apply K T f v = product_sum K (length T.basis) f v

unfoldable pub coboundary1 : (K : Field) → Table K → One K → Two K
coboundary1 K T f i j = apply K T f (product K T i j)

unfoldable pub coboundary2 : (K : Field) → Table K → Two K → Three K
coboundary2 K T f i j k =
    K.plus (apply K T (λ t. f t k) (product K T i j))
    (K.plus (K.times (K.minus (sign_at K T j k)) (apply K T (λ t. f t j) (product K T i k)))
    (K.times (K.times (sign_at K T i j) (sign_at K T i k)) (apply K T (λ t. f t i) (product K T j k))))

abbrev pub Agree1 : (K : Field) → Table K → One K → One K → Type 0
Agree1 K T f g = (i : ℕ) → i < length T.basis → f i ≡ g i

abbrev pub Agree2 : (K : Field) → Table K → Two K → Two K → Type 0
Agree2 K T f g = (i j : ℕ) → i < length T.basis → j < length T.basis → f i j ≡ g i j

pub record IsCocycle1 (K : Field) (T : Table K) (w : ℕ) (f : One K) : Type 0 where
  pub form : IsForm1 K T w f
  pub closes : (i j : ℕ) → i < length T.basis → j < length T.basis → coboundary1 K T f i j ≡ K.nought

pub record IsCocycle2 (K : Field) (T : Table K) (w : ℕ) (f : Two K) : Type 0 where
  pub form : IsForm2 K T w f
  pub closes : (i j k : ℕ) → i < length T.basis → j < length T.basis → k < length T.basis → coboundary2 K T f i j k ≡ K.nought

pub record IsCoboundary2 (K : Field) (T : Table K) (w : ℕ) (f : Two K) : Type 0 where
  pub below : One K
  pub form : IsForm1 K T w below
  pub is : Agree2 K T f (coboundary1 K T below)

unfoldable pub sum1 : (K : Field) → ℕ → (ℕ → K.Carrier) → (ℕ → One K) → One K
sum1 K zero c f i = K.nought
sum1 K (suc n) c f i = K.plus (sum1 K n c f i) (K.times (c n) (f n i))

unfoldable pub sum2 : (K : Field) → ℕ → (ℕ → K.Carrier) → (ℕ → Two K) → Two K
sum2 K zero c f i j = K.nought
sum2 K (suc n) c f i j = K.plus (sum2 K n c f i j) (K.times (c n) (f n i j))

pub record RepresentsH1 (K : Field) (T : Table K) (w count : ℕ) (rep : ℕ → One K) : Type 0 where
  pub within : (k : ℕ) → k < count → IsCocycle1 K T w (rep k)
  pub whole : (f : One K) → IsCocycle1 K T w f → (c : ℕ → K.Carrier) × Agree1 K T f (sum1 K count c rep)
  pub unique : (c : ℕ → K.Carrier) → Agree1 K T (sum1 K count c rep) (λ i. K.nought) → (k : ℕ) → k < count → c k ≡ K.nought

pub record RepresentsH2 (K : Field) (T : Table K) (w count : ℕ) (rep : ℕ → Two K) : Type 0 where
  pub within : (k : ℕ) → k < count → IsCocycle2 K T w (rep k)
  pub whole : (f : Two K) → IsCocycle2 K T w f →
      (c : ℕ → K.Carrier) × (b : Two K) × IsCoboundary2 K T w b × Agree2 K T f (λ i j. K.plus (sum2 K count c rep i j) (b i j))
  pub unique : (c : ℕ → K.Carrier) → IsCoboundary2 K T w (sum2 K count c rep) → (k : ℕ) → k < count → c k ≡ K.nought
