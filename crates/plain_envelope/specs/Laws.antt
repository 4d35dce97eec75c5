-- What the plain lists of words and polys are, over a field K, where each basis element of the table has a weight of at least 1.
--
--   AreWordsOf               a list has exactly the ordered words of a weight, ascending
--   WordsAreListed           words_of is such a list
--   IsFirstPast              v is the least weight through which there are more than n words, and m is their number
--   LimitIsFirst             word_limit gives it, and nothing exactly where there is none of at most w
--   StraightenedIsStraight   straightened gives the straight form
--   ProductOfValues          the product of polys gives a form what the values give one after the other
--   OneStraightened          two polys are equal in the enveloping superalgebra exactly where straightened gives one poly for both
use Rattle.std.specs.Prelude.{ℕ, List, [], ◌++◌, ◌≡◌, ◌<◌, ◌≤◌, ◌↔◌, length, get_or, Some}
use Rattle.math_fields.specs.Field.{Field}
use Rattle.math_algebra.specs.Tree.{Presentation}
use Rattle.math_algebra.specs.Table.{Table, ObeysLaw}
use Rattle.math_words.specs.Words.{Word, word_weight, IsOrdered, IsLess}
use Rattle.math_words.specs.Action.{Form}
use Rattle.math_words.specs.Envelope.{AreEqual}
use Rattle.math_words.specs.Polys.{Poly, poly_value, IsPolyThrough, IsStraight}
use Rattle.plain_envelope.specs.Listing.{IsWeighted, words_of, count_through, word_limit}
use Rattle.plain_envelope.specs.Straight.{straightened, poly_product}

pub record AreWordsOf {K : Field} (T : Table K) (w : ℕ) (us : List Word) : Type 0 where
  pub ordered : (k : ℕ) → k < length us → IsOrdered T (get_or us k []) × (word_weight T (get_or us k []) ≡ w)
  pub all : (u : Word) → IsOrdered T u → word_weight T u ≡ w → (k : ℕ) × (k < length us) × (get_or us k [] ≡ u)
  pub ascending : (k l : ℕ) → k < l → l < length us → IsLess (get_or us k []) (get_or us l [])

abbrev pub WordsAreListed : Field → Type 0
WordsAreListed K = (T : Table K) → IsWeighted T → (w : ℕ) → AreWordsOf T w (words_of T w)

pub record IsFirstPast {K : Field} (T : Table K) (n w v m : ℕ) : Type 0 where
  pub some : 1 ≤ v
  pub within : v ≤ w
  pub number : m ≡ count_through T v
  pub past : n < m
  pub first : (x : ℕ) → x < v → count_through T x ≤ n

abbrev pub LimitIsFirst : Field → Type 0
LimitIsFirst K =
    (T : Table K) (n w : ℕ) → ((v m : ℕ) → (word_limit T n w ≡ Some (v, m)) ↔ IsFirstPast T n w v m)

abbrev pub StraightenedIsStraight : Field → Type 0
StraightenedIsStraight K =
    (P : Presentation K.Carrier) (T : Table K) → ObeysLaw K P T → IsWeighted T → (d : ℕ) (u : Poly K) → IsPolyThrough K T d u →
    IsStraight K T d u (straightened K T d u)

abbrev pub ProductOfValues : Field → Type 0
ProductOfValues K =
    (u v : Poly K) (f : Form K) → poly_value K (poly_product K u v) f ≡ poly_value K u (λ w. poly_value K v (λ z. f (w ++ z)))

abbrev pub OneStraightened : Field → Type 0
OneStraightened K =
    (P : Presentation K.Carrier) (T : Table K) → ObeysLaw K P T → IsWeighted T → (d : ℕ) (u v : Poly K) → IsPolyThrough K T d u → IsPolyThrough K T d v →
    AreEqual K T d (poly_value K u) (poly_value K v) ↔ (straightened K T d u ≡ straightened K T d v)
