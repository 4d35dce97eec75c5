-- What the listed products are, over a field K, where the table obeys the law of a presentation and each basis element weighs at least 1.
--
--   no_product            what stands past the last product of a list
--   product_weight        the weight of a product: that of its word with the basis element in front
--   IsProduct             a basis element in front of an ordered word, which isn't ordered together, of weight at most d, with its straight form in the
--                         enveloping superalgebra through d
--   IsEarlier             the order of products: by weight, then by basis element, then by word
--   AreProductsThrough    a list has exactly the products of weight at most d, in their order
--   ProductsAreListed     products_through is such a list
use Rattle.std.specs.Prelude.{ℕ, List, [], ◌∷◌, ◌≡◌, ◌<◌, ◌≤◌, ◌⊎◌, length, get_or}
use Rattle.math_fields.specs.Field.{Field}
use Rattle.math_algebra.specs.Tree.{Presentation}
use Rattle.math_algebra.specs.Table.{Table, ObeysLaw}
use Rattle.math_words.specs.Words.{Word, word_weight, IsOrdered, IsLess}
use Rattle.math_words.specs.Polys.{IsStraight}
use Rattle.plain_envelope.specs.Listing.{IsWeighted}
use Rattle.plain_envelope.specs.Products.{Product, products_through}

abbrev pub no_product : (K : Field) → Product K
no_product K = record { first = 0; word = []; form = [] }

abbrev pub product_weight : {K : Field} → Table K → Product K → ℕ
product_weight T m = word_weight T (m.first ∷ m.word)

pub record IsProduct (K : Field) (T : Table K) (d : ℕ) (m : Product K) : Type 0 where
  pub first_in : m.first < length T.basis
  pub ordered : IsOrdered T m.word
  pub not_ordered : IsOrdered T (m.first ∷ m.word) → ⊥
  pub light : product_weight T m ≤ d
  pub straight : IsStraight K T d ((m.first ∷ m.word, K.unit) ∷ []) m.form

abbrev pub IsEarlier : {K : Field} → Table K → Product K → Product K → Type 0
IsEarlier T m n =
    (product_weight T m < product_weight T n)
    ⊎ ((product_weight T m ≡ product_weight T n) × ((m.first < n.first) ⊎ ((m.first ≡ n.first) × IsLess m.word n.word)))

pub record AreProductsThrough (K : Field) (T : Table K) (d : ℕ) (ms : List (Product K)) : Type 0 where
  pub each : (k : ℕ) → k < length ms → IsProduct K T d (get_or ms k (no_product K))
  pub all : (i : ℕ) (u : Word) → i < length T.basis → IsOrdered T u → (IsOrdered T (i ∷ u) → ⊥) → word_weight T (i ∷ u) ≤ d →
      (k : ℕ) × (k < length ms) × ((get_or ms k (no_product K)).first ≡ i) × ((get_or ms k (no_product K)).word ≡ u)
  pub ascending : (k l : ℕ) → k < l → l < length ms → IsEarlier T (get_or ms k (no_product K)) (get_or ms l (no_product K))

abbrev pub ProductsAreListed : Field → Type 0
ProductsAreListed K =
    (P : Presentation K.Carrier) (T : Table K) → ObeysLaw K P T → IsWeighted T → (d : ℕ) → AreProductsThrough K T d (products_through K T d)
