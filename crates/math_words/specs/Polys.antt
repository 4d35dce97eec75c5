-- Combinations of words as lists, and their straight form.
--
--   Poly            words with numbers
--   poly_value      what a poly gives for a form
--   at_word         the form that is 1 at a word, and 0 elsewhere
--   coefficient     the sum of a poly's numbers at a word: what it gives for the form of the word
--   IsPolyThrough   its words are over the basis and have weight at most d
--   IsOrderedPoly   its words are ordered
--   IsBeforeAll     a word that stands before all of a poly's
--   IsAscending     words ascend, and no number is 0
--   IsStraight      r is the straight form of u: its words ascend and are ordered, no number is 0, and it equals u in the enveloping superalgebra
--                   through d
use Rattle.std.specs.Prelude.{ℕ, List, [], ◌∷◌, ◌≢◌, ◌≤◌, cond}
use Rattle.math_fields.specs.Field.{Field}
use Rattle.math_algebra.specs.Table.{Table}
use Rattle.math_words.specs.Words.{Word, IsWord, IsOrdered, word_weight, same_word, IsBefore}
use Rattle.math_words.specs.Action.{Form}
use Rattle.math_words.specs.Envelope.{Value, AreEqual}

abbrev pub Poly : Field → Type 0
Poly K = List (Word × K.Carrier)

unfoldable pub poly_value : (K : Field) → Poly K → Value K
poly_value K [] f = K.nought
poly_value K (m ∷ u) f = K.plus (K.times m.1 (f m.0)) (poly_value K u f)

unfoldable pub at_word : (K : Field) → Word → Form K
at_word K w u = cond (same_word w u) K.unit K.nought

abbrev pub coefficient : (K : Field) → Poly K → Word → K.Carrier
coefficient K u w = poly_value K u (at_word K w)

abbrev pub IsPolyThrough : (K : Field) → Table K → ℕ → Poly K → Type 0
IsPolyThrough K T d [] = Unit {0}
IsPolyThrough K T d (m ∷ u) = (IsWord T m.0) × (word_weight T m.0 ≤ d) × IsPolyThrough K T d u

abbrev pub IsOrderedPoly : (K : Field) → Table K → Poly K → Type 0
IsOrderedPoly K T [] = Unit {0}
IsOrderedPoly K T (m ∷ u) = (IsOrdered T m.0) × IsOrderedPoly K T u

abbrev pub IsBeforeAll : (K : Field) → Table K → Word → Poly K → Type 0
IsBeforeAll K T w [] = Unit {0}
IsBeforeAll K T w (m ∷ u) = (IsBefore T w m.0) × IsBeforeAll K T w u

abbrev pub IsAscending : (K : Field) → Table K → Poly K → Type 0
IsAscending K T [] = Unit {0}
IsAscending K T (m ∷ u) = (m.1 ≢ K.nought) × (IsBeforeAll K T m.0 u) × IsAscending K T u

pub record IsStraight (K : Field) (T : Table K) (d : ℕ) (u r : Poly K) : Type 0 where
  pub ascending : IsAscending K T r
  pub ordered : IsOrderedPoly K T r
  pub equal : AreEqual K T d (poly_value K u) (poly_value K r)
