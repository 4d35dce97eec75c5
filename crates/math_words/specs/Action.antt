-- The left action of basis elements on combinations of ordered words. A combination is told by what it gives for each form: the sum of its numbers times
-- what the form has at its words. So the action of b_i on a word is a number for each form, and no list of words is made.
--
--   Form       a number for each word
--   half       the inverse of 2
--   below      the action of b_i on a word before which it may not stand, from the action A on shorter words. On a word that begins with b_i, which is odd
--              then, it is half the action of [b_i, b_i] on the rest. On one that begins with b_j, j below i, it is (-1)^(|b_i||b_j|) times the action of
--              b_j on what b_i gives on the rest, plus the action of [b_i, b_j] on the rest
--   act        the action of b_i on a word, for words of at most n letters: where it may stand before the word it is put in front
--   action     the action of b_i on a word
--   acts       the action of a combination of basis elements on a word
--   letters    the action of a word's letters on a word, the last letter first
--   straight   the action of a word's letters on the empty word
use Rattle.std.specs.Prelude.{ℕ, zero, suc, [], ◌∷◌, length, cond, nat_eq}
use Rattle.math_fields.specs.Field.{Field}
use Rattle.math_linear.specs.Vector.{Vector}
use Rattle.math_linear.specs.Kernel.{product_sum}
use Rattle.math_algebra.specs.Derives.{sign}
use Rattle.math_algebra.specs.Table.{Table, parity_at, product}
use Rattle.math_words.specs.Words.{Word, may_stand}

abbrev pub Form : Field → Type 0
Form K = Word → K.Carrier

abbrev pub half : (K : Field) → K.Carrier
half K = K.inverse (K.plus K.unit K.unit)

abbrev pub below : (K : Field) → Table K → (ℕ → Word → Form K → K.Carrier) → ℕ → Word → Form K → K.Carrier
below K T A i [] f = K.nought
below K T A i (j ∷ w) f =
    cond (nat_eq i j) (K.times (half K) (product_sum K (length T.basis) (λ t. A t w f) (product K T i i)))
    (K.plus (K.times (sign K (parity_at T i) (parity_at T j)) (A i w (λ u. A j u f)))
    (product_sum K (length T.basis) (λ t. A t w f) (product K T i j)))

unfoldable pub act : (K : Field) → Table K → ℕ → ℕ → Word → Form K → K.Carrier
act K T zero i w f = cond (may_stand T i w) (f (i ∷ w)) K.nought
act K T (suc n) i w f = cond (may_stand T i w) (f (i ∷ w)) (below K T (act K T n) i w f)

unfoldable pub action : (K : Field) → Table K → ℕ → Word → Form K → K.Carrier
action K T i w f = act K T (length w) i w f

unfoldable pub acts : (K : Field) → Table K → Vector K → Word → Form K → K.Carrier
acts K T x w f = product_sum K (length T.basis) (λ t. action K T t w f) x

unfoldable pub letters : (K : Field) → Table K → Word → Word → Form K → K.Carrier
letters K T [] z f = f z
letters K T (i ∷ w) z f = letters K T w z (λ u. action K T i u f)

abbrev pub straight : (K : Field) → Table K → Word → Form K → K.Carrier
straight K T w f = letters K T w [] f
