-- Equality in the enveloping superalgebra of a table, through a weight.
--
--   Value        what a combination of words gives for each form
--   IsRelation   w (b_i b_j - (-1)^(|b_i||b_j|) b_j b_i - [b_i,b_j]) w', for words w and w' over the basis, of weight at most d
--   IsNothing    the combinations of these
--   AreEqual     two combinations whose difference is one of these
use Rattle.std.specs.Prelude.{ℕ, ◌∷◌, ◌++◌, ◌≡◌, ◌≤◌, ◌<◌, length}
use Rattle.math_fields.specs.Field.{Field}
use Rattle.math_linear.specs.Kernel.{product_sum}
use Rattle.math_algebra.specs.Derives.{sign}
use Rattle.math_algebra.specs.Table.{Table, parity_at, product}
use Rattle.math_words.specs.Words.{Word, IsWord, word_weight}
use Rattle.math_words.specs.Action.{Form}

abbrev pub Value : Field → Type 0
Value K = Form K → K.Carrier

pub record IsRelation (K : Field) (T : Table K) (d : ℕ) (x : Value K) : Type 0 where
  pub before : Word
  pub first : ℕ
  pub second : ℕ
  pub after : Word
  pub first_in : first < length T.basis
  pub second_in : second < length T.basis
  pub before_in : IsWord T before
  pub after_in : IsWord T after
  pub light : word_weight T (before ++ (first ∷ second ∷ after)) ≤ d
  pub is : (f : Form K) →
      K.plus (x f)
      (K.plus (K.times (sign K (parity_at T first) (parity_at T second)) (f (before ++ (second ∷ first ∷ after))))
      (product_sum K (length T.basis) (λ t. f (before ++ (t ∷ after))) (product K T first second)))
      ≡ f (before ++ (first ∷ second ∷ after))

pub data IsNothing (K : Field) (T : Table K) (d : ℕ) : Value K → Type 0 where
  nothing_relation : (x : Value K) → IsRelation K T d x → IsNothing K T d x
  nothing_none : IsNothing K T d (λ f. K.nought)
  nothing_sum : (x y : Value K) → IsNothing K T d x → IsNothing K T d y → IsNothing K T d (λ f. K.plus (x f) (y f))
  nothing_multiple : (c : K.Carrier) (x : Value K) → IsNothing K T d x → IsNothing K T d (λ f. K.times c (x f))

abbrev pub AreEqual : (K : Field) → Table K → ℕ → Value K → Value K → Type 0
AreEqual K T d x y = IsNothing K T d (λ f. K.plus (x f) (K.minus (y f)))
