-- Polys of code: words of basis numbers from 1, with their numbers.
--
--   word_of word             the word of numbers from 0
--   poly_of kind u           the poly that u stands for
--   spelled T w k            word k of weight w, with numbers from 1
--   IsWordIn T word          a word over the basis
--   weight_in T word         its weight
--   IsTermIn T m             such a word of at most the table's weight, with a number of the table's field
--   IsPolyIn T u             such terms
--   AreFactors T u v         two such polys, where a word of the one and a word of the other weigh at most the table's weight together
--   part_of T w m            what the letters of a term's word give on the empty word, times its number, where the word has weight w; else 0
--   row_terms name s row     the numbers of a row that aren't 0, with the names of their places, the first at place s
use Rattle.std.specs.Prelude.{ℕ, suc, pred, ◌≤◌, ◌+◌, List, [], ◌∷◌, ◌++◌, length, map, All, cond, nat_eq, if◌then◌else◌}
use Rattle.fpl_numbers.specs.declared.number.Num.{Num}
use Rattle.fpl_numbers.specs.declared.number.Kind.{Kind}
use Rattle.fpl_numbers.specs.Numbers.{IsElement, is_nought}
use Rattle.fpl_numbers.specs.Kinds.{field_of, number_of}
use Rattle.math_words.specs.Words.{Word, word_weight}
use Rattle.math_words.specs.Action.{straight}
use Rattle.math_words.specs.Envelope.{Value}
use Rattle.math_words.specs.Polys.{Poly}
use Rattle.fpl_table.specs.Plain.{PlainTable}
use Rattle.fpl_envelope.specs.Counts.{word_in}
use Rattle.fpl_envelope.specs.Action.{field_in, math_in, number_in}

abbrev pub word_of : List ℕ → Word
word_of word = map pred word

abbrev pub poly_of : (kind : Kind) → List (List ℕ × Num) → Poly (field_of kind)
poly_of kind u = map (λ m. (word_of m.0, number_of kind m.1)) u

abbrev pub spelled : PlainTable → ℕ → ℕ → List ℕ
spelled T w k = map suc (word_in T w k)

abbrev pub IsWordIn : PlainTable → List ℕ → Type 0
IsWordIn T word = All (λ i. (1 ≤ i) × (i ≤ length T.basis)) word

abbrev pub weight_in : PlainTable → List ℕ → ℕ
weight_in T word = word_weight (math_in T) (word_of word)

pub record IsTermIn (T : PlainTable) (m : List ℕ × Num) : Type 0 where
  pub word : IsWordIn T m.0
  pub light : weight_in T m.0 ≤ T.weight
  pub number : IsElement T.kind m.1

abbrev pub IsPolyIn : PlainTable → List (List ℕ × Num) → Type 0
IsPolyIn T u = All (IsTermIn T) u

pub record AreFactors (T : PlainTable) (u v : List (List ℕ × Num)) : Type 0 where
  pub left : IsPolyIn T u
  pub right : IsPolyIn T v
  pub light : All (λ m. All (λ n. weight_in T m.0 + weight_in T n.0 ≤ T.weight) v) u

abbrev pub part_of : (T : PlainTable) → ℕ → List ℕ × Num → Value (field_in T)
part_of T w m f =
    cond (nat_eq (weight_in T m.0) w) ((field_in T).times (number_in T m.1) (straight (field_in T) (math_in T) (word_of m.0) f)) (field_in T).nought

abbrev pub term_if : List ℕ → Num → List (List ℕ × Num)
term_if word c = if is_nought c then [] else ((word, c) ∷ [])

abbrev pub row_terms : (name : ℕ → List ℕ) (place : ℕ) → List Num → List (List ℕ × Num)
row_terms name s [] = []
row_terms name s (c ∷ cs) = term_if (name s) c ++ row_terms name (s + 1) cs
