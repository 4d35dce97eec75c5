-- The text of the view envelope.
--
--   Line                 a basis element in front of a word, both from 0, and a combination of words, with its numbers
--   letter_text          a letter of a word, which count from 1 here, after a dot; its place counts from 0
--   further_text         all of them
--   word_text            the letters of a word, joined by dots
--   name_of u            the name of a word of numbers from 0
--   form_text            the terms of a combination; first says whether none stands before them; 0 where no term stands at all
--   product_line m       bI.WORD = COMBINATION
--   product_lines ms     a line for each
--   weight_line T w us   weight W even A odd B, for the words us
--   whole_text           the field and the weight; the words of each weight, counted by parity; the number of products; the products; the end
use Rattle.std.specs.Prelude.{ℕ, suc, ◌+◌, List, [], ◌∷◌, ◌++◌, length, get_or, map, Bool, true, false, if◌then◌else◌, codes, decimal}
use Rattle.fpl_numbers.specs.declared.number.Num.{Num}
use Rattle.math_fields.specs.Field.{Field}
use Rattle.math_algebra.specs.Table.{Table}
use Rattle.math_words.specs.Words.{Word}
use Rattle.plain_envelope.specs.Products.{even_words, odd_words}
use Rattle.fpl_table.specs.Plain.{PlainTable, table_in}
use Rattle.fpl_print.specs.Combinations.{term_text}
use Rattle.fpl_print.specs.Lines.{head_line, count_line}
use Rattle.fpl_print.specs.SeriesText.{counts_text}
use Rattle.fpl_print.specs.TableText.{text_of}

pub record Line : Type 0 where
  pub first : ℕ
  pub word : Word
  pub form : List (Word × Num)

abbrev pub letter_text : List ℕ → ℕ → List ℕ
letter_text letters k = codes ".b" ++ decimal (get_or letters k 0)

abbrev pub further_text : List ℕ → List ℕ
further_text letters = text_of (length letters) (letter_text letters)

abbrev pub word_text : List ℕ → List ℕ
word_text [] = []
word_text (i ∷ letters) = codes "b" ++ decimal i ++ further_text letters

abbrev pub name_of : Word → List ℕ
name_of u = word_text (map suc u)

abbrev pub form_text : (first : Bool) → List (Word × Num) → List ℕ
form_text first [] = if first then codes "0" else []
form_text first (m ∷ form) = term_text first m.1 (name_of m.0) ++ form_text false form

abbrev pub product_line : Line → List ℕ
product_line m = name_of (m.first ∷ m.word) ++ codes " = " ++ form_text true m.form ++ codes "\n"

abbrev pub product_lines : List Line → List ℕ
product_lines [] = []
product_lines (m ∷ ms) = product_line m ++ product_lines ms

abbrev pub weight_line : {K : Field} → Table K → ℕ → List Word → List ℕ
weight_line T w us = codes "weight " ++ decimal w ++ counts_text (even_words T us) (odd_words T us)

abbrev pub whole_text : PlainTable → (words : ℕ → List Word) → (products : List Line) → List ℕ
whole_text T words products =
    head_line (codes "envelope") T.kind T.weight ++ text_of T.weight (λ v. weight_line (table_in T.kind T) (v + 1) (words (v + 1)))
    ++ count_line (codes "products ") (length products) ++ product_lines products ++ codes "end\n"
