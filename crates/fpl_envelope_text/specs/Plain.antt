-- The plain run of the view envelope.
--
--   written k m        a product with its numbers as they are written
--   lines_at T w i     the products of b_i that weigh w
--   lines_of T w       those of weight w, by basis element
--   lines_through T d  those of the weights up to d
--   envelope_text T    the text of the words and products through the table's weight
use Rattle.std.specs.Prelude.{ℕ, suc, List, map}
use Rattle.math_linear.specs.Lists.{joined}
use Rattle.fpl_numbers.specs.declared.number.Kind.{Kind}
use Rattle.fpl_numbers.specs.Kinds.{field_of}
use Rattle.plain_envelope.specs.Products.{Product, products_at, products_of, products_through}
use Rattle.fpl_table.specs.Plain.{PlainTable, table_in}
use Rattle.fpl_envelope.specs.Counts.{words_in}
use Rattle.fpl_envelope_text.specs.Numerals.{numeral}
use Rattle.fpl_envelope_text.specs.Texts.{Line, whole_text}

abbrev pub written : (k : Kind) → Product (field_of k) → Line
written k m = record { first = m.first; word = m.word; form = map (λ t. (t.0, numeral k t.1)) m.form }

abbrev pub lines_at : PlainTable → (w i : ℕ) → List Line
lines_at T w i = map (written T.kind) (products_at (field_of T.kind) (table_in T.kind T) w i)

abbrev pub lines_of : PlainTable → ℕ → List Line
lines_of T w = map (written T.kind) (products_of (field_of T.kind) (table_in T.kind T) w)

abbrev pub lines_through : PlainTable → ℕ → List Line
lines_through T d = map (written T.kind) (products_through (field_of T.kind) (table_in T.kind T) d)

abbrev pub envelope_text : PlainTable → List ℕ
envelope_text T = whole_text T (words_in T) (lines_through T T.weight)
