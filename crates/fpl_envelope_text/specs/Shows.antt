-- What the text of the view envelope says.
--
--   read k m             a line's product, with its numbers as those of the field
--   IsWrittenOut k m     the numbers of a line are canonical
--   ShowsEnvelope T text the text counts, for each weight of T from 1 on, the even and the odd ordered words; and it lists, in order, each product of a basis
--                        element and an ordered word that isn't ordered, of weight at most T's, with its straight form: a combination of ordered words,
--                        ascending, with no number 0, which equals the product in the enveloping superalgebra of T. There is one such form
--   EnvelopeShows        the plain run gives such a text
use Rattle.std.specs.Prelude.{ℕ, ◌≡◌, ◌≤◌, List, map, All}
use Rattle.fpl_numbers.specs.declared.number.Kind.{Kind}
use Rattle.fpl_numbers.specs.Numbers.{IsElement}
use Rattle.fpl_numbers.specs.Kinds.{field_of, number_of}
use Rattle.math_words.specs.Words.{Word}
use Rattle.plain_envelope.specs.Laws.{AreWordsOf}
use Rattle.plain_envelope.specs.Products.{Product}
use Rattle.plain_envelope.specs.ProductLaws.{AreProductsThrough}
use Rattle.fpl_table.specs.Plain.{PlainTable, table_in}
use Rattle.fpl_table.specs.Shape.{HasShape}
use Rattle.fpl_envelope.specs.Action.{IsEnveloped}
use Rattle.fpl_envelope_text.specs.Texts.{Line, whole_text}
use Rattle.fpl_envelope_text.specs.Plain.{envelope_text}

abbrev pub read : (k : Kind) → Line → Product (field_of k)
read k m = record { first = m.first; word = m.word; form = map (λ t. (t.0, number_of k t.1)) m.form }

abbrev pub IsWrittenOut : Kind → Line → Type 0
IsWrittenOut k m = All (λ t. IsElement k t.1) m.form

pub record ShowsEnvelope (T : PlainTable) (text : List ℕ) : Type 0 where
  pub words : ℕ → List Word
  pub are_words : (w : ℕ) → 1 ≤ w → w ≤ T.weight → AreWordsOf (table_in T.kind T) w (words w)
  pub products : List Line
  pub written_out : All (IsWrittenOut T.kind) products
  pub are_products : AreProductsThrough (field_of T.kind) (table_in T.kind T) T.weight (map (read T.kind) products)
  pub is : text ≡ whole_text T words products

abbrev pub EnvelopeShows : Type 0
EnvelopeShows = (T : PlainTable) → IsEnveloped T → HasShape T → ShowsEnvelope T (envelope_text T)
