-- The text shows the words and products of the enveloping superalgebra.
use Rattle.std.proofs.Common.{ℕ, ◌≡◌, ◌≤◌, List, [], ◌∷◌, map, refl, sym, ap, ap₂, ◌∙◌, subst}
use Rattle.std.proofs.lemmas.List.Elements.{All-nil, All-cons}
use Rattle.std.specs.Prelude.{All}
use Rattle.fpl_numbers.specs.declared.number.Num.{Num}
use Rattle.fpl_numbers.specs.declared.number.Kind.{Kind}
use Rattle.fpl_numbers.specs.Numbers.{IsElement}
use Rattle.fpl_numbers.specs.Kinds.{Number, field_of, number_of}
use Rattle.math_words.specs.Words.{Word}
use Rattle.math_words.specs.Polys.{Poly}
use Rattle.plain_envelope.specs.Products.{Product, products_through}
use Rattle.plain_envelope.specs.ProductLaws.{AreProductsThrough}
use Rattle.plain_envelope.proofs.Words.{words_are_listed}
use Rattle.plain_envelope.proofs.Products.{products_are_listed}
use Rattle.fpl_table.specs.Plain.{PlainTable}
use Rattle.fpl_envelope.specs.Counts.{words_in}
use Rattle.fpl_envelope.specs.Action.{IsOfResidues, field_in, math_in}
use Rattle.fpl_envelope.proofs.CountRows.{weighted}
use Rattle.fpl_envelope_text.specs.Numerals.{numeral}
use Rattle.fpl_envelope_text.specs.Texts.{Line}
use Rattle.fpl_envelope_text.specs.Plain.{written, lines_through}
use Rattle.fpl_envelope_text.specs.Shows.{read, IsWrittenOut, EnvelopeShows}
use Rattle.fpl_envelope_text.proofs.Numerals.{written_is}

module _ (k : Kind) (residues : IsOfResidues k) where
  form_back : (u : Poly (field_of k)) → map (λ (t : Word × Num). (t.0, number_of k t.1)) (map (λ (t : Word × Number k). (t.0, numeral k t.1)) u) ≡ u
  form_back [] = refl
  form_back (m ∷ u) = ap₂ (λ (c : Number k) us. (m.0, c) ∷ us) (written_is k residues m.1).value (form_back u)

  read_back : (ms : List (Product (field_of k))) → map (read k) (map (written k) ms) ≡ ms
  read_back [] = refl
  read_back (m ∷ ms) =
      ap₂ (λ (u : Poly (field_of k)) ns. record { first = m.first; word = m.word; form = u } ∷ ns) (form_back m.form) (read_back ms)

  form_canonical : (u : Poly (field_of k)) → All (λ (t : Word × Num). IsElement k t.1) (map (λ (t : Word × Number k). (t.0, numeral k t.1)) u)
  form_canonical [] = All-nil (λ (t : Word × Num). IsElement k t.1)
  form_canonical (m ∷ u) =
      All-cons (λ (t : Word × Num). IsElement k t.1) (m.0, numeral k m.1) (map (λ (t : Word × Number k). (t.0, numeral k t.1)) u)
      (written_is k residues m.1).element (form_canonical u)

  lines_canonical : (ms : List (Product (field_of k))) → All (IsWrittenOut k) (map (written k) ms)
  lines_canonical [] = All-nil (IsWrittenOut k)
  lines_canonical (m ∷ ms) = All-cons (IsWrittenOut k) (written k m) (map (written k) ms) (form_canonical m.form) (lines_canonical ms)

pub envelope_shows : EnvelopeShows
envelope_shows T has shape = record {
  words = words_in T;
  are_words = λ w l m. words_are_listed (field_in T) (math_in T) (weighted T shape) w;
  products = lines_through T T.weight;
  written_out = lines_canonical T.kind has.residues (products_through (field_in T) (math_in T) T.weight);
  are_products = subst (AreProductsThrough (field_in T) (math_in T) T.weight)
      (sym (read_back T.kind has.residues (products_through (field_in T) (math_in T) T.weight)))
      (products_are_listed (field_in T) has.presentation (math_in T) has.law (weighted T shape) T.weight);
  is = refl;
}
