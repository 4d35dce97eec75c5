-- What the plain run of the cohomology of a weight means, in a table of a sound presentation that obeys its law.
--
--   form1, form2      the form that a row over the basis elements, or over the pairs, of a weight stands for
--   RepresentsLow     the rows represent H1 and H2 of the weight: cocycles, of which each cocycle is a combination plus a coboundary, in one way only
--   LowMeans p        what the plain run of a weight gives does
--   HasElements       the numbers of the rows are canonical and fit
--   AreLows           each represents its weight, the first of weight w, the next of the weight after it, and so on
--   LowsMean p        what the plain run of all weights gives does
--   LowsFit           over a prime every operation of the weights up to any fits
use Rattle.std.specs.Prelude.{ℕ, suc, ◌≡◌, ◌≤◌, List, [], ◌∷◌, length, All, Ok}
use Rattle.math_algebra.specs.Table.{of_pair, ObeysLaw}
use Rattle.math_algebra.specs.Symbols.{place_of}
use Rattle.math_cohomology.specs.Forms.{One, Two, RepresentsH1, RepresentsH2}
use Rattle.math_cohomology.specs.Tuples.{one_of, two_of}
use Rattle.fpl_numbers.specs.declared.number.Num.{Num}
use Rattle.fpl_numbers.specs.declared.number.Kind.{Kind}
use Rattle.fpl_numbers.specs.declared.number.Kind.TheVariants.{Prime}
use Rattle.fpl_numbers.specs.Kinds.{field_of}
use Rattle.fpl_scalar.specs.Vectors.{AreElements}
use Rattle.fpl_rows.specs.Meaning.{row_in}
use Rattle.fpl_model.specs.declared.presentation.Presentation.{Presentation}
use Rattle.fpl_model.specs.Meaning.{presentation_in}
use Rattle.fpl_model.specs.Sound.{IsSound}
use Rattle.fpl_table.specs.Plain.{PlainTable, table_in}
use Rattle.plain_sources.specs.Premises.{IsTableFor}
use Rattle.plain_cohomology.specs.Plain.{singles, pairs, single_place, Low, low_of, lows_of}

abbrev pub form1 : (k : Kind) → PlainTable → ℕ → List (List Num) → ℕ → One (field_of k)
form1 k T w rows i = one_of (field_of k) (table_in k T) w (single_place (singles T w)) (row_in k rows i)

abbrev pub form2 : (k : Kind) → PlainTable → ℕ → List (List Num) → ℕ → Two (field_of k)
form2 k T w rows i = two_of (field_of k) (table_in k T) w (λ i j. place_of (of_pair i j) (pairs T w)) (row_in k rows i)

pub record RepresentsLow (k : Kind) (T : PlainTable) (w : ℕ) (low : Low) : Type 0 where
  pub h1 : RepresentsH1 (field_of k) (table_in k T) w (length low.h1) (form1 k T w low.h1)
  pub h2 : RepresentsH2 (field_of k) (table_in k T) w (length low.h2) (form2 k T w low.h2)

abbrev pub LowMeans : Presentation → Type 0
LowMeans p =
    IsSound p → (T : PlainTable) → IsTableFor p T → ObeysLaw (field_of p.field) (presentation_in p) (table_in p.field T) →
    (w : ℕ) → w ≤ T.weight → (low : Low) → low_of T w ≡ Ok low → RepresentsLow p.field T w low

pub record HasElements (k : Kind) (low : Low) : Type 0 where
  pub first : All (AreElements k) low.h1
  pub second : All (AreElements k) low.h2

abbrev pub AreLows : Kind → PlainTable → ℕ → List Low → Type 0
AreLows k T w [] = Unit {0}
AreLows k T w (low ∷ lows) = RepresentsLow k T w low × AreLows k T (suc w) lows

abbrev pub LowsMean : Presentation → Type 0
LowsMean p =
    IsSound p → (T : PlainTable) → IsTableFor p T → ObeysLaw (field_of p.field) (presentation_in p) (table_in p.field T) →
    (lows : List Low) → lows_of T T.weight ≡ Ok lows → (length lows ≡ T.weight) × AreLows p.field T 1 lows

abbrev pub LowsFit : Type 0
LowsFit = (n : ℕ) (T : PlainTable) → T.kind ≡ Prime n → (w : ℕ) → (lows : List Low) × (lows_of T w ≡ Ok lows)
