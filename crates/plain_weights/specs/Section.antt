-- What is kept of the section of a weight, and what computing a weight of a presentation gives.
--
--   slimmed T p s             a section of the weight after T's as it is kept: without the steps of dependent origins, and with the number of origins
--   coefficient s c           the number c at symbol s
--   coefficients_from s row   the numbers of a row that are not 0, each with its symbol, the first place being symbol s
--   closed_list rows          closed rows, each as its coefficients, with symbols from 1
--   section_of T p h          the section of closed rows and the steps that made them, slimmed
--   section_after T p         that of the weight after the table's, or the first operation that does not fit
--   Computes p w r            computing weight w of p gives r: its section, or the first operation that does not fit
--   FitsAt p w                each operation in computing weight w of p fits
--   OverflowsAt p w u         u is the first one that does not
--   ComputesOne               computing a weight gives one thing
--   ComputesOverPrimes        over a prime no operation is refused
use Rattle.std.specs.Prelude.{ℕ, suc, ◌≡◌, ◌+◌, List, [], ◌∷◌, length, map, Some, Result, Ok, Err, if◌then◌else◌}
use Rattle.fpl_numbers.specs.declared.number.Num.{Num}
use Rattle.fpl_numbers.specs.declared.number.Unfit.{Unfit}
use Rattle.fpl_numbers.specs.declared.number.Kind.TheVariants.{Prime}
use Rattle.fpl_numbers.specs.Numbers.{is_nought}
use Rattle.fpl_numbers.specs.Results.{map_ok}
use Rattle.fpl_log.specs.declared.closed.Coefficient.{Coefficient}
use Rattle.fpl_log.specs.declared.section.Section.{Section}
use Rattle.fpl_log.specs.Slim.{slim_steps}
use Rattle.plain_elimination.specs.Plain.{Held, rows_of}
use Rattle.fpl_model.specs.declared.presentation.Presentation.{Presentation}
use Rattle.fpl_model.specs.Sound.{IsSound}
use Rattle.fpl_table.specs.Plain.{PlainTable}
use Rattle.fpl_rewrite.specs.Origins.{origins_of}
use Rattle.plain_tables.specs.Raised.{IsRaised}
use Rattle.plain_weights.specs.Weight.{close_weight}

abbrev pub slimmed : PlainTable → Presentation → Section → Section
slimmed T p s = record { weight = s.weight; origins = Some (length (origins_of T p)); steps = slim_steps [] 0 s.steps; closed = s.closed }

abbrev pub coefficient : ℕ → Num → Coefficient
coefficient s c = record { symbol = s; number = c }

abbrev pub coefficients_from : ℕ → List Num → List Coefficient
coefficients_from s [] = []
coefficients_from s (c ∷ cs) = if is_nought c then coefficients_from (s + 1) cs else coefficient s c ∷ coefficients_from (s + 1) cs

abbrev pub closed_list : List (List Num) → List (List Coefficient)
closed_list rows = map (λ row. coefficients_from 1 row) rows

abbrev pub section_of : PlainTable → Presentation → Held → Section
section_of T p h = record {
  weight = suc T.weight;
  origins = Some (length (origins_of T p));
  steps = slim_steps [] 0 h.steps;
  closed = closed_list (rows_of h.pivots);
}

abbrev pub section_after : PlainTable → Presentation → Result Section Unfit
section_after T p = map_ok (section_of T p) (close_weight T p)

pub record Computes (p : Presentation) (w : ℕ) (r : Result Section Unfit) : Type 0 where
  pub table : PlainTable
  pub raised : IsRaised p table
  pub below : suc table.weight ≡ w
  pub gives : section_after table p ≡ r

abbrev pub FitsAt : Presentation → ℕ → Type 0
FitsAt p w = (s : Section) × Computes p w (Ok s)

abbrev pub OverflowsAt : Presentation → ℕ → Unfit → Type 0
OverflowsAt p w u = Computes p w (Err u)

abbrev pub ComputesOne : Type 0
ComputesOne = (p : Presentation) (w : ℕ) (r s : Result Section Unfit) → IsSound p → Computes p w r → Computes p w s → r ≡ s

abbrev pub ComputesOverPrimes : Type 0
ComputesOverPrimes = (n : ℕ) (p : Presentation) (w : ℕ) (u : Unfit) → p.field ≡ Prime n → OverflowsAt p w u → ⊥
