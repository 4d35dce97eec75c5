-- The conclusion of one step as a plain run: the exact row, or the first operation that does not fit.
--
--   term_row earlier t               the earlier row that a term names
--   terms_off kind earlier v terms   v less each term in order: minus its factor times the row that it names
--   conclude_of                      that, and then times the scale, where there is one
--   IsTermOf kind count t            the term names one of count rows, by a factor that is canonical and fits
--   conclusion_in                    the conclusion over the field of the kind
use Rattle.std.specs.Prelude.{ℕ, ◌-◌, ◌≤◌, map, List, [], ◌∷◌, Option, Some, None, Result, Ok, slice_index_or}
use Rattle.fpl_numbers.specs.declared.number.Num.{Num}
use Rattle.fpl_numbers.specs.declared.number.Kind.{Kind}
use Rattle.fpl_numbers.specs.declared.number.Unfit.{Unfit}
use Rattle.fpl_numbers.specs.Numbers.{IsElement, negative_of}
use Rattle.fpl_numbers.specs.Kinds.{field_of, number_of}
use Rattle.math_linear.specs.Vector.{Vector, scale}
use Rattle.fpl_rows.specs.Meaning.{vector_in}
use Rattle.fpl_log.specs.Conclusion.{less}
use Rattle.fpl_numbers.specs.Results.{and_then}
use Rattle.fpl_scalar.specs.Vectors.{axpy_of, scale_of}
use Rattle.fpl_log.specs.declared.terms.Term.{Term}

abbrev pub term_row : List (List Num) → Term → List Num
term_row earlier t = slice_index_or earlier (t.step - 1) []

abbrev pub terms_off : Kind → List (List Num) → List Num → List Term → Result (List Num) Unfit
terms_off kind earlier v [] = Ok v
terms_off kind earlier v (t ∷ ts) = and_then (λ w. terms_off kind earlier w ts) (axpy_of kind v (negative_of kind t.factor) (term_row earlier t))

abbrev pub scaled_by : Kind → Option Num → List Num → Result (List Num) Unfit
scaled_by kind None v = Ok v
scaled_by kind (Some k) v = scale_of kind k v

abbrev pub conclude_of : Kind → List (List Num) → List Num → List Term → Option Num → Result (List Num) Unfit
conclude_of kind earlier start terms scale = and_then (λ v. scaled_by kind scale v) (terms_off kind earlier start terms)

pub record IsTermOf (kind : Kind) (count : ℕ) (t : Term) : Type 0 where
  pub from_one : 1 ≤ t.step
  pub to_end : t.step ≤ count
  pub factor : IsElement kind t.factor

abbrev pub less_in : (kind : Kind) → List (List Num) → List Num → List Term → Vector (field_of kind)
less_in kind earlier start terms = less (field_of kind) (number_of kind) (map (vector_in kind) earlier) (vector_in kind start) terms

abbrev pub conclusion_in : (kind : Kind) → List (List Num) → List Num → List Term → Option Num → Vector (field_of kind)
conclusion_in kind earlier start terms None = less_in kind earlier start terms
conclusion_in kind earlier start terms (Some k) = scale (field_of kind) (number_of kind k) (less_in kind earlier start terms)
