-- Over a prime no operation of the centre, the series or an ideal is refused.
use Rattle.std.specs.Prelude.{◌≡◌, ℕ, zero, suc, ◌∷◌, [], ◌++◌, List, length, map, Result, Ok, Bool, true, false, nat_eq, cond, is_some}
use mathlib.Core.Path.{sym, refl, subst}
use Rattle.fpl_numbers.specs.declared.number.Num.{Num}
use Rattle.fpl_numbers.specs.declared.number.Kind.{Kind}
use Rattle.fpl_numbers.specs.declared.number.Kind.TheVariants.{Prime}
use Rattle.fpl_numbers.specs.declared.number.Unfit.{Unfit}
use Rattle.fpl_numbers.specs.Results.{and_then}
use Rattle.fpl_rows.specs.Positions.{lead_of}
use Rattle.math_algebra.specs.Tree.{Tree}
use Rattle.fpl_table.specs.Plain.{PlainTable}
use Rattle.fpl_table.specs.Value.{bracket_of, value_of}
use Rattle.plain_sources.specs.PrimeLaws.{DoesFit}
use Rattle.plain_sources.proofs.Fits.{then_fits, map_fits}
use Rattle.plain_sources.proofs.Fitting.{Always, prime_always, if_fits, bracket_fits, value_fits}
use Rattle.plain_spans.specs.Plain.{span_of, kernel_of}
use Rattle.plain_spans.specs.Means.{AreAllFormed}
use Rattle.plain_spans.proofs.Fitting.{all_append, all_formed_map, all_formed_joined, spans_fit, kernels_fit}
use Rattle.plain_structure.specs.Plain.{Rows, size, unit_row, units_to, acts, if_any, if_formed, centre_row, centre_rows_of, centre_rows_at, centre_rows, centre_of, brackets_with, bracket_rows_at, bracket_rows, next_term, before, series_from, lower_central_of, round_of, after_round, rounds_from, ideal_of}
use Rattle.plain_structure.specs.Means.{CentreFits, SeriesFits, IdealFits}

any_formed : (row : List Num) → AreAllFormed (if_any row)
any_formed row = go (is_some (lead_of row))
  where
    go : (b : Bool) → AreAllFormed (cond b (Ok row ∷ []) [])
    go true = tt
    go false = tt

acting_formed : (b : Bool) (rs : List (Result (List Num) Unfit)) → AreAllFormed rs → AreAllFormed (cond b rs [])
acting_formed true rs h = h
acting_formed false rs h = tt

formed_all : (r : Result (List Num) Unfit) → DoesFit r → AreAllFormed (if_formed r)
formed_all r h = subst (λ x. AreAllFormed (if_formed x)) (sym h.1) (any_formed h.0)

module _ (p : ℕ) (T : PlainTable) (prime : T.kind ≡ Prime p) where
  always : Always T.kind
  always = subst Always (sym prime) (prime_always p)

  span_fits : (rs : List (Result (List Num) Unfit)) → AreAllFormed rs → DoesFit (span_of T.kind (size T) rs)
  span_fits rs h = subst (λ k. DoesFit (span_of k (size T) rs)) (sym prime) (spans_fit p (size T) rs h)

  columns_formed : (j : ℕ) → AreAllFormed (centre_rows_at T j)
  columns_formed j = acting_formed (acts T j) (centre_rows_of T j) (all_formed_joined (size T) (λ t. if_any (centre_row T j t))
      (λ t. any_formed (centre_row T j t)))

  pub centre_fits : (rows : Rows) × (centre_of T ≡ Ok rows)
  centre_fits = subst (λ k. DoesFit (kernel_at k)) (sym prime) (kernels_fit p (size T) (centre_rows T)
      (all_formed_joined (size T) (centre_rows_at T) columns_formed))
    where
      kernel_at : Kind → Result Rows Unfit
      kernel_at k = kernel_of k (size T) (centre_rows T)

  with_formed : (i : ℕ) (rows : Rows) → AreAllFormed (brackets_with T i rows)
  with_formed i [] = tt
  with_formed i (r ∷ rs) = all_append (if_formed (bracket_of T (unit_row (size T) i) r)) (brackets_with T i rs)
      (formed_all _ (bracket_fits T always (unit_row (size T) i) r)) (with_formed i rs)

  brackets_formed : (rows : Rows) → AreAllFormed (bracket_rows T rows)
  brackets_formed rows = all_formed_joined (size T) (bracket_rows_at T rows) (λ i. acting_formed (acts T i) (brackets_with T i rows) (with_formed i rows))

  series_fit : (n : ℕ) (rows : Rows) → DoesFit (series_from T n rows)
  series_fit n [] = (_, refl)
  series_fit zero (r ∷ rs) = (_, refl)
  series_fit (suc n) (r ∷ rs) =
      map_fits (before (r ∷ rs)) (and_then (series_from T n) (next_term T (r ∷ rs)))
      (then_fits (series_from T n) (next_term T (r ∷ rs)) (span_fits (bracket_rows T (r ∷ rs)) (brackets_formed (r ∷ rs))) (λ next. series_fit n next))

  pub series_fits : (terms : List Rows) × (lower_central_of T ≡ Ok terms)
  series_fits = series_fit T.weight (units_to (size T) (size T))

  rounds_fit : (n : ℕ) (rows : Rows) → DoesFit (rounds_from T n rows)
  rounds_fit zero rows = (rows, refl)
  rounds_fit (suc n) rows =
      then_fits (after_round (rounds_from T n) rows) (round_of T rows)
      (span_fits (map Ok rows ++ bracket_rows T rows) (all_append (map Ok rows) (bracket_rows T rows) (all_formed_map Ok rows (λ r. (r, refl)))
      (brackets_formed rows)))
      (λ next. if_fits (nat_eq (length next) (length rows)) (Ok next) (rounds_from T n next) (next, refl) (rounds_fit n next))

  pub ideal_fits : (es : List (Tree Num)) → (rows : Rows) × (ideal_of T es ≡ Ok rows)
  ideal_fits es =
      then_fits (rounds_from T (suc (size T))) (span_of T.kind (size T) (map (value_of T) es))
      (span_fits (map (value_of T) es) (all_formed_map (value_of T) es (λ e. value_fits T always e))) (λ rows. rounds_fit (suc (size T)) rows)

pub centres_fit : (p : ℕ) → CentreFits p
centres_fit p T prime = centre_fits p T prime

pub all_series_fit : (p : ℕ) → SeriesFits p
all_series_fit p T prime = series_fits p T prime

pub ideals_fit : (p : ℕ) → IdealFits p
ideals_fit p T es prime = ideal_fits p T prime es
