-- The plain run of a weight: exact numbers of any size, or the first operation that does not fit.
--
--   begun T               an elimination over the symbols of the weight after the table's, with no row
--   put_of T p o e        the row of an origin, formed and inserted
--   gather T p os e       the rows of origins, in order, each formed and inserted
--   again T p rows os x   the rows of origins formed once more, each swept by closed rows; x where all fits
--   close_weight T p      the closed rows of the weight and the steps that made them: all origins gathered, closed, and swept again
--   next_of T p           the table with one weight more
--
-- Over a prime all operations fit, so that forming and sweeping the origins again changes nothing there.
use Rattle.std.specs.Prelude.{List, [], ◌∷◌, length, Result, Ok}
use Rattle.fpl_numbers.specs.declared.number.Num.{Num}
use Rattle.fpl_numbers.specs.declared.number.Unfit.{Unfit}
use Rattle.fpl_numbers.specs.Results.{map_ok, and_then}
use Rattle.fpl_log.specs.declared.step.Origin.{Origin}
use Rattle.plain_elimination.specs.Plain.{Elimination, Held, insert_of, close_of, rows_of, sweep_rows}
use Rattle.fpl_model.specs.declared.presentation.Presentation.{Presentation}
use Rattle.fpl_table.specs.Plain.{PlainTable, symbols_in}
use Rattle.fpl_table.specs.Push.{push_of}
use Rattle.fpl_rewrite.specs.Origins.{origins_of}
use Rattle.fpl_rewrite.specs.Rows.{row_of_origin}

abbrev pub begun : PlainTable → Elimination
begun T = record { kind = T.kind; size = length (symbols_in T); held = record { pivots = []; steps = [] } }

abbrev pub with_held : Elimination → Held → Elimination
with_held e held = record { kind = e.kind; size = e.size; held = held }

abbrev pub put_of : PlainTable → Presentation → Origin → Elimination → Result Elimination Unfit
put_of T p o e = and_then (λ row. map_ok (λ x. with_held e x.held) (insert_of e row o)) (row_of_origin T p o)

abbrev pub gather : PlainTable → Presentation → List Origin → Elimination → Result Elimination Unfit
gather T p [] e = Ok e
gather T p (o ∷ os) e = and_then (λ f. gather T p os f) (put_of T p o e)

abbrev pub again : {A : Type 0} → PlainTable → Presentation → List (List Num) → List Origin → A → Result A Unfit
again T p rows [] x = Ok x
again T p rows (o ∷ os) x =
    and_then (λ row. and_then (λ left. again T p rows os x) (sweep_rows T.kind rows row)) (row_of_origin T p o)

abbrev pub close_weight : PlainTable → Presentation → Result Held Unfit
close_weight T p =
    and_then (λ e. and_then (λ h. again T p (rows_of h.pivots) (origins_of T p) h) (close_of e)) (gather T p (origins_of T p) (begun T))

abbrev pub next_of : PlainTable → Presentation → Result PlainTable Unfit
next_of T p = map_ok (λ h. push_of T (rows_of h.pivots)) (close_weight T p)
