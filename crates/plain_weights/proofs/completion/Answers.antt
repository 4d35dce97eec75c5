use Rattle.std.specs.Prelude.{suc}
use Rattle.fpl_rows.proofs.Fits.{part_fits}
use mathlib.Core.Path.{sym, subst}
use Rattle.plain_elimination.specs.Plain.{Held, rows_of}
use Rattle.fpl_table.specs.Push.{push_of}
use Rattle.fpl_table.specs.Standard.{IsTableOf}
use Rattle.plain_tables.proofs.Holding.{held_is_table}
use Rattle.plain_sources.proofs.Fitting.{Always, prime_always}
use Rattle.plain_weights.specs.Weight.{close_weight}
use Rattle.plain_weights.proofs.Completed.{weighed_closed, next_holds, next_raised}
use Rattle.plain_weights.proofs.Counts.{counts_pushed}
use Rattle.plain_weights.proofs.Fitting.{close_weight_fits}
use Rattle.plain_weights.proofs.completion.Goals as goal

pub returns : goal.returns
returns c = record {
  next = λ p T h holds below few run. (weighed_closed p T holds h run, next_holds p T holds h run below few);
  raised = λ p T h holds raised run. next_raised p T holds h run raised;
  table = λ p T S holds below few run.
      let f = part_fits {T = Held} (λ h. push_of T (rows_of h.pivots)) (close_weight T p) S run in
      subst (IsTableOf p (suc T.weight)) (sym f.1.1) (held_is_table p (push_of T (rows_of f.0.pivots)) (next_holds p T holds f.0 f.1.0 below few));
  fits = λ n p T kind. close_weight_fits T (subst Always (sym kind) (prime_always n)) p;
  counts = λ T rows w shape l. counts_pushed T shape rows w l;
}
