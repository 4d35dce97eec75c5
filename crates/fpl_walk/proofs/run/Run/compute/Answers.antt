use Rattle.std.proofs.Common.{◌≡◌, ◌+◌, ◌<◌, ◌∙◌, ℕ, Err, true, ap, sym, subst, rules}
use Rattle.std.specs.Prelude.{IsErrOf}
use Rattle.fpl_numbers.specs.declared.number.Num.{Num}
use Rattle.fpl_numbers.specs.declared.number.Op.{Op}
use Rattle.fpl_table.specs.Standard.{count_through}
use Rattle.plain_weights.specs.Weight.{close_weight}
use Rattle.fpl_complete.specs.declared.fault.RaiseFault.TheVariants.{Limit, Overflow}
use Rattle.fpl_complete.specs.State.{unfit_of}
use Rattle.fpl_walk.specs.declared.stop.Stop.TheVariants.{Overflow as Stopped}
use Rattle.fpl_walk.specs.Stops.{PlainRun}
use Rattle.fpl_walk.proofs.Stopping.{computing_stops, raise_overflows}
use Rattle.fpl_walk.proofs.run.Run.compute.Goals as goal

pub returns-in-Err-clause-stop : goal.returns-in-Err-clause-stop
returns-in-Err-clause-stop g c =
    let run = c.args.self.now in
    let fault = c.in-Err.fault in
    let n = c.in-Err.ensures in
    let computes : c.args.computes ≡ true = search rules in
    let stops = computing_stops run.presentation run.stage c.args.entries fault c.requires.within
    (subst (λ (r : PlainRun). (w k : ℕ) → IsErrOf {T = Unit {0}} (Err fault) (Limit w k) → (w ≡ r.stage.table.weight + 1) ×
    (k ≡ count_through r.stage.table w) × (c.args.entries < k)) c.self.view_is (λ w k e. (n.limit w k).0 e))
    (subst (λ (r : PlainRun). (w : ℕ) (op : Op) (a b : Num) → IsErrOf {T = Unit {0}} (Err fault) (Overflow w op a b) →
    w ≡ r.stage.table.weight + 1) c.self.view_is (λ w op a b e. (n.overflow w op a b e).0))
    (subst (λ (r : PlainRun). (w : ℕ) (op : Op) (a b : Num) → IsErrOf {T = Unit {0}} (Err fault) (Overflow w op a b) →
    close_weight r.stage.table r.presentation ≡ Err (unfit_of op a b)) c.self.view_is (λ w op a b e. n.refused w op a b e))
    c.args.computes computes in
    rw c.stop_for.ensures stops

pub returns-in-Err-clause-fractions : goal.returns-in-Err-clause-fractions
returns-in-Err-clause-fractions g c = λ w op a b e.
    ap (λ (r : PlainRun). r.presentation.field) (sym c.self.view_is)
    ∙ raise_overflows c.in-Err.fault c.in-Err.ensures.fractions w op a b (subst (λ s. IsErrOf {T = Unit {0}} (Err s) (Stopped w op a b)) c.stop_for.ensures e)
