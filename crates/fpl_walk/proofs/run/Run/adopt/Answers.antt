use Rattle.std.proofs.Common.{◌≡◌, ◌+◌, ◌<◌, ◌∙◌, ℕ, suc, Ok, Err, ap, sym, subst, arith}
use Rattle.std.specs.Prelude.{IsErrOf, slice_range}
use Rattle.fpl_numbers.specs.declared.number.Num.{Num}
use Rattle.fpl_numbers.specs.declared.number.Op.{Op}
use Rattle.fpl_model.specs.declared.presentation.Presentation.{Presentation}
use Rattle.fpl_table.specs.Standard.{count_through}
use Rattle.fpl_check.specs.declared.fault.Spot.{Spot}
use Rattle.fpl_check.specs.declared.fault.Why.{Why}
use Rattle.fpl_check.specs.Refusal.{bad, unfit}
use Rattle.fpl_check.specs.Check.{check_of}
use Rattle.fpl_complete.specs.declared.fault.RaiseFault.TheVariants.{Limit, Overflow}
use Rattle.fpl_complete.specs.declared.fault.AdoptFault.TheVariants.{Raise, Bad}
use Rattle.fpl_complete.specs.State.{unfit_of}
use Rattle.fpl_bytes.specs.Numbers.{version_of}
use Rattle.fpl_section_bytes.specs.Reading.{payload_at}
use Rattle.fpl_walk.specs.Walk.{next_weight}
use Rattle.fpl_walk.specs.declared.stop.Stop.TheVariants.{Overflow as Stopped}
use Rattle.fpl_walk.specs.Stops.{PlainRun}
use Rattle.fpl_walk.proofs.Stopping.{adopting_stops, adopt_overflows}
use Rattle.fpl_walk.proofs.run.Run.adopt.Goals as goal

pub returns-in-Err-clause-stop : goal.returns-in-Err-clause-stop
returns-in-Err-clause-stop g c =
    let run = c.args.self.now in
    let fault = c.in-Err.fault in
    let n = c.in-Err.ensures in
    let s = c.in-Ok.section in
    let bytes = slice_range c.args.bytes.now c.args.from c.args.to in
    let at : c.weight-weight.result + 1 ≡ suc c.self.inside.state.table.weight = (let v = c.weight-weight.ensures.value in omega (arith, v)) in
    let first = subst (λ (p : Presentation). payload_at (version_of c.self.inside.version) p.field
    (c.weight-weight.result + 1) c.args.to bytes ≡ Ok s) c.presentation.ensures.same c.in-Ok.ensures.exact in
    let second = subst (λ (w : ℕ). payload_at (version_of c.self.inside.version) c.self.inside.state.presentation.field w c.args.to bytes ≡ Ok s) at first in
    let payload = subst (λ (r : PlainRun). payload_at (version_of r.version) r.presentation.field
    (next_weight r.stage) c.args.to bytes ≡ Ok s) c.self.view_is second in
    let stops = adopting_stops run.presentation run.stage s c.args.to c.args.entries fault c.requires.within
    (subst (λ (r : PlainRun). (w k : ℕ) → IsErrOf {T = Unit {0}} (Err fault) (Raise (Limit w k)) → (w ≡ r.stage.table.weight + 1) ×
    (k ≡ count_through r.stage.table w) × (c.args.entries < k)) c.self.view_is (λ w k e. (n.limit w k).0 e))
    (subst (λ (r : PlainRun). (w : ℕ) (spot : Spot) (why : Why) → IsErrOf {T = Unit {0}} (Err fault) (Bad w spot why) →
    (w ≡ r.stage.table.weight + 1) × (check_of r.stage.table r.presentation s ≡ Err (bad spot why))) c.self.view_is
    (λ w spot why e. let h = n.bad w spot why e in (h.0, h.1)))
    (subst (λ (r : PlainRun). (w : ℕ) (op : Op) (a b : Num) → IsErrOf {T = Unit {0}} (Err fault) (Raise (Overflow w op a b)) →
    (w ≡ r.stage.table.weight + 1) × (check_of r.stage.table r.presentation s ≡ Err (unfit (unfit_of op a b)))) c.self.view_is
    (λ w op a b e. let h = n.overflow w op a b e in (h.0, h.1))) in
    rw c.stop_from.ensures (rw payload stops)

pub returns-in-Err-clause-fractions : goal.returns-in-Err-clause-fractions
returns-in-Err-clause-fractions g c = λ w op a b e.
    ap (λ (r : PlainRun). r.presentation.field) (sym c.self.view_is)
    ∙ adopt_overflows c.in-Err.fault c.in-Err.ensures.fractions w op a b (subst (λ s. IsErrOf {T = Unit {0}} (Err s) (Stopped w op a b)) c.stop_from.ensures e)
