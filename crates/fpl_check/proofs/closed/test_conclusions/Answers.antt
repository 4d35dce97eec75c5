use Rattle.std.proofs.Common.{◌≡◌, ◌+◌, ◌≤◌, ◌∙◌, sym, ap, subst, arith, suc, drop, length, map}
use Rattle.std.proofs.lemmas.List.{length-map}
use Rattle.std.proofs.lemmas.Option.{slice_get-map}
use Rattle.std.specs.Prelude.{slice_get, Ok}
use Rattle.fpl_check.specs.Refusal.{IsRefusal}
use Rattle.fpl_check.specs.ClosedRows.{stored_row, test_at, test_conclusions}
use Rattle.fpl_check.proofs.Composed.{same_refusal}
use Rattle.fpl_check.proofs.Loops.{conclusions_next, conclusions_stop}
use Rattle.fpl_check.proofs.RowLoops.{conclusions_end}
use Rattle.fpl_check.proofs.closed.test_conclusions.Goals as goal

pub returns-in-Err : goal.returns-in-Err
returns-in-Err g c =
    let xs = map (stored_row c.args.n) c.args.closed.now in
    let at = sym (slice_get-map (stored_row c.args.n) c.args.closed.now c.loop-k.k) in
    same_refusal c.in-Err.fault _ _ c.loop-k.invariant
    (conclusions_stop (c.loop-k.k + 1) c.loop-k.k xs c.args.conclusions.now c.in-Err.fault
    (subst (λ o. IsRefusal c.in-Err.fault (test_at (c.loop-k.k + 1) o (slice_get c.args.conclusions.now c.loop-k.k))) at c.in-Err.ensures))

pub loop-k-preserved : goal.loop-k-preserved
loop-k-preserved g c =
    let xs = map (stored_row c.args.n) c.args.closed.now in
    let next : suc c.loop-k.k ≡ c.loop-k.k + 1 = omega arith in
    let at = sym (slice_get-map (stored_row c.args.n) c.args.closed.now c.loop-k.k) in
    c.loop-k.invariant
    ∙ conclusions_next (c.loop-k.k + 1) c.loop-k.k xs c.args.conclusions.now
    (subst (λ o. test_at (c.loop-k.k + 1) o (slice_get c.args.conclusions.now c.loop-k.k) ≡ Ok tt) at c.in-Ok.ensures)
    ∙ ap (λ i. test_conclusions (c.loop-k.k + 1 + 1) (drop i xs) (drop i c.args.conclusions.now)) next

pub returns : goal.returns
returns g c =
    let xs = map (stored_row c.args.n) c.args.closed.now in
    let long = length-map c.args.closed.now (stored_row c.args.n) in
    let past : length xs ≤ c.loop-k.k = (let e = c.len-k-end.ensures.value in omega (arith, long, c.loop-k-test.false)) in
    c.loop-k.invariant ∙ conclusions_end (c.loop-k.k + 1) c.loop-k.k xs (drop c.loop-k.k c.args.conclusions.now) past
