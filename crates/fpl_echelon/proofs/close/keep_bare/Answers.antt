use Rattle.std.proofs.Common.{◌≡◌, ◌+◌, ◌++◌, ◌∷◌, ◌∙◌, [], ℕ, List, ap, ap₂}
use Rattle.fpl_numbers.specs.declared.number.Num.{Num}
use Rattle.fpl_log.specs.declared.step.Step.TheVariants.{Close}
use Rattle.plain_elimination.specs.Plain.{PivotRow}
use Rattle.fpl_echelon.proofs.Passing.{bare, pivot_at}
use Rattle.fpl_echelon.proofs.close.keep_bare.Goals as goal

pub returns-in-Ok-push-2 : goal.returns-in-Ok-push-2
returns-in-Ok-push-2 g c kind =
    let row : c.in-Ok.row ≡ c.args.pivot.now.row = c.in-Ok.ensures ∙ c.row.ensures in
    bare kind c.args.s c.args.pivot.now (record { pivots = c.args.closed.now; steps = c.args.steps.now }) c.push.new.self c.push-2.new.self c.requires.none
    (c.in-Ok-push.ensures.ok ∙ ap (λ (p : PivotRow). c.args.closed.now ++ p ∷ [])
    (c.of.ensures ∙ ap₂ (λ n (r : List Num). pivot_at (c.args.s + 1) (n + 1) r) c.len.ensures.value row))
    (c.in-Ok-push-2.ensures.ok ∙ ap₂ (λ n ts. c.args.steps.now ++ (Close n ts) ∷ []) c.step.ensures c.new.ensures)
