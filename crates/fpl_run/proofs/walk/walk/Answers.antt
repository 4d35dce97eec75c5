use Rattle.std.proofs.Common.{◌≡◌, ◌≤◌, ◌<◌, false, inl, ap, ◌∙◌, arith, rules}
use Rattle.fpl_walk.specs.Stops.{PlainRun, stored_in}
use Rattle.fpl_run.specs.Task.{does_compute}
use Rattle.fpl_run.proofs.Walks.{step_raises, walk_left, cost_left, cost_stops, walk_over, cost_there, added_there, ended_there, failed_there, ended_here, failed_here}
use Rattle.fpl_run.proofs.walk.walk.Goals as goal

pub weights-preserved : goal.weights-preserved
weights-preserved g c =
    let start = c.args.run.now in
    let run = c.weights.run in
    let new = c.add_weight.new.run in
    let i = c.weights.invariant in
    let n = c.in-Ok-true.ensures in
    let computes = does_compute c.args.task.way in
    let entries = c.args.task.entries in
    let limit = c.args.task.limit in
    let at = stored_in start c.args.bytes.now in
    let low : run.stage.table.weight < limit = omega (arith, c.weights-test.true, c.weight.ensures) in
    let step = added_there computes entries start run c.args.bytes.now i.presentation i.version c.in-Ok-true.field-0 new.stage c.in-Ok-true.field-0-test
    n.adds in
    let up = step_raises computes entries start.presentation at run.stage new.stage step in
    let same = cost_there computes entries start run c.args.bytes.now i.presentation i.version in
    let rest = cost_left computes entries start.presentation at limit run.stage new.stage low step in
    record {
      presentation = n.presentation ∙ i.presentation;
      version = n.version ∙ i.version;
      within = omega (arith, up, low);
      left = i.left ∙ walk_left computes entries start.presentation at limit run.stage new.stage low step;
      later = omega (arith, i.later, n.most.0);
      cost = omega (arith, i.cost, rest, same, n.most.1);
    }

pub weights-smaller : goal.weights-smaller
weights-smaller g c =
    let start = c.args.run.now in
    let run = c.weights.run in
    let new = c.add_weight.new.run in
    let i = c.weights.invariant in
    let computes = does_compute c.args.task.way in
    let entries = c.args.task.entries in
    let step = added_there computes entries start run c.args.bytes.now i.presentation i.version c.in-Ok-true.field-0 new.stage c.in-Ok-true.field-0-test
    c.in-Ok-true.ensures.adds in
    omega (
      arith,
      step_raises computes entries start.presentation (stored_in start c.args.bytes.now) run.stage new.stage step,
      c.weights-test.true,
      c.weight.ensures,
    )

pub returns-in-Ok-false-clause-comes : goal.returns-in-Ok-false-clause-comes
returns-in-Ok-false-clause-comes g c =
    let start = c.args.run.now in
    let run = c.weights.run in
    let i = c.weights.invariant in
    let computes = does_compute c.args.task.way in
    let entries = c.args.task.entries in
    let low : run.stage.table.weight < c.args.task.limit = omega (arith, c.weights-test.true, c.weight.ensures) in
    let no : c.in-Ok-false.field-0 ≡ false = search rules in
    let over = ended_there computes entries start run c.args.bytes.now i.presentation i.version c.in-Ok-false.field-0 c.add_weight.new.run.stage no
    c.in-Ok-false.ensures.adds in
    ended_here computes entries start.presentation (stored_in start c.args.bytes.now) c.args.task.limit run.stage c.add_weight.new.run.stage _
    over.1 i.left low over.0

pub returns-in-Ok-false-clause-cost : goal.returns-in-Ok-false-clause-cost
returns-in-Ok-false-clause-cost g c =
    let start = c.args.run.now in
    let run = c.weights.run in
    let i = c.weights.invariant in
    let computes = does_compute c.args.task.way in
    let low : run.stage.table.weight < c.args.task.limit = omega (arith, c.weights-test.true, c.weight.ensures) in
    let same = cost_there computes c.args.task.entries start run c.args.bytes.now i.presentation i.version in
    let rest = cost_stops computes c.args.task.entries start.presentation (stored_in start c.args.bytes.now) c.args.task.limit run.stage low in
    omega (arith, i.cost, rest, same, c.in-Ok-false.ensures.most.1)

pub returns-in-Err-clause-fails : goal.returns-in-Err-clause-fails
returns-in-Err-clause-fails g c =
    let start = c.args.run.now in
    let run = c.weights.run in
    let i = c.weights.invariant in
    let computes = does_compute c.args.task.way in
    let entries = c.args.task.entries in
    let low : run.stage.table.weight < c.args.task.limit = omega (arith, c.weights-test.true, c.weight.ensures) in
    failed_here computes entries start.presentation (stored_in start c.args.bytes.now) c.args.task.limit run.stage c.add_weight.new.run.stage _
    (ap (λ (x : PlainRun). x.stage) c.in-Err.ensures.unchanged) i.left low _
    (failed_there computes entries start run c.args.bytes.now i.presentation i.version _ c.in-Err.ensures.fails)

pub returns-in-Err-clause-cost : goal.returns-in-Err-clause-cost
returns-in-Err-clause-cost g c =
    let start = c.args.run.now in
    let run = c.weights.run in
    let i = c.weights.invariant in
    let computes = does_compute c.args.task.way in
    let low : run.stage.table.weight < c.args.task.limit = omega (arith, c.weights-test.true, c.weight.ensures) in
    let same = cost_there computes c.args.task.entries start run c.args.bytes.now i.presentation i.version in
    let rest = cost_stops computes c.args.task.entries start.presentation (stored_in start c.args.bytes.now) c.args.task.limit run.stage low in
    omega (arith, i.cost, rest, same, c.in-Err.ensures.most.1)

pub returns-clause-comes : goal.returns-clause-comes
returns-clause-comes g c =
    let start = c.args.run.now in
    let over : c.args.task.limit ≤ c.weights.run.stage.table.weight = omega (arith, c.weights-test.false, c.weight.ensures) in
    inl (c.weights.invariant.left ∙ walk_over (does_compute c.args.task.way) c.args.task.entries start.presentation
    (stored_in start c.args.bytes.now) c.args.task.limit c.weights.run.stage over)
