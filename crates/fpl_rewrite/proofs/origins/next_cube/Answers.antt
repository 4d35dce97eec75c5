use Rattle.std.proofs.Common.{◌≡◌, ◌+◌, ◌/◌, true, false, refl, ◌∙◌, arith}
use Rattle.math_algebra.specs.Symbols.{is_odd}
use Rattle.fpl_rewrite.specs.Origins.{is_three}
use Rattle.fpl_table.specs.Plain.{plain_basis}
use Rattle.fpl_table.proofs.Weights.{leading_within}
use Rattle.fpl_rewrite.proofs.Cubes.{cubes_without, cubes_indivisible, cubes_start, cubes_next, cubes_found, cubes_end}
use Rattle.fpl_rewrite.proofs.origins.next_cube.Goals as goal

pub returns-then-not-has_cubes-clause-value : goal.returns-then-not-has_cubes-clause-value
returns-then-not-has_cubes-clause-value g c = (let e : is_three c.args.table.now.kind ≡ false = cc in cubes_without c.args.table.now c.args.i e)

pub returns-then-w-ne0-clause-value : goal.returns-then-w-ne0-clause-value
returns-then-w-ne0-clause-value g c = cubes_indivisible c.args.table.now c.args.i (c.weight-w.result + 1) (omega arith) c.if-w-ne0.true

pub loop-at-init : goal.loop-at-init
loop-at-init g c =
    cubes_start c.args.table.now c.args.i ((c.weight-w.result + 1) / 3) c.through.result (omega arith) c.through.ensures.value
    ∙ (let e = c.max-first.ensures in rw e refl)

pub is_odd_at-requires-clause-within : goal.is_odd_at-requires-clause-within
is_odd_at-requires-clause-within g c = (let h = leading_within c.args.table.now.basis ((c.weight-w.result + 1) / 3) in omega arith)

pub returns-then-is_odd_at-clause-value : goal.returns-then-is_odd_at-clause-value
returns-then-is_odd_at-clause-value g c =
    let h = leading_within c.args.table.now.basis ((c.weight-w.result + 1) / 3) in
    let three : is_three c.args.table.now.kind ≡ true = cc in
    let odd : is_odd (plain_basis c.args.table.now c.loop-at.at).parity ≡ true = cc in
    c.loop-at.invariant
    ∙ cubes_found c.args.table.now c.loop-at.at ((c.weight-w.result + 1) / 3) c.weight-w.ensures.shape three (omega arith) (omega arith) (omega arith)
    (omega arith) odd

pub loop-at-preserved : goal.loop-at-preserved
loop-at-preserved g c =
    let not_odd : is_odd (plain_basis c.args.table.now c.loop-at.at).parity ≡ false = cc in
    c.loop-at.invariant ∙ cubes_next c.args.table.now c.loop-at.at not_odd

pub returns-clause-value : goal.returns-clause-value
returns-clause-value g c =
    c.loop-at.invariant ∙ cubes_end c.args.table.now c.loop-at.at ((c.weight-w.result + 1) / 3) c.weight-w.ensures.shape (omega arith) (omega arith)
