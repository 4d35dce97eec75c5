use Rattle.std.proofs.Common.{◌≡◌, ◌<◌, ◌≤◌, ◌+◌, ◌-◌, length, ap, sym, ◌∙◌, arith, length-append, ◌*◌}
use Rattle.fpl_table.specs.Plain.{plain_basis}
use Rattle.fpl_table.proofs.Cells.{pairs_first, pairs_more, pairs_last, symbols_none, row_length}
use Rattle.fpl_table.proofs.Weights.{through_below}
use Rattle.fpl_table.proofs.table.Table.symbol_count.Goals as goal

pub returns-then-w-eq0 : goal.returns-then-w-eq0
returns-then-w-eq0 g c = c.from-count.ensures ∙ c.generator_count.ensures.value ∙ ap length
    (sym (symbols_none c.args.self.now c.generator_count.ensures.shape c.args.w c.if-w-eq0.true))

pub loop-i-init : goal.loop-i-init
loop-i-init g c =
    let none = ap length (pairs_first c.args.self.now c.generator_count.ensures.shape c.args.w) in
    record { few = omega arith; value = omega (arith, none) }

pub partners-from-requires-clause-above : goal.partners-from-requires-clause-above
partners-from-requires-clause-above g c =
    let same : c.loop-i.i + 1 - 1 ≡ c.loop-i.i = omega arith in
    let light = through_below c.args.self.now c.generator_count.ensures.shape (c.args.w - 1) c.loop-i.i (omega arith) in
    rw same (omega (arith, light, c.if-w-eq0.false))

pub loop-i-preserved : goal.loop-i-preserved
loop-i-preserved g c =
    let same : c.loop-i.i + 1 - 1 ≡ c.loop-i.i = omega arith in
    let light = through_below c.args.self.now c.generator_count.ensures.shape (c.args.w - 1) c.loop-i.i (omega arith) in
    let above : (plain_basis c.args.self.now c.loop-i.i).weight < c.args.w = omega (arith, light, c.if-w-eq0.false) in
    let row = row_length c.args.self.now c.generator_count.ensures.shape c.args.w c.loop-i.i (omega arith) above in
    let from = rw same at c.partners-from.ensures.from in
    let to = rw same at c.partners-from.ensures.to in
    let more = simp length-append at (ap length (pairs_more c.args.self.now c.generator_count.ensures.shape c.args.w c.loop-i.i)) in
    let few : length c.args.self.now.basis ≤ 2000000 * c.args.self.now.weight = c.generator_count.ensures.shape.small in
    let weight : c.args.self.now.weight ≤ 1000 = c.generator_count.ensures.shape.weight in
    record { few = omega (arith, few, weight); value = omega (arith, row, from, to, more) }

pub returns : goal.returns
returns g c =
    let all = pairs_last c.args.self.now c.generator_count.ensures.shape c.args.w c.loop-i.i (omega arith) (omega arith) (omega (arith, c.if-w-eq0.false)) in
    let count = simp length-append at (ap length all) in
    c.loop-i.invariant.value ∙ sym count
