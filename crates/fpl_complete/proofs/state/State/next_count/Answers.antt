use Rattle.std.proofs.Common.{◌+◌, arith}
use Rattle.fpl_complete.proofs.Raising.{count_small}
use Rattle.fpl_complete.proofs.state.State.next_count.Goals as goal

pub overflow_add-result : goal.overflow_add-result
overflow_add-result g c =
    let small = count_small c.self.inside.table c.self.invariant.holds.shape (c.weight.result + 1) in
    let e = c.symbol_count.ensures in
    let few = c.self.invariant.few in
    omega (arith, small, e, few)
