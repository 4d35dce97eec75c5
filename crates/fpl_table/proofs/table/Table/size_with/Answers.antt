use Rattle.std.proofs.Common.{length, ap, arith}
use Rattle.fpl_table.specs.Plain.{symbols_in}
use Rattle.fpl_table.proofs.Leads.{free_few}
use Rattle.fpl_table.proofs.table.Table.size_with.Goals as goal

pub overflow_cast-result : goal.overflow_cast-result
overflow_cast-result g c =
    let free = ap length c.requires.places.free_is in
    let few = free_few c.args.closed.now.rows.now (length (symbols_in c.args.self.now)) in
    omega (arith, free, few, c.requires.few)

pub overflow_add-result : goal.overflow_add-result
overflow_add-result g c =
    let free = ap length c.requires.places.free_is in
    let few = free_few c.args.closed.now.rows.now (length (symbols_in c.args.self.now)) in
    omega (arith, free, few, c.requires.few, c.basis_len.ensures.shape.small, c.basis_len.ensures.shape.weight, c.basis_len.ensures.value)
