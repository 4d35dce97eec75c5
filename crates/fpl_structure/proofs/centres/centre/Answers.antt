use Rattle.fpl_structure.proofs.Means.{centre_value, centre_is}
use Rattle.fpl_structure.proofs.centres.centre.Goals as goal

pub returns-clause-means : goal.returns-clause-means
returns-clause-means g c = λ p holds.
    centre_is p c.args.table.now c.kernel.result holds
    (centre_value c.args.table.now (g.F.Field.kind_of c.field.result.now) c.basis_len.result c.in_ok-rows.rows c.kernel.result c.field.ensures
    c.basis_len.ensures.value c.in_ok-rows.ensures.value c.kernel.ensures.value)
