use Rattle.std.proofs.Common.{length}
use Rattle.fpl_check.specs.declared.cites.Cited.TheVariants.{Closes}
use Rattle.fpl_check.proofs.ListedOrigins.{terms_pass}
use Rattle.fpl_check.proofs.steps.conclude_tested_close.Goals as goal

pub conclude_close-requires-clause-terms : goal.conclude_close-requires-clause-terms
conclude_close-requires-clause-terms g c =
    terms_pass c.args.table.now.kind Closes c.args.steps.now (length c.args.earlier.now) c.args.terms.now c.requires.terms
    (rw c.len.ensures.value at c.in-Ok.ensures)
