use Rattle.std.proofs.Common.{◌∙◌, sym, length}
use Rattle.fpl_check.specs.declared.cites.Cited.TheVariants.{Inserts}
use Rattle.fpl_check.proofs.ListedOrigins.{origin_listed, terms_pass}
use Rattle.fpl_check.proofs.steps.conclude_tested_insert.Goals as goal

pub conclude_insert-requires-clause-listed : goal.conclude_insert-requires-clause-listed
conclude_insert-requires-clause-listed g c = origin_listed c.args.table.now c.args.p.now c.args.origin (sym c.is_origin.ensures ∙ c.if-not-is_origin.false)

pub conclude_insert-requires-clause-terms : goal.conclude_insert-requires-clause-terms
conclude_insert-requires-clause-terms g c =
    terms_pass c.args.table.now.kind Inserts c.args.steps.now (length c.args.earlier.now) c.args.terms.now c.requires.terms
    (rw c.len.ensures.value at c.in-Ok.ensures)
