use Rattle.std.proofs.Common.{◌∙◌}
use Rattle.fpl_table.proofs.Numbering.{next_symbols}
use Rattle.fpl_table.proofs.table.Table.symbols.Goals as goal

pub returns-clause-next : goal.returns-clause-next
returns-clause-next g c = λ next. c.in_ok-list.ensures.value ∙ next_symbols c.args.self.now c.args.w next
