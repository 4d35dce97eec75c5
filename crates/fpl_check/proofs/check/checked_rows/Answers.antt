use Rattle.std.proofs.Common.{arith}
use Rattle.fpl_rewrite.proofs.SymbolCounts.{few_at}
use Rattle.fpl_check.proofs.check.checked_rows.Goals as goal

pub symbols-requires-clause-few : goal.symbols-requires-clause-few
symbols-requires-clause-few g c = few_at c.args.table.now _ (omega (arith, c.weight.ensures.value)) c.requires.few
