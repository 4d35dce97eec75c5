use Rattle.std.proofs.Common.{◌≡◌, map, take}
use Rattle.fpl_rows.specs.Meaning.{pivot_of}
use Rattle.fpl_prove.proofs.closed.leads_of.Given as goal

abbrev pub invariant-loop-k : goal.invariant-loop-k
invariant-loop-k l = l.leads.items ≡ map pivot_of (take l.k l.rows)
