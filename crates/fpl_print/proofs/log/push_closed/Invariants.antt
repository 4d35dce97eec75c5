use Rattle.std.proofs.Common.{◌≡◌, ◌++◌, map}
use Rattle.fpl_print.specs.TableText.{text_of}
use Rattle.fpl_table.specs.Plain.{symbol_in}
use Rattle.fpl_print.specs.LogText.{closed_line}
use Rattle.fpl_print.proofs.log.push_closed.Given as goal

abbrev pub invariant-loop-k : goal.invariant-loop-k
invariant-loop-k l = l.out.items ≡ l.initial.out.items ++ text_of l.k (closed_line (map (λ g. g.name) l.generators) (map symbol_in l.symbols) l.closed)
