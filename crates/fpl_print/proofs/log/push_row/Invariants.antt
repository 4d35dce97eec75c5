use Rattle.std.proofs.Common.{◌≡◌, ◌++◌, map, nat_eq}
use Rattle.fpl_table.specs.Plain.{symbol_in}
use Rattle.fpl_print.specs.Lines.{text_at}
use Rattle.fpl_print.specs.TableText.{text_of}
use Rattle.fpl_print.specs.LogText.{coefficient_text}
use Rattle.fpl_print.proofs.log.push_row.Given as goal

abbrev pub invariant-loop-k : goal.invariant-loop-k
invariant-loop-k l =
    l.out.items ≡ l.initial.out.items
    ++ text_of l.k (λ k. text_at (coefficient_text (map (λ g. g.name) l.generators) (map symbol_in l.symbols) (nat_eq k 0)) l.row k)
