use Rattle.std.proofs.Common.{◌≡◌, ◌++◌}
use Rattle.fpl_spelling.specs.Spelling.{names_of}
use Rattle.fpl_print.specs.TableText.{text_of, basis_line}
use Rattle.fpl_print.proofs.table.push_basis.Given as goal

abbrev pub invariant-loop-i : goal.invariant-loop-i
invariant-loop-i g l = l.out.items ≡ l.initial.out.items ++ text_of l.i (basis_line (names_of l.p) l.table)
