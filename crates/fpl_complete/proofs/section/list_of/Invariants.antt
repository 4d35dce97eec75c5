use Rattle.std.proofs.Common.{◌≡◌, ◌++◌, drop}
use Rattle.plain_weights.specs.Section.{closed_list}
use Rattle.fpl_complete.proofs.section.list_of.Given as goal

abbrev pub invariant-loop-i : goal.invariant-loop-i
invariant-loop-i g l = closed_list l.rows ≡ l.list ++ closed_list (drop l.i l.rows)
