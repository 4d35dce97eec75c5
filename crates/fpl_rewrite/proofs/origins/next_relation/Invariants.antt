use Rattle.std.proofs.Common.{◌≡◌, ◌+◌, drop}
use Rattle.fpl_rewrite.specs.Origins.{relations_from}
use Rattle.fpl_rewrite.proofs.origins.next_relation.Given as goal

abbrev pub invariant-loop-at : goal.invariant-loop-at
invariant-loop-at g l = relations_from l.table (l.fn.r + 1) (drop l.fn.r l.p.relations) ≡ relations_from l.table (l.at + 1) (drop l.at l.p.relations)
