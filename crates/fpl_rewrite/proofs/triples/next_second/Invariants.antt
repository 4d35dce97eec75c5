use Rattle.std.proofs.Common.{◌≡◌, ◌≤◌}
use Rattle.fpl_rewrite.specs.Triples.{seconds_from}
use Rattle.fpl_rewrite.proofs.triples.next_second.Given as goal

abbrev pub invariant-loop-j : goal.invariant-loop-j
invariant-loop-j g l = record {
  left : seconds_from l.table l.first l.second l.third ≡ seconds_from l.table l.first l.j l.k;
  ascending : l.j ≤ l.k;
  second : l.first ≤ l.j;
}
