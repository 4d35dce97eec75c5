use Rattle.std.proofs.Common.{◌≡◌, ◌≤◌}
use Rattle.fpl_rewrite.specs.Triples.{firsts_from}
use Rattle.fpl_rewrite.proofs.triples.next_triple.Given as goal

abbrev pub invariant-loop-i : goal.invariant-loop-i
invariant-loop-i g l = record {
  left : firsts_from l.table l.fn.t.first l.fn.t.second l.fn.t.third ≡ firsts_from l.table l.i l.j l.k;
  first : l.i ≤ l.j;
  second : l.j ≤ l.k;
}
