use Rattle.std.proofs.Common.{◌≡◌, ◌++◌, length}
use Rattle.fpl_prove.specs.Learning.{close_facts}
use Rattle.fpl_prove.proofs.closed.close_zeros.Given as goal

abbrev pub invariant-loop-zero : goal.invariant-loop-zero
invariant-loop-zero l = record {
  made : l.facts.items ≡ close_facts l.steps l.yielded;
  count : l.i ≡ length l.yielded;
  parts : l.fn.zeros.items ≡ l.yielded ++ l.zero-iterator.rest.items;
}
