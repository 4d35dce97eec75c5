use Rattle.std.proofs.Common.{◌+◌, ◌/◌, ◌∙◌, arith}
use Rattle.fpl_log.specs.declared.step.Origin.TheVariants.{Jacobi}
use Rattle.fpl_table.proofs.Weights.{leading_within}
use Rattle.fpl_rewrite.proofs.TriplesInOrder.{firsts_found, firsts_next, firsts_end}
use Rattle.fpl_rewrite.proofs.triples.next_triple.Goals as goal

pub next_second-requires-clause-within : goal.next_second-requires-clause-within
next_second-requires-clause-within g c = (let h = leading_within c.args.table.now.basis ((c.weight.result + 1) / 3) in omega arith)

pub returns-in-Some-clause-value : goal.returns-in-Some-clause-value
returns-in-Some-clause-value g c =
    let h = leading_within c.args.table.now.basis ((c.weight.result + 1) / 3) in
    c.loop-i.invariant.left
    ∙ firsts_found c.args.table.now c.loop-i.i c.loop-i.j c.loop-i.k c.in-Some.next.first c.in-Some.next.second (c.in-Some.next.third + 1)
    (Jacobi (c.in-Some.next.first + 1) (c.in-Some.next.second + 1) (c.in-Some.next.third + 1)) (c.in-Some.ensures).within.0 (omega arith)
    (c.in-Some.ensures).value

pub loop-i-preserved : goal.loop-i-preserved
loop-i-preserved g c =
    let h = leading_within c.args.table.now.basis ((c.weight.result + 1) / 3) in
    record {
      left = c.loop-i.invariant.left ∙ firsts_next c.args.table.now c.loop-i.i c.loop-i.j c.loop-i.k (omega arith) (c.in_default.ensures).value;
      first = omega arith;
      second = omega arith;
    }

pub returns-clause-value : goal.returns-clause-value
returns-clause-value g c =
    c.loop-i.invariant.left
    ∙ firsts_end c.args.table.now c.loop-i.i c.loop-i.j c.loop-i.k ((c.weight.result + 1) / 3) c.weight.ensures.shape (omega arith)
    (omega arith) c.loop-i.invariant.first c.loop-i.invariant.second
