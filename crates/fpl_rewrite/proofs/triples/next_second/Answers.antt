use Rattle.std.proofs.Common.{◌+◌, ◌-◌, ◌/◌, ◌∙◌, arith}
use Rattle.fpl_log.specs.declared.step.Origin.TheVariants.{Jacobi}
use Rattle.fpl_table.proofs.Weights.{leading_within}
use Rattle.fpl_rewrite.proofs.TriplesInOrder.{seconds_found, seconds_next, seconds_end}
use Rattle.fpl_rewrite.proofs.triples.next_second.Goals as goal

pub next_third-requires-clause-within : goal.next_third-requires-clause-within
next_third-requires-clause-within g c = (let h = leading_within c.args.table.now.basis ((c.weight.result + 1 - c.weight_at.result) / 2) in omega arith)

pub returns-in-Some-clause-value : goal.returns-in-Some-clause-value
returns-in-Some-clause-value g c =
    let h = leading_within c.args.table.now.basis ((c.weight.result + 1 - c.weight_at.result) / 2) in
    c.loop-j.invariant.left
    ∙ seconds_found c.args.table.now c.args.first c.loop-j.j c.loop-j.k (c.in-Some.third + 1)
    (Jacobi (c.args.first + 1) (c.loop-j.j + 1) (c.in-Some.third + 1)) (omega arith) c.in-Some.ensures.value

pub loop-j-preserved : goal.loop-j-preserved
loop-j-preserved g c =
    let h = leading_within c.args.table.now.basis ((c.weight.result + 1 - c.weight_at.result) / 2) in
    record {
      left = c.loop-j.invariant.left ∙ seconds_next c.args.table.now c.args.first c.loop-j.j c.loop-j.k (omega arith) c.in_default.ensures.value;
      ascending = omega arith;
      second = omega arith;
    }

pub returns-clause-value : goal.returns-clause-value
returns-clause-value g c =
    c.loop-j.invariant.left
    ∙ seconds_end c.args.table.now c.args.first c.loop-j.j c.loop-j.k ((c.weight.result + 1 - c.weight_at.result) / 2) c.requires.shape (omega arith)
    (omega arith) c.loop-j.invariant.ascending
