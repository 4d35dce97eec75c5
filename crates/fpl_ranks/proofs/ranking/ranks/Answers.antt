use Rattle.std.proofs.Common.{◌≡◌, Ok, subst, arith}
use Rattle.fpl_ranks.specs.Ranks.{ranks_to}
use Rattle.fpl_ranks.proofs.Weights.{ranks_stop, ranks_mean}
use Rattle.fpl_ranks.proofs.ranking.ranks.Goals as goal

pub returns-in-Err-clause-value : goal.returns-in-Err-clause-value
returns-in-Err-clause-value g c =
    let end = c.weight-w-end.ensures.value in
    ranks_stop c.args.a.now c.args.table.now c.loop-w.w c.in-Err.fault c.loop-w.ranks.items (omega arith) c.loop-w.invariant.made c.in-Err.ensures.value

pub returns-clause-means : goal.returns-clause-means
returns-clause-means g c = λ p holds whose none.
    let end = c.weight-w-end.ensures.value in
    let whole : c.loop-w.w ≡ c.args.table.now.weight = omega arith in
    ranks_mean p c.args.a.now c.args.table.now c.loop-w.ranks.items holds whose none
    (subst (λ n. ranks_to c.args.a.now c.args.table.now n ≡ Ok c.loop-w.ranks.items) whole c.loop-w.invariant.made)
