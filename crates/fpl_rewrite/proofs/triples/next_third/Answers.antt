use Rattle.std.proofs.Common.{◌+◌, ◌-◌, arith}
use Rattle.fpl_rewrite.proofs.Thirds.{thirds_end, thirds_found, thirds_missed}
use Rattle.fpl_rewrite.proofs.triples.next_third.Goals as goal

pub returns-then-of_two-weight-clause-value : goal.returns-then-of_two-weight-clause-value
returns-then-of_two-weight-clause-value g c = thirds_end c.args.table.now c.args.first c.args.second c.args.third c.requires.shape (omega arith)

pub returns-then-least-through-clause-within : goal.returns-then-least-through-clause-within
returns-then-least-through-clause-within g c =
    let found = thirds_found c.args.table.now c.args.first c.args.second c.args.third (c.weight-2.result +
    1 - (c.weight_at.result + c.weight_at-2.result)) c.through.result c.through-2.result c.max-least.result
    c.requires.shape (omega arith) (omega arith) c.requires.ascending.0 c.requires.ascending.1 c.through.ensures.value c.through-2.ensures.value
    c.max-least.ensures c.if-least-through.true in
    (found.1, found.2)

pub returns-then-least-through-clause-value : goal.returns-then-least-through-clause-value
returns-then-least-through-clause-value g c =
    let found = thirds_found c.args.table.now c.args.first c.args.second c.args.third (c.weight-2.result +
    1 - (c.weight_at.result + c.weight_at-2.result)) c.through.result c.through-2.result c.max-least.result
    c.requires.shape (omega arith) (omega arith) c.requires.ascending.0 c.requires.ascending.1 c.through.ensures.value c.through-2.ensures.value
    c.max-least.ensures c.if-least-through.true in
    found.0

pub returns-else-least-through-clause-value : goal.returns-else-least-through-clause-value
returns-else-least-through-clause-value g c =
    thirds_missed c.args.table.now c.args.first c.args.second c.args.third (c.weight-2.result + 1 - (c.weight_at.result + c.weight_at-2.result))
    c.through.result c.through-2.result c.max-least.result
    c.requires.shape (omega arith) (omega arith) c.through.ensures.value c.through-2.ensures.value c.max-least.ensures c.if-least-through.false
