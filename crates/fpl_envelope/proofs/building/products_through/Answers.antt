use Rattle.std.proofs.Common.{◌≡◌, ◌+◌, ◌∷◌, [], length, sym, ap, ◌∙◌, arith}
use Rattle.std.proofs.lemmas.List.{length-append}
use Rattle.fpl_envelope.proofs.Levels.{products_more}
use Rattle.fpl_envelope.proofs.building.products_through.Goals as goal

pub overflow_add-weight-end : goal.overflow_add-weight-end
overflow_add-weight-end g c =
    let most = c.weight-most.ensures.shape.weight in
    let reached = c.requires.reached in
    omega (arith, most, reached)

pub loop-weight-preserved : goal.loop-weight-preserved
loop-weight-preserved g c =
    let levels = c.loop-weight.invariant.levels in
    let counts = c.loop-weight.invariant.counts in
    let less = c.loop-weight-test.true in
    record {
      products = products_more c.args.table.now c.loop-weight.products c.push.new.self c.loop-weight.weight c.in_ok-level.level
          c.loop-weight.invariant.products (sym levels) (omega (arith, counts, less)) c.in_ok-level.ensures c.in_ok-push.ensures;
      counts = ap (λ p. length p.counts) c.in_ok-push.ensures ∙ counts;
      levels = ap (λ p. length p.levels) c.in_ok-push.ensures ∙ length-append c.loop-weight.products.levels (c.in_ok-level.level ∷ [])
          ∙ (let q : length c.loop-weight.products.levels + 1 ≡ c.loop-weight.weight + 1 = omega (arith, levels) in q);
    }
