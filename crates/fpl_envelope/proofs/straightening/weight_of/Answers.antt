use Rattle.std.proofs.Common.{◌≡◌, ◌+◌, ◌-◌, suc, length, drop, ap, ◌∙◌, arith, drop_of_length-le}
use Rattle.fpl_table.specs.Plain.{plain_basis}
use Rattle.fpl_envelope.specs.Polys.{weight_in}
use Rattle.fpl_envelope.proofs.Lettered.{weight_step, weight_none}
use Rattle.fpl_envelope.proofs.straightening.weight_of.Goals as goal

pub loop-k-preserved : goal.loop-k-preserved
loop-k-preserved g c =
    let T = c.args.table.now in
    let same : c.basis-weight.result.weight ≡ (plain_basis T (c.index.result.now - 1)).weight = ap (λ b. b.weight) c.basis-weight.ensures.value in
    let long : length c.word.inside.letters.items ≡ length c.args.word.now = ap length c.word.view_is in
    let step : weight_in T (drop c.loop-k.k c.args.word.now)
    ≡ (plain_basis T (c.index.result.now - 1)).weight + weight_in T (drop (suc c.loop-k.k) c.args.word.now) =
    weight_step T c.word.inside.letters.items c.args.word.now c.loop-k.k c.index.result.now c.word.view_is (omega arith) c.index.ensures in
    let next : weight_in T (drop (suc c.loop-k.k) c.args.word.now) ≡ weight_in T (drop (c.loop-k.k + 1) c.args.word.now) =
    ap (λ n. weight_in T (drop n c.args.word.now)) (let q : suc c.loop-k.k ≡ c.loop-k.k + 1 = omega arith in q) in
    let left = c.loop-k.invariant.left in
    record { left = omega (arith, same, step, next, left) }

pub returns : goal.returns
returns g c =
    let T = c.args.table.now in
    let long : length c.word.inside.letters.items ≡ length c.args.word.now = ap length c.word.view_is in
    let none : weight_in T (drop c.loop-k.k c.args.word.now) ≡ 0 =
    ap (weight_in T) (drop_of_length-le c.args.word.now (omega arith)) ∙ weight_none T in
    let left = c.loop-k.invariant.left in
    omega (arith, none, left)
