use Rattle.std.proofs.Common.{◌≡◌, ◌≤◌, ◌<◌, ◌+◌, ◌-◌, length, ap, ap₂, ◌∙◌, arith}
use Rattle.math_linear.specs.Lists.{joined}
use Rattle.plain_envelope.specs.Products.{products_at}
use Rattle.fpl_table.specs.Plain.{plain_basis, through}
use Rattle.fpl_table.proofs.Weights.{through_within, through_below}
use Rattle.fpl_envelope.specs.Counts.{skipped_in}
use Rattle.fpl_envelope.specs.Action.{field_in, math_in}
use Rattle.fpl_envelope_text.proofs.Products.{none_joined, count_step, count_end}
use Rattle.fpl_envelope_text.proofs.lines.count_of.Goals as goal

pub loop-i-init : goal.loop-i-init
loop-i-init g c = record { value = none_joined (products_at (field_in c.args.table.now) (math_in c.args.table.now) c.args.w); few = omega arith }

pub overflow_sub-weight : goal.overflow_sub-weight
overflow_sub-weight g c =
    let T = c.args.table.now in
    let less = c.loop-i-test.true in
    let last : c.through-i-end.result ≡ through T c.args.w = c.through-i-end.ensures.value in
    let here : c.loop-i.i + 1 - 1 ≡ c.loop-i.i = omega arith in
    let same : c.basis.result.weight ≡ (plain_basis T c.loop-i.i).weight =
    ap (λ b. b.weight) c.basis.ensures.value ∙ ap (λ k. (plain_basis T k).weight) here in
    let light = through_below T c.weight-most.ensures.shape c.args.w c.loop-i.i (omega (arith, less, last)) in
    omega (arith, same, light)

pub loop-i-preserved : goal.loop-i-preserved
loop-i-preserved g c =
    let T = c.args.table.now in
    let shape = c.weight-most.ensures.shape in
    let less = c.loop-i-test.true in
    let last : c.through-i-end.result ≡ through T c.args.w = c.through-i-end.ensures.value in
    let within : c.loop-i.i < through T c.args.w = omega (arith, less, last) in
    let most = through_within T shape c.args.w in
    let here : c.loop-i.i + 1 - 1 ≡ c.loop-i.i = omega arith in
    let same : c.basis.result.weight ≡ (plain_basis T c.loop-i.i).weight =
    ap (λ b. b.weight) c.basis.ensures.value ∙ ap (λ k. (plain_basis T k).weight) here in
    let few = c.loop-i.invariant.few in
    let one = c.skipped-count.ensures.few in
    record {
      value = count_step T shape c.args.w c.loop-i.i c.loop-i.count c.skipped-count.result (omega (arith, within, most))
          (through_below T shape c.args.w c.loop-i.i within) c.loop-i.invariant.value
          (c.skipped-count.ensures.value ∙ ap₂ (λ x i. skipped_in T (c.args.w - x) i) same here);
      few = omega (arith, few, one);
    }

pub returns-clause-value : goal.returns-clause-value
returns-clause-value g c =
    let T = c.args.table.now in
    let last : c.through-i-end.result ≡ through T c.args.w = c.through-i-end.ensures.value in
    let end : c.loop-i.i ≡ through T c.args.w = omega arith in
    count_end T c.weight-most.ensures.shape c.args.w c.loop-i.count
    (c.loop-i.invariant.value ∙ ap (λ n. length (joined n (products_at (field_in T) (math_in T) c.args.w))) end)
