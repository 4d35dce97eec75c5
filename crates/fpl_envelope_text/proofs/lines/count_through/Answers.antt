use Rattle.std.proofs.Common.{◌≡◌, ◌+◌, suc, length, ap, ◌∙◌, arith}
use Rattle.math_linear.specs.Lists.{joined}
use Rattle.plain_envelope.proofs.Lists.{joined_length}
use Rattle.fpl_envelope_text.specs.Plain.{lines_of}
use Rattle.fpl_envelope_text.proofs.Products.{none_joined, count_all}
use Rattle.fpl_envelope_text.proofs.lines.count_through.Goals as goal

pub loop-w-init : goal.loop-w-init
loop-w-init g c = record { value = none_joined (lines_of c.args.table.now); few = omega arith }

pub loop-w-preserved : goal.loop-w-preserved
loop-w-preserved g c =
    let T = c.args.table.now in
    let so_far = c.loop-w.invariant.value in
    let few = c.loop-w.invariant.few in
    let count : c.count_of-count.result ≡ length (lines_of T c.loop-w.w) = c.count_of-count.ensures.value in
    let most = c.count_of-count.ensures.few in
    let more : length (joined (suc c.loop-w.w) (lines_of T)) ≡ length (joined c.loop-w.w (lines_of T)) + length (lines_of T c.loop-w.w) =
    joined_length c.loop-w.w (lines_of T) in
    let next : length (joined (suc c.loop-w.w) (lines_of T)) ≡ length (joined (c.loop-w.w + 1) (lines_of T)) =
    ap (λ n. length (joined n (lines_of T))) (let q : suc c.loop-w.w ≡ c.loop-w.w + 1 = omega arith in q) in
    record { value = omega (arith, so_far, count, more, next); few = omega (arith, few, most) }

pub returns : goal.returns
returns g c =
    let T = c.args.table.now in
    let end : c.loop-w.w ≡ suc T.weight = omega arith in
    count_all T T.weight c.loop-w.count (c.loop-w.invariant.value ∙ ap (λ n. length (joined n (lines_of T))) end)
