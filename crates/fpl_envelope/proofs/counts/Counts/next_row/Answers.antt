use Rattle.std.proofs.Common.{◌≡◌, ◌≤◌, ◌<◌, ◌+◌, ◌-◌, ◌*◌, ◌++◌, ◌∷◌, [], suc, length, get_or, ap, sym, ◌∙◌, subst, arith}
use Rattle.fpl_table.specs.Plain.{through, plain_basis}
use Rattle.fpl_table.proofs.Weights.{through_below}
use Rattle.fpl_envelope.specs.Counts.{heads_in, skipped_in}
use Rattle.fpl_envelope.proofs.CountRows.{one_number, long_more, row_more, heads_start, sum_step}
use Rattle.fpl_envelope.proofs.counts.Counts.next_row.Goals as goal

pub loop-i-init : goal.loop-i-init
loop-i-init g c =
    let items : c.push.new.self.items ≡ (0 ∷ []) = c.in_ok-push.ensures.items ∙ ap (λ xs. xs ++ (0 ∷ [])) c.new-row.ensures.items in
    let start : heads_in c.args.table.now c.args.w 0 ≡ 0 = heads_start c.args.table.now c.through-i-end.ensures.shape c.args.w in
    record {
      long = ap length items;
      is = one_number c.push.new.self.items (heads_in c.args.table.now c.args.w) items start;
      sum = sym start;
      most = omega arith;
    }

pub overflow_sub-rest : goal.overflow_sub-rest
overflow_sub-rest g c =
    let T = c.args.table.now in
    let back : c.loop-i.i + 1 - 1 ≡ c.loop-i.i = omega arith in
    let weight : c.basis.result.weight ≡ (plain_basis T c.loop-i.i).weight = ap (λ b. b.weight) c.basis.ensures.value ∙
    ap (λ i. (plain_basis T i).weight) back in
    let inside : c.loop-i.i < through T c.args.w = subst (λ n. c.loop-i.i < n) c.through-i-end.ensures.value c.loop-i-test.true in
    let light : (plain_basis T c.loop-i.i).weight ≤ c.args.w = through_below T c.through-i-end.ensures.shape c.args.w c.loop-i.i inside in
    omega arith

pub loop-i-preserved : goal.loop-i-preserved
loop-i-preserved g c =
    let T = c.args.table.now in
    let back : c.loop-i.i + 1 - 1 ≡ c.loop-i.i = omega arith in
    let one : suc c.loop-i.i ≡ c.loop-i.i + 1 = omega arith in
    let weight : c.basis.result.weight ≡ (plain_basis T c.loop-i.i).weight = ap (λ b. b.weight) c.basis.ensures.value ∙
    ap (λ i. (plain_basis T i).weight) back in
    let inside : c.loop-i.i < through T c.args.w = subst (λ n. c.loop-i.i < n) c.through-i-end.ensures.value c.loop-i-test.true in
    let sum : c.loop-i.sum + (c.total.result - c.skipped.result) ≡ heads_in T c.args.w (suc c.loop-i.i) =
    sum_step T c.through-i-end.ensures.shape c.args.w c.loop-i.i c.basis.result.weight c.total.result c.skipped.result c.loop-i.sum (omega arith) inside weight
    c.total.ensures.value (c.skipped.ensures.value ∙ ap (skipped_in T (c.args.w - c.basis.result.weight)) back)
    c.skipped.ensures.within
    c.loop-i.invariant.sum in
    record {
      long = ap length c.in_ok-push-2.ensures.items ∙ long_more c.loop-i.row.items (c.loop-i.sum + (c.total.result - c.skipped.result)) c.loop-i.i
          c.loop-i.invariant.long;
      is = λ m l. ap (λ xs. get_or xs m 0) c.in_ok-push-2.ensures.items
          ∙ row_more c.loop-i.row.items (c.loop-i.sum + (c.total.result - c.skipped.result)) c.loop-i.i (heads_in T c.args.w) c.loop-i.invariant.long
          c.loop-i.invariant.is sum m (omega arith);
      sum = sum ∙ ap (heads_in T c.args.w) one;
      most = let few : c.total.result ≤ 2000000 = c.total.ensures.few in let before : c.loop-i.sum ≤ 2000000 * c.loop-i.i = c.loop-i.invariant.most in
          omega arith;
    }
