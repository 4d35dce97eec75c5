use Rattle.std.proofs.Common.{◌≡◌, ◌≤◌, ◌+◌, ◌-◌, [], suc, length, drop, sym, ap, ◌∙◌, subst, arith, drop_of_length-le}
use Rattle.math_words.specs.Action.{straight, action}
use Rattle.fpl_table.specs.Plain.{plain_basis}
use Rattle.fpl_envelope.specs.Action.{StandsFor, field_in, math_in}
use Rattle.fpl_envelope.specs.Polys.{word_of, weight_in}
use Rattle.fpl_envelope.proofs.Lettered.{weight_step, straight_step, weight_none, straight_none, left_light}
use Rattle.fpl_envelope.proofs.straightening.word_form.Goals as goal

pub loop-k-init : goal.loop-k-init
loop-k-init g c =
    let T = c.args.table.now in
    let long : length c.word.inside.letters.items ≡ length c.args.word.now = ap length c.word.view_is in
    let none : drop c.len-k.result c.args.word.now ≡ [] = drop_of_length-le c.args.word.now (omega arith) in
    record {
      within = omega arith;
      weight = c.in_ok-form.ensures.weight ∙ sym (ap (weight_in T) none ∙ weight_none T);
      value = subst (λ w. StandsFor T w (λ f. straight (field_in T) (math_in T) (word_of (drop c.len-k.result c.args.word.now)) f) c.in_ok-form.form.row)
          (sym c.in_ok-form.ensures.weight) (record {
            row_of = c.in_ok-form.ensures.value.row_of;
            value = λ f. c.in_ok-form.ensures.value.value f
                ∙ sym (ap (λ u. straight (field_in T) (math_in T) (word_of u) f) none ∙ straight_none T f);
          });
    }

pub acted_on-requires-clause-reached : goal.acted_on-requires-clause-reached
acted_on-requires-clause-reached g c =
    let T = c.args.table.now in
    let some = c.loop-k-test.true in
    let within = c.loop-k.invariant.within in
    let step : weight_in T (drop (c.loop-k.k - 1) c.args.word.now)
    ≡ (plain_basis T (c.index.result.now - 1)).weight + weight_in T (drop (suc (c.loop-k.k - 1)) c.args.word.now) =
    weight_step T c.word.inside.letters.items c.args.word.now (c.loop-k.k - 1) c.index.result.now c.word.view_is (omega arith) c.index.ensures in
    let back : weight_in T (drop (suc (c.loop-k.k - 1)) c.args.word.now) ≡ weight_in T (drop c.loop-k.k c.args.word.now) =
    ap (λ n. weight_in T (drop n c.args.word.now)) (let q : suc (c.loop-k.k - 1) ≡ c.loop-k.k = omega arith in q) in
    let light : weight_in T (drop (c.loop-k.k - 1) c.args.word.now) ≤ weight_in T c.args.word.now = left_light T c.args.word.now (c.loop-k.k - 1) in
    let form : c.loop-k.form.weight ≡ weight_in T (drop c.loop-k.k c.args.word.now) = c.loop-k.invariant.weight in
    let reached = c.requires.reached in
    let whole : (plain_basis T (c.index.result.now - 1)).weight + c.loop-k.form.weight ≤ weight_in T c.args.word.now = omega (arith, step, back, light, form) in
    omega (arith, whole, reached)

pub loop-k-preserved : goal.loop-k-preserved
loop-k-preserved g c =
    let T = c.args.table.now in
    let some = c.loop-k-test.true in
    let within = c.loop-k.invariant.within in
    let one : suc (c.loop-k.k - 1) ≡ c.loop-k.k = omega arith in
    let whole : c.in_ok-next.next.weight ≡ weight_in T (drop (c.loop-k.k - 1) c.args.word.now) =
    c.in_ok-next.ensures.weight
    ∙ ap (λ w. (plain_basis T (c.index.result.now - 1)).weight + w) (c.loop-k.invariant.weight ∙ ap (λ n. weight_in T (drop n c.args.word.now)) (sym one))
    ∙ sym (weight_step T c.word.inside.letters.items c.args.word.now (c.loop-k.k - 1) c.index.result.now c.word.view_is (omega arith) c.index.ensures) in
    record {
      within = omega arith;
      weight = whole;
      value = subst (λ w. StandsFor T w (λ f. straight (field_in T) (math_in T) (word_of (drop (c.loop-k.k - 1) c.args.word.now)) f) c.in_ok-next.next.row)
          (sym c.in_ok-next.ensures.weight) (record {
            row_of = c.in_ok-next.ensures.value.row_of;
            value = λ f. c.in_ok-next.ensures.value.value f
                ∙ c.loop-k.invariant.value.value (λ u. action (field_in T) (math_in T) (c.index.result.now - 1) u f)
                ∙ ap (λ n. straight (field_in T) (math_in T) (word_of (drop n c.args.word.now))
                (λ u. action (field_in T) (math_in T) (c.index.result.now - 1) u f)) (sym one)
                ∙ sym (straight_step T c.word.inside.letters.items c.args.word.now (c.loop-k.k - 1) c.index.result.now f c.word.view_is (omega arith)
                c.index.ensures);
          });
    }
