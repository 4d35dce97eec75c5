use Rattle.std.proofs.Common.{◌≡◌, ◌-◌, suc, length, drop, refl, sym, ap, ◌∙◌, arith, drop_of_length-le}
use Rattle.math_algebra.specs.Tree.{Parity, parity_sum}
use Rattle.plain_envelope.specs.Products.{word_parity}
use Rattle.fpl_model.specs.Meaning.{parity_in}
use Rattle.fpl_envelope.specs.Action.{math_in}
use Rattle.fpl_envelope.specs.Polys.{word_of}
use Rattle.fpl_envelope_text.proofs.Words.{parity_step, parity_none}
use Rattle.fpl_envelope_text.proofs.counting.parity.Goals as goal

pub loop-k-init : goal.loop-k-init
loop-k-init g c =
    let T = c.args.table.now in
    record {
      within = omega arith;
      value = parity_none T ∙ ap (λ u. word_parity (math_in T) (word_of u)) (sym (drop_of_length-le c.args.letters.now (omega arith)));
    }

pub loop-k-preserved : goal.loop-k-preserved
loop-k-preserved g c =
    let T = c.args.table.now in
    let some = c.loop-k-test.true in
    let within = c.loop-k.invariant.within in
    let one : c.loop-k.k ≡ suc (c.loop-k.k - 1) = omega arith in
    record {
      within = omega arith;
      value = c.plus-parity.ensures ∙ ap (λ (s : Parity). parity_sum s (parity_in c.loop-k.parity)) (ap (λ b. b.parity) c.basis.ensures.value)
          ∙ parity_step T c.args.letters.now (c.loop-k.k - 1) _ (parity_in c.loop-k.parity) (omega arith) refl
          (c.loop-k.invariant.value ∙ ap (λ n. word_parity (math_in T) (word_of (drop n c.args.letters.now))) one);
    }
