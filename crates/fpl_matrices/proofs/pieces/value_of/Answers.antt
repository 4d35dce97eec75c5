use Rattle.std.proofs.Common.{◌≡◌, ◌≤◌, ◌+◌, ◌-◌, ◌*◌, [], ◌∷◌, true, drop, get_or, min, ap, ap₂, sym, ◌∙◌, subst, arith, add-one, Some, None}
use Rattle.std.proofs.lemmas.List.{drop_all}
use Rattle.std.specs.Prelude.{◌&&◌, if◌then◌else◌}
use Rattle.std.specs.List.{list_all}
use Rattle.std.proofs.Common.{rules}
use Rattle.std.proofs.lemmas.Grind.{common_steps}
use Rattle.std.proofs.Math.Seq.{drop-cons}
use Rattle.fpl_matrices.specs.MapText.{is_digit, is_spelled, is_number, value_after, value_of}
use Rattle.fpl_matrices.proofs.Digits.{capped_step, digits_of, min_below, min_most}
use Rattle.fpl_matrices.proofs.pieces.value_of.Goals as goal

pub with_digit-value-requires-clause-value : goal.with_digit-value-requires-clause-value
with_digit-value-requires-clause-value c = c.loop-b.invariant.most

pub loop-b-preserved : goal.loop-b-preserved
loop-b-preserved c =
    let text = c.args.text.now in
    let i = c.loop-b.b-index in
    let b = get_or text i 0 in
    let rest = drop (i + 1) text in
    let next : drop i text ≡ b ∷ rest = drop-cons text i 0 c.loop-b-test.true ∙ ap (λ j. b ∷ drop j text) (sym (add-one i)) in
    record {
      digits = sym (ap (list_all is_digit) next ∙ digits_of b rest c.if-b-lt48.false c.if-b-gt57.false) ∙ c.loop-b.invariant.digits;
      value =
          ap (λ w. min 65536 (value_after w rest)) c.with_digit-value.ensures ∙ capped_step (10 * c.loop-b.value + (b - 48)) rest
          ∙ sym (ap (λ t. min 65536 (value_after c.loop-b.value t)) next) ∙ c.loop-b.invariant.value;
      most = subst (λ w. w ≤ 65536) (sym c.with_digit-value.ensures) (min_most (10 * c.loop-b.value + (b - 48)));
    }

pub returns : goal.returns
returns c =
    let text = c.args.text.now in
    let at_end : drop c.loop-b.b-index text ≡ [] = drop_all c.loop-b.b-index text c.loop-b-test.false in
    let digits : list_all is_digit text ≡ true = sym c.loop-b.invariant.digits ∙ ap (list_all is_digit) at_end in
    let value : c.loop-b.value ≡ min 65536 (value_of text) =
    sym (min_below c.loop-b.value c.loop-b.invariant.most) ∙ sym (ap (λ t. min 65536 (value_after c.loop-b.value t)) at_end) ∙ c.loop-b.invariant.value in
    let spelled : is_spelled text ≡ true = first_of (cc, grind (arith, common_steps), search rules) in
    let number : is_number text ≡ true = ap₂ (λ a b. a && b) spelled digits in
    ap Some value ∙ sym (ap (λ b. if b then Some (min 65536 (value_of text)) else None) number)
