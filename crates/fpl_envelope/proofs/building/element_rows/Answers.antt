use Rattle.std.proofs.Common.{◌≡◌, ◌<◌, ◌+◌, ◌-◌, ◌∷◌, [], List, length, get_or, sym, ap, ◌∙◌, subst, arith}
use Rattle.std.proofs.lemmas.List.{length-append}
use Rattle.fpl_numbers.specs.declared.number.Num.{Num}
use Rattle.fpl_table.specs.Plain.{plain_basis}
use Rattle.fpl_table.proofs.Weights.{through_within, through_below}
use Rattle.fpl_envelope.specs.Counts.{skipped_in}
use Rattle.fpl_envelope.specs.Action.{StandsFor, acted}
use Rattle.fpl_envelope.proofs.Levels.{rows_more}
use Rattle.fpl_envelope.proofs.building.element_rows.Goals as goal

pub basis-requires : goal.basis-requires
basis-requires g c =
    let in_weight = c.requires.letter.1 in
    let most = through_within c.args.table.now c.basis_len-count.ensures.shape c.args.w in
    (c.requires.letter.0, omega (arith, in_weight, most))

pub overflow_sub-weight : goal.overflow_sub-weight
overflow_sub-weight g c =
    let T = c.args.table.now in
    let some = c.requires.letter.0 in
    let in_weight = c.requires.letter.1 in
    let same : c.basis.result.weight ≡ (plain_basis T (c.args.i - 1)).weight = ap (λ b. b.weight) c.basis.ensures.value in
    let light = through_below T c.basis_len-count.ensures.shape c.args.w (c.args.i - 1) (omega (arith, some, in_weight)) in
    omega (arith, same, light)

pub skipped-number-end-requires-clause-letter : goal.skipped-number-end-requires-clause-letter
skipped-number-end-requires-clause-letter g c =
    let in_weight = c.requires.letter.1 in
    let most = through_within c.args.table.now c.basis_len-count.ensures.shape c.args.w in
    (c.requires.letter.0, omega (arith, in_weight, most))

pub product_row-requires-clause-letter : goal.product_row-requires-clause-letter
product_row-requires-clause-letter g c =
    let in_weight = c.requires.letter.1 in
    let most = through_within c.args.table.now c.basis_len-count.ensures.shape c.args.w in
    (c.requires.letter.0, omega (arith, in_weight, most))

pub loop-number-preserved : goal.loop-number-preserved
loop-number-preserved g c =
    let T = c.args.table.now in
    let long = c.loop-number.invariant.long in
    record {
      long = ap length c.in_ok-push.ensures.items ∙ length-append c.loop-number.rows.items (c.in_ok-product_row.field-0 ∷ [])
          ∙ (let q : length c.loop-number.rows.items + 1 ≡ c.loop-number.number + 1 = omega (arith, long) in q);
      stand = λ k m. subst (λ (xs : List (List Num)). StandsFor T c.args.w (acted T (c.args.i - 1) (c.args.w - c.basis.result.weight) k) (get_or xs k []))
          (sym c.in_ok-push.ensures.items)
          (rows_more (λ k (r : List Num). StandsFor T c.args.w (acted T (c.args.i - 1) (c.args.w - c.basis.result.weight) k) r) [] c.loop-number.rows.items
          c.in_ok-product_row.field-0 c.loop-number.number long c.loop-number.invariant.stand c.in_ok-product_row.ensures.value k m);
      sum = c.in_ok-product_row.ensures.empty ∙ c.loop-number.invariant.sum;
    }

pub returns-clause-rows : goal.returns-clause-rows
returns-clause-rows g c =
    let T = c.args.table.now in
    let same : c.basis.result.weight ≡ (plain_basis T (c.args.i - 1)).weight = ap (λ b. b.weight) c.basis.ensures.value in
    let long = c.loop-number.invariant.long in
    let end = c.skipped-number-end.ensures.value in
    record {
      long = ap (λ n. n) long ∙ (let q : c.loop-number.number ≡ c.skipped-number-end.result = omega arith in q) ∙ end
          ∙ ap (λ b. skipped_in T (c.args.w - b) (c.args.i - 1)) same;
      stand = λ k m. subst (λ b. StandsFor T c.args.w (acted T (c.args.i - 1) (c.args.w - b) k) (get_or c.loop-number.rows.items k [])) same
          (c.loop-number.invariant.stand k (subst (λ n. k < n) long m));
    }
