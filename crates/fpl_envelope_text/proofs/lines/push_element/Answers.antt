use Rattle.std.proofs.Common.{◌≡◌, ◌≤◌, ◌<◌, ◌-◌, ◌++◌, suc, length, ap, ◌∙◌, subst, arith}
use Rattle.plain_envelope.proofs.Listing.{skipped_within}
use Rattle.fpl_table.specs.Plain.{plain_basis}
use Rattle.fpl_table.proofs.Weights.{through_within, through_below}
use Rattle.fpl_envelope.specs.Counts.{skipped_in}
use Rattle.fpl_envelope.specs.Action.{field_in, math_in}
use Rattle.fpl_envelope.proofs.CountRows.{weighted}
use Rattle.fpl_envelope_text.specs.Texts.{product_lines}
use Rattle.fpl_envelope_text.specs.Plain.{lines_at}
use Rattle.fpl_envelope_text.specs.Lists.{spelled_words, row_line}
use Rattle.fpl_envelope_text.proofs.Words.{spelled_length, word_at}
use Rattle.fpl_envelope_text.proofs.Rows.{row_written}
use Rattle.fpl_envelope_text.proofs.Products.{line_step, line_end}
use Rattle.fpl_envelope_text.proofs.lines.push_element.Goals as goal

pub basis-requires : goal.basis-requires
basis-requires g c =
    let in_weight = c.requires.letter.1 in
    let most = through_within c.args.table.now c.weight-most.ensures.shape c.args.w in
    (c.requires.letter.0, omega (arith, in_weight, most))

pub overflow_sub-weight : goal.overflow_sub-weight
overflow_sub-weight g c =
    let T = c.args.table.now in
    let some = c.requires.letter.0 in
    let in_weight = c.requires.letter.1 in
    let same : c.basis.result.weight ≡ (plain_basis T (c.args.i - 1)).weight = ap (λ b. b.weight) c.basis.ensures.value in
    let light = through_below T c.weight-most.ensures.shape c.args.w (c.args.i - 1) (omega (arith, some, in_weight)) in
    omega (arith, same, light)

pub skipped-number-end-requires-clause-letter : goal.skipped-number-end-requires-clause-letter
skipped-number-end-requires-clause-letter g c =
    let in_weight = c.requires.letter.1 in
    let most = through_within c.args.table.now c.weight-most.ensures.shape c.args.w in
    (c.requires.letter.0, omega (arith, in_weight, most))

pub bounds-words-number : goal.bounds-words-number
bounds-words-number g c =
    let T = c.args.table.now in
    let shape = c.weight-most.ensures.shape in
    let weight = c.args.w - c.basis.result.weight in
    let some = c.requires.letter.0 in
    let in_weight = c.requires.letter.1 in
    let most = through_within T shape c.args.w in
    let listed = c.requires.listed in
    let words : c.of-words.result.now ≡ spelled_words T weight = c.of-words.ensures ∙ c.requires.lists weight (omega (arith, listed)) in
    let long = spelled_length T weight c.of-words.result.now words in
    let within = skipped_within (field_in T) (math_in T) (weighted T shape) weight (c.args.i - 1) (omega (arith, some, in_weight, most)) in
    let end : c.skipped-number-end.result ≡ skipped_in T weight (c.args.i - 1) = c.skipped-number-end.ensures.value in
    let less = c.loop-number-test.true in
    omega (arith, long, within, end, less)

pub loop-number-preserved : goal.loop-number-preserved
loop-number-preserved g c =
    let T = c.args.table.now in
    let shape = c.weight-most.ensures.shape in
    let weight = c.args.w - c.basis.result.weight in
    let some = c.requires.letter.0 in
    let in_weight = c.requires.letter.1 in
    let most = through_within T shape c.args.w in
    let listed = c.requires.listed in
    let words : c.of-words.result.now ≡ spelled_words T weight = c.of-words.ensures ∙ c.requires.lists weight (omega (arith, listed)) in
    let names : c.of-names.result.now ≡ spelled_words T c.args.w = c.of-names.ensures ∙ c.requires.lists c.args.w listed in
    let own : c.basis.result.weight ≡ (plain_basis T (c.args.i - 1)).weight = ap (λ b. b.weight) c.basis.ensures.value in
    let same : c.args.w - c.basis.result.weight ≡ c.args.w - (plain_basis T (c.args.i - 1)).weight = ap (λ x. c.args.w - x) own in
    let in_basis : c.args.i - 1 < length T.basis = omega (arith, some, in_weight, most) in
    let within = skipped_within (field_in T) (math_in T) (weighted T shape) weight (c.args.i - 1) in_basis in
    let end : c.skipped-number-end.result ≡ skipped_in T weight (c.args.i - 1) = c.skipped-number-end.ensures.value in
    let less = c.loop-number-test.true in
    let skips : c.loop-number.number < skipped_in T (c.args.w - (plain_basis T (c.args.i - 1)).weight) (c.args.i - 1) =
    subst (λ v. c.loop-number.number < skipped_in T v (c.args.i - 1)) same (omega (arith, end, less)) in
    let first : c.args.i ≡ suc (c.args.i - 1) = omega (arith, some) in
    let word = word_at T weight (c.args.w - (plain_basis T (c.args.i - 1)).weight) c.loop-number.number c.of-words.result.now c.index-words-number.result
    words same (omega (arith, within, end, less)) c.index-words-number.is in
    line_step T shape (c.args.out.now.items ++ product_lines (lines_at T c.args.w (c.args.i - 1))) c.loop-number.out.items c.push_line.new.out.items
    (row_line c.of-names.result.now c.args.i c.index-words-number.result c.row-row.result.now) c.args.w (c.args.i - 1) c.loop-number.number in_basis
    (through_below T shape c.args.w (c.args.i - 1) (omega (arith, some, in_weight))) skips
    (ap (λ ns. row_line ns c.args.i c.index-words-number.result c.row-row.result.now) names
    ∙ row_written T c.requires.table.residues shape c.args.w (c.args.i - 1) (c.args.w - (plain_basis T (c.args.i - 1)).weight) c.loop-number.number
    c.row-row.result.now c.index-words-number.result c.args.i first word c.row-row.ensures)
    c.in_ok-push_line.ensures c.loop-number.invariant

pub returns : goal.returns
returns g c =
    let T = c.args.table.now in
    let shape = c.weight-most.ensures.shape in
    let some = c.requires.letter.0 in
    let in_weight = c.requires.letter.1 in
    let most = through_within T shape c.args.w in
    let own : c.basis.result.weight ≡ (plain_basis T (c.args.i - 1)).weight = ap (λ b. b.weight) c.basis.ensures.value in
    let end : c.skipped-number-end.result ≡ skipped_in T (c.args.w - c.basis.result.weight) (c.args.i - 1) = c.skipped-number-end.ensures.value in
    let over = c.loop-number-test.false in
    line_end T shape (c.args.out.now.items ++ product_lines (lines_at T c.args.w (c.args.i - 1))) c.loop-number.out.items c.args.w (c.args.i - 1)
    c.loop-number.number (omega (arith, some, in_weight, most)) (through_below T shape c.args.w (c.args.i - 1) (omega (arith, some, in_weight)))
    (subst (λ x. skipped_in T (c.args.w - x) (c.args.i - 1) ≤ c.loop-number.number) own (omega (arith, end, over))) c.loop-number.invariant
