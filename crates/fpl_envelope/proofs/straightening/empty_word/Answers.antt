use Rattle.std.proofs.Common.{◌≡◌, [], List, length, get_or, sym, ap, ◌∙◌, subst, arith}
use Rattle.fpl_numbers.specs.declared.number.Num.{Num}
use Rattle.math_linear.proofs.Numbers.{unit-times}
use Rattle.plain_envelope.proofs.Listing.{no_letters}
use Rattle.fpl_envelope.specs.Counts.{words_in, word_in}
use Rattle.fpl_envelope.specs.Action.{StandsFor, Adds, multiple, field_in, math_in}
use Rattle.fpl_envelope.proofs.CountRows.{one_of_none}
use Rattle.fpl_envelope.proofs.Adding.{adds_place, stands_sum, sum_start, sum_kept}
use Rattle.fpl_envelope.proofs.Residues.{unit_at}
use Rattle.fpl_envelope.proofs.straightening.empty_word.Goals as goal

pub returns-clause-value : goal.returns-clause-value
returns-clause-value g c =
    let T = c.args.table.now in
    let one : length (words_in T 0) ≡ 1 = one_of_none T in
    let kind = ap (λ s. s.kind) c.in_ok-sum.ensures ∙ c.field.ensures in
    let sum = sum_start T c.requires.residues.accepted 0 1 _ c.in_ok-sum.sum c.in_ok-sum.ensures c.field.ensures (sym one) in
    let stand = stands_sum T c.requires.residues.accepted 0 (multiple T (g.F.Field.number c.one.result) (λ f. f (word_in T 0 0))) 1 c.add_at.new.sum.row
    (sum_kept T 0 c.in_ok-sum.sum c.add_at.new.sum sum c.add_at.ensures.kind c.add_at.ensures.row).row_of
    (subst (λ (r : List Num). Adds T 0 (multiple T (g.F.Field.number c.one.result) (λ f. f (word_in T 0 0))) r c.add_at.new.sum.row)
    (ap (λ s. s.row) c.in_ok-sum.ensures)
    (adds_place T 0 c.in_ok-sum.sum.kind 0 (g.F.Field.number c.one.result) c.in_ok-sum.sum.row c.add_at.new.sum.row kind (omega (arith, one))
    c.add_at.ensures.value)) in
    subst (StandsFor T 0 (λ f. f [])) (sym c.in_ok-row.ensures) (record {
      row_of = stand.row_of;
      value = λ f. stand.value f ∙ ap (λ a. (field_in T).times a (f (word_in T 0 0))) (unit_at T.kind c.requires.residues.accepted
          (g.F.Field.number c.one.result) c.one.ensures.value)
          ∙ unit-times (field_in T) (f (word_in T 0 0)) ∙ ap (λ us. f (get_or us 0 [])) (no_letters (field_in T) (math_in T));
    })
