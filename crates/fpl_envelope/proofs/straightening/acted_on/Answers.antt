use Rattle.std.proofs.Common.{◌≡◌, ◌+◌, ◌-◌, List, sym, ap, subst}
use Rattle.fpl_numbers.specs.declared.number.Num.{Num}
use Rattle.math_words.specs.Action.{action}
use Rattle.fpl_table.specs.Plain.{plain_basis}
use Rattle.fpl_envelope.specs.Action.{StandsFor, Adds, row_value, field_in, math_in}
use Rattle.fpl_envelope.proofs.Adding.{stands_sum}
use Rattle.fpl_envelope.proofs.straightening.acted_on.Goals as goal

pub returns-clause-value : goal.returns-clause-value
returns-clause-value g c =
    let T = c.args.table.now in
    let same : c.basis.result.weight ≡ (plain_basis T (c.args.i - 1)).weight = ap (λ b. b.weight) c.basis.ensures.value in
    subst (λ w. StandsFor T w (λ f. row_value T c.args.u.now.weight c.args.u.now.row (λ z. action (field_in T) (math_in T) (c.args.i - 1) z f)) c.in_ok-row.row)
    (ap (λ b. b + c.args.u.now.weight) same)
    (subst (StandsFor T (c.basis.result.weight + c.args.u.now.weight)
    (λ f. row_value T c.args.u.now.weight c.args.u.now.row (λ z. action (field_in T) (math_in T) (c.args.i - 1) z f))) (sym c.in_ok-row.ensures)
    (stands_sum T c.requires.table.residues.accepted (c.basis.result.weight + c.args.u.now.weight)
    (λ f. row_value T c.args.u.now.weight c.args.u.now.row (λ z. action (field_in T) (math_in T) (c.args.i - 1) z f)) c.total-size.result
    c.add_each.new.sum.row c.add_each.ensures.sum.row_of
    (subst (λ (r : List Num). Adds T (c.basis.result.weight + c.args.u.now.weight)
    (λ f. row_value T c.args.u.now.weight c.args.u.now.row (λ z. action (field_in T) (math_in T) (c.args.i - 1) z f)) r c.add_each.new.sum.row)
    (ap (λ s. s.row) c.in_ok-sum.ensures) c.add_each.ensures.adds)))
