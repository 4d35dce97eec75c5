use Rattle.std.proofs.Common.{◌≡◌, ◌+◌, ◌-◌, ◌∙◌, List, ap₂, sym, subst, arith}
use Rattle.fpl_numbers.specs.declared.number.Num.{Num}
use Rattle.fpl_numbers.specs.Results.{Gives}
use Rattle.fpl_table.specs.Plain.{entry_row}
use Rattle.fpl_table.specs.Sums.{add_each}
use Rattle.plain_cohomology.specs.Plain.{add_term}
use Rattle.fpl_cohomology.proofs.Cells.{entry_regular}
use Rattle.fpl_cohomology.proofs.terms.add_terms.Goals as goal

pub returns-clause-value : goal.returns-clause-value
returns-clause-value g c =
    let one : c.args.i + 1 - 1 ≡ c.args.i = omega arith in
    let two : c.args.j + 1 - 1 ≡ c.args.j = omega arith in
    let entry = c.entry.ensures.value ∙ ap₂ (λ i j. entry_row c.args.table.now i j) one two
    ∙ sym (entry_regular c.args.table.now c.basis_len-count.ensures.shape c.args.i c.args.j c.requires.regular) in
    subst (λ (e : List Num). Gives c.add_each.result c.add_each.new.row
    (add_each (add_term c.args.table.now c.args.pairs.now c.args.beside.negated c.args.beside.place) 0 e c.args.row.now)) entry c.add_each.ensures.value
