use Rattle.std.proofs.Common.{◌-◌, List, length, sym, ap, subst}
use Rattle.fpl_numbers.specs.declared.number.Num.{Num}
use Rattle.fpl_envelope.specs.Counts.{words_in}
use Rattle.fpl_envelope.specs.Action.{StandsFor, Adds, acted}
use Rattle.fpl_envelope.proofs.Adding.{stands_sum}
use Rattle.fpl_envelope.proofs.building.product_row.Goals as goal

pub returns-clause-value : goal.returns-clause-value
returns-clause-value g c =
    let T = c.args.table.now in
    subst (StandsFor T c.args.w (acted T (c.args.i - 1) c.args.at.weight c.args.at.number)) (sym c.in_ok-row.ensures)
    (stands_sum T c.requires.table.residues.accepted c.args.w (acted T (c.args.i - 1) c.args.at.weight c.args.at.number) (length (words_in T c.args.w))
    c.add_product.new.sum.row c.add_product.ensures.sum.row_of
    (subst (λ (r : List Num). Adds T c.args.w (acted T (c.args.i - 1) c.args.at.weight c.args.at.number) r c.add_product.new.sum.row)
    (ap (λ s. s.row) c.requires.empty) c.add_product.ensures.adds))
