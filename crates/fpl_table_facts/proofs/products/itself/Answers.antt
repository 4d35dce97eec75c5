use Rattle.std.proofs.Common.{◌≡◌, ◌+◌, ◌-◌, get_or, ap, sym, subst, ◌∙◌, arith}
use Rattle.std.proofs.lemmas.List.{get_or_read}
use Rattle.fpl_model.specs.declared.expr.Expr.TheVariants.{Zero}
use Rattle.fpl_table.specs.Plain.{plain_basis}
use Rattle.fpl_facts.specs.Axioms.{HasParityIn}
use Rattle.fpl_table_facts.proofs.Levels.{basis_length, basis_small, atom_parity}
use Rattle.fpl_table_facts.proofs.products.itself.Goals as goal

pub overflow_add-i : goal.overflow_add-i
overflow_add-i c = let e = basis_small c.requires.known in omega (arith, e, c.requires.within)

pub basis-requires : goal.basis-requires
basis-requires c = let e = basis_length c.requires.known in (omega arith, omega (arith, e, c.requires.within))

pub square-requires-clause-even : goal.square-requires-clause-even
square-requires-clause-even c =
    let k = c.args.known.now in
    let i = c.args.i in
    let back : i + 1 - 1 ≡ i = omega arith in
    let at : c.index.result.now ≡ get_or k.basis.items i Zero = get_or_read k.basis.items i _ c.requires.within c.index.ensures Zero in
    subst (HasParityIn c.args.ledger.now.presentation c.index.result.now) c.in-Even.is
    (subst (λ e. HasParityIn c.args.ledger.now.presentation e c.basis.result.parity) (sym at)
    (atom_parity c.requires.known i c.requires.within c.basis.result (c.basis.ensures.value ∙ ap (plain_basis k.table) back)))
