use Rattle.std.proofs.Common.{◌≡◌, ◌<◌, ◌+◌, ◌-◌, length, get_or, ap, ap₂, subst, sym, ◌∙◌, arith}
use Rattle.std.proofs.lemmas.List.{get_or_read}
use Rattle.fpl_model.specs.declared.expr.Expr.TheVariants.{Zero, Br}
use Rattle.fpl_table.specs.Plain.{basis_in, plain_basis}
use Rattle.fpl_forms.specs.Combining.{multiplied}
use Rattle.fpl_facts.specs.Axioms.{HasParityIn, swap_number}
use Rattle.fpl_facts.specs.Facts.{IsFact}
use Rattle.fpl_table_facts.proofs.Grown.{grows_known, grows_row}
use Rattle.fpl_table_facts.specs.Rows.{pair_leaf}
use Rattle.fpl_table_facts.proofs.Levels.{atom_parity}
use Rattle.fpl_table_facts.proofs.LeafRows.{turned_row}
use Rattle.fpl_table_facts.proofs.leaves.exchanged_leaf.Goals as goal

pub swapped-requires-clause-first : goal.swapped-requires-clause-first
swapped-requires-clause-first c =
    let k = c.args.known.now in
    let i = c.args.i in
    let back : i + 1 - 1 ≡ i = omega arith in
    let is : basis_in c.basis.result ≡ plain_basis k.table i = c.basis.ensures.value ∙ ap (plain_basis k.table) back in
    let at = get_or_read k.basis.items i _ c.requires.first c.index-left.ensures Zero in
    subst (λ e. HasParityIn c.regular_leaf.new.ledger.presentation e c.basis.result.parity) (sym at)
    (atom_parity (grows_known c.in_ok-turned.ensures.grows c.requires.known) i c.requires.first c.basis.result is)

pub swapped-requires-clause-second : goal.swapped-requires-clause-second
swapped-requires-clause-second c =
    let k = c.args.known.now in
    let j = c.args.j in
    let first = c.requires.first in
    let second = c.requires.second in
    let lt : j < length k.basis.items = omega (arith, first, second) in
    let back : j + 1 - 1 ≡ j = omega arith in
    let is : basis_in c.basis-2.result ≡ plain_basis k.table j = c.basis-2.ensures.value ∙ ap (plain_basis k.table) back in
    let at = get_or_read k.basis.items j _ lt c.index-right.ensures Zero in
    subst (λ e. HasParityIn c.regular_leaf.new.ledger.presentation e c.basis-2.result.parity) (sym at)
    (atom_parity (grows_known c.in_ok-turned.ensures.grows c.requires.known) j lt c.basis-2.result is)

pub returns-clause-row : goal.returns-clause-row
returns-clause-row c =
    let k = c.args.known.now in
    let n = c.args.next.now in
    let M = c.swapped.new.ledger in
    let i = c.args.i in
    let j = c.args.j in
    let first = c.requires.first in
    let second = c.requires.second in
    let lt : j < length k.basis.items = omega (arith, first, second) in
    let g = c.in_ok-row.ensures.grows in
    let known = grows_known g (grows_known c.in_ok-turned.ensures.grows c.requires.known) in
    let at : c.index-left.result.now ≡ get_or k.basis.items i Zero = get_or_read k.basis.items i _ first c.index-left.ensures Zero in
    let at_other : c.index-right.result.now ≡ get_or k.basis.items j Zero = get_or_read k.basis.items j _ lt c.index-right.ensures Zero in
    let back : i + 1 - 1 ≡ i = omega arith in
    let other : j + 1 - 1 ≡ j = omega arith in
    let is : basis_in c.basis.result ≡ plain_basis k.table i = c.basis.ensures.value ∙ ap (plain_basis k.table) back in
    let js : basis_in c.basis-2.result ≡ plain_basis k.table j = c.basis-2.ensures.value ∙ ap (plain_basis k.table) other in
    let s = c.basis.result.parity in
    let t = c.basis-2.result.parity in
    turned_row M k n c.sound.ensures known.holds i j c.requires.weight second s t (ap (λ b. b.parity) is) (ap (λ b. b.parity) js)
    (Br (get_or k.basis.items j Zero) (get_or k.basis.items i Zero)) (Br (get_or k.basis.items i Zero) (get_or k.basis.items j Zero))
    c.in_ok-turned.turned c.in_ok-row.row
    (grows_row g (λ p. pair_leaf p k.table j i) c.in_ok-turned.ensures.row)
    (subst (λ e. IsFact M n.trees.items e c.in_ok-row.row) (ap₂ Br at at_other)
    (subst (λ es. IsFact M es (Br c.index-left.result.now c.index-right.result.now) c.in_ok-row.row) c.deref.ensures.value c.in_ok-row.ensures.fact))
    (c.in_ok-row.ensures.terms ∙ ap (λ q. multiplied q (swap_number q s t) c.in_ok-turned.turned.terms.items) (sym g.prime))
