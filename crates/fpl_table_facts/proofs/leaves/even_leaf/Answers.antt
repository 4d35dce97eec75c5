use Rattle.std.proofs.Common.{get_or, ap, subst, sym}
use Rattle.std.proofs.lemmas.List.{get_or_read}
use Rattle.math_algebra.specs.Degrees.{HasParity}
use Rattle.fpl_model.specs.declared.expr.Expr.TheVariants.{Zero, Br}
use Rattle.fpl_model.specs.declared.presentation.Parity.TheVariants.{Even}
use Rattle.fpl_model.specs.Meaning.{tree_in, presentation_in}
use Rattle.fpl_facts.specs.Axioms.{HasParityIn}
use Rattle.fpl_facts.specs.Facts.{IsFact}
use Rattle.fpl_table_facts.specs.Rows.{pair_leaf}
use Rattle.fpl_table_facts.proofs.Grown.{grows_known}
use Rattle.fpl_table_facts.proofs.LeafRows.{parity_there, leaf_even, nothing_row}
use Rattle.fpl_table_facts.proofs.leaves.even_leaf.Goals as goal

pub square-requires-clause-even : goal.square-requires-clause-even
square-requires-clause-even c =
    let k = c.args.known.now in
    let p = c.args.ledger.now.presentation in
    let at = get_or_read k.basis.items c.args.i _ c.requires.within c.index.ensures Zero in
    subst (λ e. HasParityIn p e Even) (sym at)
    (subst (HasParity (presentation_in p) (tree_in p.field (get_or k.basis.items c.args.i Zero))) c.requires.even
    (parity_there c.requires.known c.args.i c.requires.within))

pub returns-clause-row : goal.returns-clause-row
returns-clause-row c =
    let k = c.args.known.now in
    let n = c.args.next.now in
    let M = c.square.new.ledger in
    let e = get_or k.basis.items c.args.i Zero in
    let known = grows_known c.in_ok-row.ensures.grows c.requires.known in
    let at = get_or_read k.basis.items c.args.i _ c.requires.within c.index.ensures Zero in
    nothing_row M k n c.sound.ensures (Br e e) c.in_ok-row.row (pair_leaf M.presentation k.table c.args.i c.args.i)
    (leaf_even M.presentation k.table known.holds c.args.i c.requires.weight c.requires.even)
    (subst (λ e. IsFact M n.trees.items e c.in_ok-row.row) (ap (λ x. Br x x) at)
    (subst (λ es. IsFact M es (Br c.index.result.now c.index.result.now) c.in_ok-row.row) c.deref.ensures.value c.in_ok-row.ensures.fact)) c.in_ok-row.ensures.terms
