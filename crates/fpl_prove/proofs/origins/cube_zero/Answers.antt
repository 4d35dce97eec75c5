use Rattle.std.proofs.Common.{◌≡◌, ◌-◌, length, get_or, ap, sym, subst, ◌∙◌, arith}
use Rattle.std.proofs.lemmas.List.{get_or_read}
use Rattle.fpl_model.specs.declared.expr.Expr.TheVariants.{Zero, Br}
use Rattle.fpl_log.specs.declared.step.Origin.TheVariants.{Cube}
use Rattle.fpl_model.specs.declared.presentation.Parity.TheVariants.{Odd}
use Rattle.fpl_forms.specs.Ledgers.{IsExpr, left_of, right_of}
use Rattle.fpl_forms.proofs.Ledgers.{grows_trans}
use Rattle.fpl_facts.specs.Axioms.{HasParityIn}
use Rattle.fpl_table_facts.specs.Rows.{IsDue}
use Rattle.fpl_table_facts.proofs.Grown.{grows_known}
use Rattle.fpl_table_facts.proofs.Levels.{basis_length, atom_over}
use Rattle.fpl_prove.proofs.LineZeros.{as_origin}
use Rattle.fpl_prove.proofs.Monomials.{triple_left, none_due}
use Rattle.fpl_prove.proofs.OriginTests.{cube_next, atom_has}
use Rattle.fpl_prove.proofs.TripleRows.{cube_vector}
use Rattle.fpl_prove.proofs.origins.cube_zero.Goals as goal

pub index-a-requires : goal.index-a-requires
index-a-requires c =
    let k = c.args.known.now in
    let i = c.args.i in
    let r = cube_next k.table i (length k.basis.items) (basis_length c.requires.known) c.requires.cube in
    let l = r.within in
    let len = k.basis.ok.0 in
    omega (arith, l, len)

pub cube-requires-clause-over : goal.cube-requires-clause-over
cube-requires-clause-over c =
    let k = c.args.known.now in
    let i = c.args.i in
    let r = cube_next k.table i (length k.basis.items) (basis_length c.requires.known) c.requires.cube in
    let at : c.index-a.result.now ≡ get_or k.basis.items (i - 1) Zero = get_or_read k.basis.items (i - 1) _ r.within c.index-a.ensures Zero in
    subst (IsExpr c.args.ledger.now.presentation) (sym at) (atom_over c.requires.known (i - 1) r.within)

pub cube-requires-clause-odd : goal.cube-requires-clause-odd
cube-requires-clause-odd c =
    let k = c.args.known.now in
    let i = c.args.i in
    let r = cube_next k.table i (length k.basis.items) (basis_length c.requires.known) c.requires.cube in
    let at : c.index-a.result.now ≡ get_or k.basis.items (i - 1) Zero = get_or_read k.basis.items (i - 1) _ r.within c.index-a.ensures Zero in
    subst (λ e. HasParityIn c.args.ledger.now.presentation e Odd) (sym at) (atom_has c.requires.known (i - 1) r.within Odd (sym r.is_odd))

pub line_zero-requires-clause-known : goal.line_zero-requires-clause-known
line_zero-requires-clause-known c = grows_known c.in_ok-n.ensures.grows c.requires.known

pub line_zero-requires-clause-left : goal.line_zero-requires-clause-left
line_zero-requires-clause-left c =
    let k = c.args.known.now in
    let i = c.args.i in
    let r = cube_next k.table i (length k.basis.items) (basis_length c.requires.known) c.requires.cube in
    let at : c.index-a.result.now ≡ get_or k.basis.items (i - 1) Zero = get_or_read k.basis.items (i - 1) _ r.within c.index-a.ensures Zero in
    let L = c.args.ledger.now in
    subst (λ p. IsDue p k.table.weight (left_of c.cube.new.ledger c.in_ok-n.n)) (sym c.requires.presentation)
    (subst (IsDue L.presentation k.table.weight) (sym (c.in_ok-n.ensures.says.left ∙ ap (λ x. Br x (Br x x)) at))
    (triple_left L c.sound.ensures k c.requires.known (i - 1) (i - 1) (i - 1) r.within r.within r.within r.sum))

pub line_zero-requires-clause-right : goal.line_zero-requires-clause-right
line_zero-requires-clause-right c =
    let p = c.args.p.now in
    let d = c.args.known.now.table.weight in
    subst (IsDue p d) (sym c.in_ok-n.ensures.says.right) (none_due p d)

pub returns-clause-zero : goal.returns-clause-zero
returns-clause-zero c =
    let k = c.args.known.now in
    let i = c.args.i in
    let r = cube_next k.table i (length k.basis.items) (basis_length c.requires.known) c.requires.cube in
    let at : c.index-a.result.now ≡ get_or k.basis.items (i - 1) Zero = get_or_read k.basis.items (i - 1) _ r.within c.index-a.ensures Zero in
    let L = c.args.ledger.now in
    let x = get_or k.basis.items (i - 1) Zero in
    as_origin (grows_trans c.in_ok-n.ensures.grows c.in_ok-zero.ensures.grows) c.args.next.now c.in_ok-zero.zero k.table (Cube i)
    (Br x (Br x x)) Zero (left_of c.cube.new.ledger c.in_ok-n.n) (right_of c.cube.new.ledger c.in_ok-n.n)
    (cube_vector L c.sound.ensures k c.requires.known (i - 1) r.within)
    (c.in_ok-n.ensures.says.left ∙ ap (λ x. Br x (Br x x)) at) c.in_ok-n.ensures.says.right c.in_ok-zero.ensures.zero
