use Rattle.std.proofs.Common.{◌≡◌, ◌-◌, length, get_or, ap, ap₂, sym, subst, ◌∙◌, arith}
use Rattle.std.proofs.lemmas.List.{get_or_read}
use Rattle.fpl_model.specs.declared.expr.Expr.{Expr}
use Rattle.fpl_model.specs.declared.expr.Expr.TheVariants.{Zero, Br}
use Rattle.fpl_log.specs.declared.step.Origin.TheVariants.{Jacobi}
use Rattle.fpl_forms.specs.Ledgers.{IsExpr, left_of, right_of}
use Rattle.fpl_forms.proofs.Ledgers.{grows_trans}
use Rattle.fpl_facts.specs.Axioms.{HasParityIn, sign_number, jacobi_sum}
use Rattle.fpl_facts.proofs.NextAxioms.{sign_below}
use Rattle.fpl_table_facts.specs.Rows.{IsDue}
use Rattle.fpl_table_facts.proofs.Grown.{grows_known}
use Rattle.fpl_table_facts.proofs.Levels.{basis_length, atom_over}
use Rattle.fpl_prove.proofs.LineZeros.{as_origin}
use Rattle.fpl_prove.proofs.Monomials.{triple_left, triple_right}
use Rattle.fpl_prove.proofs.OriginTests.{triple_next, atom_has}
use Rattle.fpl_prove.proofs.TripleRows.{jacobi_vector}
use Rattle.fpl_prove.proofs.origins.jacobi_zero.Goals as goal

pub index-a-requires : goal.index-a-requires
index-a-requires c =
    let k = c.args.known.now in
    let o = c.args.triple in
    let r = triple_next k.table o.0 o.1 o.2 (length k.basis.items) (basis_length c.requires.known) c.requires.triple in
    let l = r.first in
    let len = k.basis.ok.0 in
    omega (arith, l, len)

pub index-b-requires : goal.index-b-requires
index-b-requires c =
    let k = c.args.known.now in
    let o = c.args.triple in
    let r = triple_next k.table o.0 o.1 o.2 (length k.basis.items) (basis_length c.requires.known) c.requires.triple in
    let l = r.second in
    let len = k.basis.ok.0 in
    omega (arith, l, len)

pub index-c-requires : goal.index-c-requires
index-c-requires c =
    let k = c.args.known.now in
    let o = c.args.triple in
    let r = triple_next k.table o.0 o.1 o.2 (length k.basis.items) (basis_length c.requires.known) c.requires.triple in
    let l = r.third in
    let len = k.basis.ok.0 in
    omega (arith, l, len)

pub jacobi-requires-clause-left : goal.jacobi-requires-clause-left
jacobi-requires-clause-left c =
    let k = c.args.known.now in
    let o = c.args.triple in
    let r = triple_next k.table o.0 o.1 o.2 (length k.basis.items) (basis_length c.requires.known) c.requires.triple in
    let at : c.index-a.result.now ≡ get_or k.basis.items (o.0 - 1) Zero = get_or_read k.basis.items (o.0 - 1) _ r.first c.index-a.ensures Zero in
    subst (IsExpr c.args.ledger.now.presentation) (sym at) (atom_over c.requires.known (o.0 - 1) r.first)

pub jacobi-requires-clause-first : goal.jacobi-requires-clause-first
jacobi-requires-clause-first c =
    let k = c.args.known.now in
    let o = c.args.triple in
    let r = triple_next k.table o.0 o.1 o.2 (length k.basis.items) (basis_length c.requires.known) c.requires.triple in
    let at : c.index-a.result.now ≡ get_or k.basis.items (o.0 - 1) Zero = get_or_read k.basis.items (o.0 - 1) _ r.first c.index-a.ensures Zero in
    subst (λ e. HasParityIn c.args.ledger.now.presentation e c.basis.result.parity) (sym at)
    (atom_has c.requires.known (o.0 - 1) r.first c.basis.result.parity (ap (λ b. b.parity) c.basis.ensures.value))

pub jacobi-requires-clause-middle : goal.jacobi-requires-clause-middle
jacobi-requires-clause-middle c =
    let k = c.args.known.now in
    let o = c.args.triple in
    let r = triple_next k.table o.0 o.1 o.2 (length k.basis.items) (basis_length c.requires.known) c.requires.triple in
    let at : c.index-b.result.now ≡ get_or k.basis.items (o.1 - 1) Zero = get_or_read k.basis.items (o.1 - 1) _ r.second c.index-b.ensures Zero in
    subst (IsExpr c.args.ledger.now.presentation) (sym at) (atom_over c.requires.known (o.1 - 1) r.second)

pub jacobi-requires-clause-second : goal.jacobi-requires-clause-second
jacobi-requires-clause-second c =
    let k = c.args.known.now in
    let o = c.args.triple in
    let r = triple_next k.table o.0 o.1 o.2 (length k.basis.items) (basis_length c.requires.known) c.requires.triple in
    let at : c.index-b.result.now ≡ get_or k.basis.items (o.1 - 1) Zero = get_or_read k.basis.items (o.1 - 1) _ r.second c.index-b.ensures Zero in
    subst (λ e. HasParityIn c.args.ledger.now.presentation e c.basis-2.result.parity) (sym at)
    (atom_has c.requires.known (o.1 - 1) r.second c.basis-2.result.parity (ap (λ b. b.parity) c.basis-2.ensures.value))

pub jacobi-requires-clause-right : goal.jacobi-requires-clause-right
jacobi-requires-clause-right c =
    let k = c.args.known.now in
    let o = c.args.triple in
    let r = triple_next k.table o.0 o.1 o.2 (length k.basis.items) (basis_length c.requires.known) c.requires.triple in
    let at : c.index-c.result.now ≡ get_or k.basis.items (o.2 - 1) Zero = get_or_read k.basis.items (o.2 - 1) _ r.third c.index-c.ensures Zero in
    subst (IsExpr c.args.ledger.now.presentation) (sym at) (atom_over c.requires.known (o.2 - 1) r.third)

pub jacobi-requires-clause-third : goal.jacobi-requires-clause-third
jacobi-requires-clause-third c =
    let k = c.args.known.now in
    let o = c.args.triple in
    let r = triple_next k.table o.0 o.1 o.2 (length k.basis.items) (basis_length c.requires.known) c.requires.triple in
    let at : c.index-c.result.now ≡ get_or k.basis.items (o.2 - 1) Zero = get_or_read k.basis.items (o.2 - 1) _ r.third c.index-c.ensures Zero in
    subst (λ e. HasParityIn c.args.ledger.now.presentation e c.basis-3.result.parity) (sym at)
    (atom_has c.requires.known (o.2 - 1) r.third c.basis-3.result.parity (ap (λ b. b.parity) c.basis-3.ensures.value))

pub line_zero-requires-clause-known : goal.line_zero-requires-clause-known
line_zero-requires-clause-known c = grows_known c.in_ok-n.ensures.grows c.requires.known

pub line_zero-requires-clause-left : goal.line_zero-requires-clause-left
line_zero-requires-clause-left c =
    let k = c.args.known.now in
    let o = c.args.triple in
    let r = triple_next k.table o.0 o.1 o.2 (length k.basis.items) (basis_length c.requires.known) c.requires.triple in
    let L = c.args.ledger.now in
    let at-a : c.index-a.result.now ≡ get_or k.basis.items (o.0 - 1) Zero = get_or_read k.basis.items (o.0 - 1) _ r.first c.index-a.ensures Zero in
    let at-b : c.index-b.result.now ≡ get_or k.basis.items (o.1 - 1) Zero = get_or_read k.basis.items (o.1 - 1) _ r.second c.index-b.ensures Zero in
    let at-c : c.index-c.result.now ≡ get_or k.basis.items (o.2 - 1) Zero = get_or_read k.basis.items (o.2 - 1) _ r.third c.index-c.ensures Zero in
    subst (λ p. IsDue p k.table.weight (left_of c.jacobi.new.ledger c.in_ok-n.n)) (sym c.requires.presentation)
    (subst (IsDue L.presentation k.table.weight) (sym (c.in_ok-n.ensures.says.left ∙ ap₂ Br at-a (ap₂ Br at-b at-c)))
    (triple_left L c.sound.ensures k c.requires.known (o.0 - 1) (o.1 - 1) (o.2 - 1) r.first r.second r.third r.sum))

pub line_zero-requires-clause-right : goal.line_zero-requires-clause-right
line_zero-requires-clause-right c =
    let k = c.args.known.now in
    let o = c.args.triple in
    let r = triple_next k.table o.0 o.1 o.2 (length k.basis.items) (basis_length c.requires.known) c.requires.triple in
    let L = c.args.ledger.now in
    let n = sign_number L.prime c.basis.result.parity c.basis-2.result.parity in
    let at-a : c.index-a.result.now ≡ get_or k.basis.items (o.0 - 1) Zero = get_or_read k.basis.items (o.0 - 1) _ r.first c.index-a.ensures Zero in
    let at-b : c.index-b.result.now ≡ get_or k.basis.items (o.1 - 1) Zero = get_or_read k.basis.items (o.1 - 1) _ r.second c.index-b.ensures Zero in
    let at-c : c.index-c.result.now ≡ get_or k.basis.items (o.2 - 1) Zero = get_or_read k.basis.items (o.2 - 1) _ r.third c.index-c.ensures Zero in
    subst (λ p. IsDue p k.table.weight (right_of c.jacobi.new.ledger c.in_ok-n.n)) (sym c.requires.presentation)
    (subst (IsDue L.presentation k.table.weight) (sym (c.in_ok-n.ensures.says.right ∙ ap₂ (λ x (y : Expr × Expr). jacobi_sum n x y.0 y.1) at-a
    (ap₂ (λ (x y : Expr). (x, y)) at-b at-c)))
    (triple_right L c.sound.ensures k c.requires.known n (sign_below L.prime c.sound.ensures.listed c.basis.result.parity c.basis-2.result.parity)
    (o.0 - 1) (o.1 - 1) (o.2 - 1) r.first r.second r.third r.sum))

pub returns-clause-zero : goal.returns-clause-zero
returns-clause-zero c =
    let k = c.args.known.now in
    let o = c.args.triple in
    let r = triple_next k.table o.0 o.1 o.2 (length k.basis.items) (basis_length c.requires.known) c.requires.triple in
    let L = c.args.ledger.now in
    let s = c.basis.result.parity in
    let t = c.basis-2.result.parity in
    let n = sign_number L.prime s t in
    let at-a : c.index-a.result.now ≡ get_or k.basis.items (o.0 - 1) Zero = get_or_read k.basis.items (o.0 - 1) _ r.first c.index-a.ensures Zero in
    let at-b : c.index-b.result.now ≡ get_or k.basis.items (o.1 - 1) Zero = get_or_read k.basis.items (o.1 - 1) _ r.second c.index-b.ensures Zero in
    let at-c : c.index-c.result.now ≡ get_or k.basis.items (o.2 - 1) Zero = get_or_read k.basis.items (o.2 - 1) _ r.third c.index-c.ensures Zero in
    let x = get_or k.basis.items (o.0 - 1) Zero in
    let y = get_or k.basis.items (o.1 - 1) Zero in
    let z = get_or k.basis.items (o.2 - 1) Zero in
    as_origin (grows_trans c.in_ok-n.ensures.grows c.in_ok-zero.ensures.grows) c.args.next.now c.in_ok-zero.zero k.table (Jacobi o.0 o.1 o.2)
    (Br x (Br y z)) (jacobi_sum n x y z) (left_of c.jacobi.new.ledger c.in_ok-n.n) (right_of c.jacobi.new.ledger c.in_ok-n.n)
    (jacobi_vector L c.sound.ensures k c.requires.known (o.0 - 1) (o.1 - 1) (o.2 - 1) r.first r.second r.third s t
    (ap (λ b. b.parity) c.basis.ensures.value) (ap (λ b. b.parity) c.basis-2.ensures.value))
    (c.in_ok-n.ensures.says.left ∙ ap₂ Br at-a (ap₂ Br at-b at-c))
    (c.in_ok-n.ensures.says.right ∙ ap₂ (λ x (y : Expr × Expr). jacobi_sum n x y.0 y.1) at-a (ap₂ (λ (x y : Expr). (x, y)) at-b at-c))
    c.in_ok-zero.ensures.zero
