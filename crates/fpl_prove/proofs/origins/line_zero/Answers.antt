use Rattle.std.proofs.Common.{◌≡◌, ap₂, sym, subst, ◌∙◌}
use Rattle.fpl_forms.specs.Forms.{IsWork}
use Rattle.fpl_forms.specs.Ledgers.{left_of, right_of}
use Rattle.fpl_forms.proofs.Ledgers.{grows_trans, grows_left}
use Rattle.fpl_forms.proofs.Gathering.{grows_work}
use Rattle.fpl_facts.specs.Facts.{less, IsZero}
use Rattle.fpl_table_facts.specs.Rows.{IsRow, expr_row}
use Rattle.fpl_table_facts.proofs.Grown.{grows_row}
use Rattle.fpl_prove.proofs.LineZeros.{line_zero}
use Rattle.fpl_prove.proofs.origins.line_zero.Goals as goal

pub less-requires-clause-first : goal.less-requires-clause-first
less-requires-clause-first c =
    let x = c.in_ok-first in
    subst (λ es. IsWork c.led.new.self es x.first) (sym c.deref-2.ensures.value)
    (grows_work (grows_trans c.in_ok-second.ensures.grows c.in_ok-led.ensures.grows) c.args.next.now.trees.items x.first x.ensures.row.fact.work)

pub less-requires-clause-meet : goal.less-requires-clause-meet
less-requires-clause-meet c =
    let x = c.in_ok-first in
    let g = grows_trans x.ensures.grows c.in_ok-second.ensures.grows in
    grows_left (grows_trans c.in_ok-second.ensures.grows c.in_ok-led.ensures.grows) x.first.line x.ensures.row.fact.work.within ∙ x.ensures.row.fact.left ∙
    c.in_ok-left.ensures ∙ c.line.ensures.left ∙ sym (c.in_ok-led.ensures.left ∙ grows_left g c.args.n c.requires.line)

pub returns-clause-grows : goal.returns-clause-grows
returns-clause-grows c =
    grows_trans c.in_ok-first.ensures.grows (grows_trans c.in_ok-second.ensures.grows (grows_trans c.in_ok-led.ensures.grows c.in_ok-zero.ensures.grows))

pub returns-clause-zero : goal.returns-clause-zero
returns-clause-zero c =
    let x = c.in_ok-first in
    let y = c.in_ok-second in
    let d = c.in_ok-led in
    let z = c.in_ok-zero in
    let L = c.args.ledger.now in
    let M = c.row-2.new.ledger in
    let n = c.args.next.now in
    let T = c.args.known.now.table in
    let left : c.in_ok-left.left ≡ left_of L c.args.n = c.in_ok-left.ensures ∙ c.line.ensures.left in
    let right : c.in_ok-right.right ≡ right_of L c.args.n = c.in_ok-right.ensures ∙ c.line-2.ensures.right in
    let a : IsRow M n (left_of L c.args.n) (expr_row M.presentation T (left_of L c.args.n)) x.first =
    subst (λ e. IsRow M n e (expr_row M.presentation T e) x.first) left
    (grows_row y.ensures.grows (λ p. expr_row p T c.in_ok-left.left) x.ensures.row) in
    let b : IsRow M n (right_of L c.args.n) (expr_row M.presentation T (right_of L c.args.n)) y.second =
    subst (λ e. IsRow M n e (expr_row M.presentation T e) y.second) right y.ensures.row in
    line_zero M c.sound.ensures n T (left_of L c.args.n) (right_of L c.args.n) x.first y.second a b (grows_trans d.ensures.grows z.ensures.grows) z.zero
    (subst (λ es. IsZero c.less.new.ledger es z.zero) c.deref-2.ensures.value z.ensures.fact)
    (z.ensures.terms ∙ ap₂ (λ q ts. less q x.first.terms.items ts) d.ensures.grows.prime d.ensures.terms)
