use Rattle.std.proofs.Common.{◌∙◌, sym, subst, ap, ◌<◌}
use Rattle.fpl_numbers.specs.Numbers.{residue}
use Rattle.fpl_model.specs.declared.expr.Expr.TheVariants.{Times}
use Rattle.fpl_forms.specs.Combining.{multiplied}
use Rattle.fpl_forms.proofs.Ledgers.{grows_trans, grows_right, grows_left}
use Rattle.fpl_forms.proofs.Moves.{grows_atoms}
use Rattle.fpl_forms.proofs.Gathering.{grows_work}
use Rattle.fpl_forms.proofs.ledger.Ledger.times_left.Goals as goal

pub times-requires-clause-atoms : goal.times-requires-clause-atoms
times-requires-clause-atoms c = grows_atoms c.in_ok-out.ensures.grows c.args.values.now c.requires.values

pub times-requires-clause-number : goal.times-requires-clause-number
times-requires-clause-number c = subst (λ q. c.args.number < q) (sym c.in_ok-out.ensures.grows.prime) c.requires.number

pub times-requires-clause-work : goal.times-requires-clause-work
times-requires-clause-work c = grows_work c.in_ok-out.ensures.grows c.args.values.now c.args.sum.now c.requires.work

pub led-requires-clause-meet : goal.led-requires-clause-meet
led-requires-clause-meet c =
    let g = c.in_ok-out.ensures.grows in
    let says = c.in_ok-out.ensures.says in
    grows_right c.in_ok-scaled.ensures.grows c.in_ok-out.out (says.from_one, says.to_end) ∙ says.right ∙
    sym (c.in_ok-scaled.ensures.left ∙
    ap (λ x. Times (residue c.args.number) x) (grows_left g c.args.sum.now.line c.requires.work.within ∙ c.requires.bracket))

pub returns-clause-grows : goal.returns-clause-grows
returns-clause-grows c = grows_trans c.in_ok-out.ensures.grows (grows_trans c.in_ok-scaled.ensures.grows c.in_ok-led.ensures.grows)

pub returns-clause-left : goal.returns-clause-left
returns-clause-left c =
    let says = c.in_ok-out.ensures.says in
    c.in_ok-led.ensures.left ∙ grows_left c.in_ok-scaled.ensures.grows c.in_ok-out.out (says.from_one, says.to_end) ∙ says.left

pub returns-clause-terms : goal.returns-clause-terms
returns-clause-terms c =
    c.in_ok-led.ensures.terms ∙ c.in_ok-scaled.ensures.terms ∙
    ap (λ q. multiplied q c.args.number c.args.sum.now.terms.items) c.in_ok-out.ensures.grows.prime
