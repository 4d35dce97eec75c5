use Rattle.std.proofs.Common.{◌∙◌, sym, ap}
use Rattle.fpl_model.specs.declared.expr.Expr.TheVariants.{Sum}
use Rattle.fpl_forms.specs.Forms.{tidied}
use Rattle.fpl_forms.specs.Combining.{joined}
use Rattle.fpl_forms.proofs.Ledgers.{grows_trans, grows_right, grows_left}
use Rattle.fpl_forms.proofs.Moves.{grows_atoms}
use Rattle.fpl_forms.proofs.Gathering.{grows_works, grows_lefts_of}
use Rattle.fpl_forms.proofs.ledger.Ledger.sum_right.Goals as goal

pub sum-requires-clause-atoms : goal.sum-requires-clause-atoms
sum-requires-clause-atoms c = grows_atoms c.in_ok-out.ensures.grows c.args.values.now c.requires.values

pub sum-requires-clause-facts : goal.sum-requires-clause-facts
sum-requires-clause-facts c = grows_works c.in_ok-out.ensures.grows c.args.values.now c.args.facts.now c.requires.facts

pub led-requires-clause-meet : goal.led-requires-clause-meet
led-requires-clause-meet c =
    let g = c.in_ok-out.ensures.grows in
    let says = c.in_ok-out.ensures.says in
    grows_right c.in_ok-all.ensures.grows c.in_ok-out.out (says.from_one, says.to_end) ∙ says.right ∙
    sym (c.in_ok-all.ensures.left ∙
    ap (λ es. Sum es) (grows_lefts_of g c.args.values.now c.args.facts.now c.requires.facts ∙ c.requires.lefts))

pub returns-clause-grows : goal.returns-clause-grows
returns-clause-grows c = grows_trans c.in_ok-out.ensures.grows (grows_trans c.in_ok-all.ensures.grows c.in_ok-led.ensures.grows)

pub returns-clause-left : goal.returns-clause-left
returns-clause-left c =
    let says = c.in_ok-out.ensures.says in
    c.in_ok-led.ensures.left ∙ grows_left c.in_ok-all.ensures.grows c.in_ok-out.out (says.from_one, says.to_end) ∙ says.left

pub returns-clause-terms : goal.returns-clause-terms
returns-clause-terms c =
    c.in_ok-led.ensures.terms ∙ c.in_ok-all.ensures.terms ∙ ap (λ q. tidied q (joined c.args.facts.now)) c.in_ok-out.ensures.grows.prime
