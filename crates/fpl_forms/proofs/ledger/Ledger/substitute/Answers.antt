use Rattle.std.proofs.Common.{◌∙◌, sym, subst, ap, ap₂, flat_map, All}
use Rattle.fpl_model.specs.declared.expr.Expr.TheVariants.{Sum}
use Rattle.fpl_forms.specs.Forms.{IsWork, tidied}
use Rattle.fpl_forms.specs.Combining.{joined, lefts, combined}
use Rattle.fpl_forms.proofs.Ledgers.{grows_trans, grows_right, grows_left, grows_within}
use Rattle.fpl_forms.proofs.Moves.{grows_atoms}
use Rattle.fpl_forms.proofs.ledger.Ledger.substitute.Goals as goal

pub sum-requires-clause-atoms : goal.sum-requires-clause-atoms
sum-requires-clause-atoms c = grows_atoms c.in_ok-each.ensures.grows c.args.values.now c.requires.values

pub sum-requires-clause-facts : goal.sum-requires-clause-facts
sum-requires-clause-facts c =
    subst (All (IsWork c.multiples.new.self c.args.values.now)) (sym c.deref.ensures.value) c.in_ok-each.ensures.facts.works

pub led-requires-clause-line : goal.led-requires-clause-line
led-requires-clause-line c =
    grows_within (grows_trans c.in_ok-each.ensures.grows c.in_ok-all.ensures.grows) c.args.sum.now.line c.requires.work.within

pub led-requires-clause-meet : goal.led-requires-clause-meet
led-requires-clause-meet c =
    let g = grows_trans c.in_ok-each.ensures.grows c.in_ok-all.ensures.grows in
    grows_right g c.args.sum.now.line c.requires.work.within ∙ c.requires.work.right ∙
    sym (c.in_ok-all.ensures.left ∙ ap (λ fs. Sum (lefts c.multiples.new.self fs)) c.deref.ensures.value ∙
    ap (λ es. Sum es) c.in_ok-each.ensures.facts.lefts_are)

pub returns-clause-grows : goal.returns-clause-grows
returns-clause-grows c = grows_trans c.in_ok-each.ensures.grows (grows_trans c.in_ok-all.ensures.grows c.in_ok-led.ensures.grows)

pub returns-clause-left : goal.returns-clause-left
returns-clause-left c =
    c.in_ok-led.ensures.left ∙
    grows_left (grows_trans c.in_ok-each.ensures.grows c.in_ok-all.ensures.grows) c.args.sum.now.line c.requires.work.within

pub returns-clause-terms : goal.returns-clause-terms
returns-clause-terms c =
    c.in_ok-led.ensures.terms ∙ c.in_ok-all.ensures.terms ∙ ap₂ (λ q fs. tidied q (joined fs)) c.in_ok-each.ensures.grows.prime c.deref.ensures.value ∙
    ap (λ tss. tidied c.args.self.now.prime (flat_map (λ ts. ts) tss)) c.in_ok-each.ensures.facts.terms_are
