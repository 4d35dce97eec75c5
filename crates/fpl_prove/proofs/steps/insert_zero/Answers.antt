use Rattle.std.proofs.Common.{◌∙◌, ℕ, List, length, subst, ap, map, All}
use Rattle.fpl_numbers.specs.declared.number.Kind.{Kind}
use Rattle.fpl_numbers.specs.Numbers.{IsElement}
use Rattle.fpl_log.specs.Plain.{IsTermOf}
use Rattle.fpl_model.specs.declared.expr.Expr.{Expr}
use Rattle.fpl_facts.specs.Facts.{IsZero}
use Rattle.fpl_forms.specs.Combining.{terms_of}
use Rattle.fpl_forms.proofs.Ledgers.{grows_trans}
use Rattle.fpl_prove.specs.Taking.{all_taken, scaled_terms}
use Rattle.fpl_prove.proofs.Concluding.{prime_after, inserted}
use Rattle.fpl_prove.proofs.steps.insert_zero.Goals as goal

pub take_terms-requires-clause-terms : goal.take_terms-requires-clause-terms
take_terms-requires-clause-terms c =
    subst (λ (k : Kind). All (IsTermOf k (length c.args.zeros.now)) c.args.terms.now)
    (prime_after c.args.ledger.now c.args.known.now.table c.args.next.now c.requires.known.holds c.sound.ensures c.origin_zero.new.ledger
    c.in_ok-start.ensures.grows)
    c.requires.step.1

pub times_scale-requires-clause-scale : goal.times_scale-requires-clause-scale
times_scale-requires-clause-scale c =
    subst (λ (k : Kind). IsElement k c.args.scale)
    (prime_after c.args.ledger.now c.args.known.now.table c.args.next.now c.requires.known.holds c.sound.ensures c.take_terms.new.ledger
    (grows_trans c.in_ok-start.ensures.grows c.in_ok-left.ensures.grows))
    c.requires.step.2

pub returns-clause-concluded : goal.returns-clause-concluded
returns-clause-concluded c =
    let L = c.args.ledger.now in
    let g1 = c.in_ok-start.ensures.grows in
    let g2 = c.in_ok-left.ensures.grows in
    let g3 = c.in_ok-scaled.ensures.grows in
    let zss = map terms_of c.args.zeros.now in
    let start = c.in_ok-start.start in
    let terms = c.args.terms.now in
    let scale = c.args.scale in
    inserted L c.args.known.now.table c.args.next.now c.requires.known.holds c.sound.ensures c.origin_zero.new.ledger c.times_scale.new.ledger g1
    (grows_trans g1 (grows_trans g2 g3)) c.args.zeros.now c.args.origin terms scale start c.in_ok-scaled.scaled c.requires.step.0 c.requires.step.1
    c.requires.step.2
    c.in_ok-start.ensures.zero
    (subst (λ (es : List Expr). IsZero c.times_scale.new.ledger es c.in_ok-scaled.scaled) c.deref-2.ensures.value c.in_ok-scaled.ensures.zero)
    (c.in_ok-scaled.ensures.terms
    ∙ ap (λ ts. scaled_terms c.take_terms.new.ledger.prime scale ts) c.in_ok-left.ensures.terms
    ∙ ap (λ (q : ℕ). scaled_terms q scale (all_taken c.origin_zero.new.ledger.prime zss start.terms.items terms)) (g2.prime ∙ g1.prime)
    ∙ ap (λ (q : ℕ). scaled_terms L.prime scale (all_taken q zss start.terms.items terms)) g1.prime)
