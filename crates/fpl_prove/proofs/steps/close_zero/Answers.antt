use Rattle.std.proofs.Common.{◌≤◌, ◌-◌, ◌∙◌, List, length, refl, subst, ap, map, arith, All}
use Rattle.std.proofs.lemmas.Option.{slice_get_read}
use Rattle.fpl_numbers.specs.declared.number.Kind.{Kind}
use Rattle.fpl_log.specs.Plain.{IsTermOf}
use Rattle.fpl_model.specs.declared.expr.Expr.{Expr}
use Rattle.fpl_facts.specs.Facts.{IsZero}
use Rattle.fpl_forms.specs.Combining.{terms_of}
use Rattle.fpl_forms.proofs.Ledgers.{grows_refl}
use Rattle.fpl_prove.specs.Taking.{all_taken}
use Rattle.fpl_prove.proofs.Concluding.{prime_after, closed}
use Rattle.fpl_prove.proofs.steps.close_zero.Goals as goal

pub take_terms-requires-clause-terms : goal.take_terms-requires-clause-terms
take_terms-requires-clause-terms c =
    subst (λ (k : Kind). All (IsTermOf k (length c.args.zeros.now)) c.args.terms.now)
    (prime_after c.args.ledger.now c.args.known.now.table c.args.next.now c.requires.known.holds c.sound.ensures c.args.ledger.now
    (grows_refl c.args.ledger.now))
    c.requires.step.2

pub returns-clause-concluded : goal.returns-clause-concluded
returns-clause-concluded c =
    let L = c.args.ledger.now in
    let zs = c.args.zeros.now in
    let item = c.index-zeros-of.result in
    let one : 1 ≤ c.args.of = c.requires.step.0 in
    let most : c.args.of ≤ length zs = c.requires.step.1 in
    closed L c.args.known.now.table c.args.next.now c.requires.known.holds c.sound.ensures c.take_terms.new.ledger c.in_ok-left.ensures.grows zs c.args.of
    c.args.terms.now c.in_ok-left.left item one most c.requires.step.2
    (slice_get_read zs (length zs) (c.args.of - 1) item refl (omega (arith, one, most)) c.index-zeros-of.is)
    (subst (λ (es : List Expr). IsZero c.take_terms.new.ledger es c.in_ok-left.left) c.deref.ensures.value c.in_ok-left.ensures.zero)
    (c.in_ok-left.ensures.terms ∙ ap (λ ts. all_taken L.prime (map terms_of zs) ts c.args.terms.now) c.in_ok-start.ensures.terms)
