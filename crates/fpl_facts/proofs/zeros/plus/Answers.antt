use Rattle.std.proofs.Common.{[], ◌∷◌, ap, ap₂, ◌∙◌}
use Rattle.fpl_model.specs.declared.expr.Expr.TheVariants.{Sum}
use Rattle.fpl_forms.specs.Ledgers.{left_of}
use Rattle.fpl_forms.specs.Forms.{tidied}
use Rattle.fpl_forms.specs.Combining.{lefts}
use Rattle.fpl_facts.proofs.Copies.{same_work, two_works, two_joined}
use Rattle.fpl_facts.proofs.zeros.plus.Goals as goal

pub sum-requires-clause-facts : goal.sum-requires-clause-facts
sum-requires-clause-facts c =
    two_works c.deref.result.now (c.deref.ensures.value ∙ c.in_ok-facts.ensures)
    (same_work c.in_ok-once.ensures.line c.in_ok-once.ensures.terms c.requires.first)
    (same_work c.in_ok-then.ensures.line c.in_ok-then.ensures.terms c.requires.second)

pub returns-clause-fact : goal.returns-clause-fact
returns-clause-fact c =
    let L = c.args.ledger.now in
    record {
      work = c.in_ok-sum.ensures.work;
      left = c.in_ok-sum.ensures.left ∙ ap (λ fs. Sum (lefts L fs)) (c.deref.ensures.value ∙ c.in_ok-facts.ensures) ∙
          ap₂ (λ m n. Sum (left_of L m ∷ left_of L n ∷ [])) c.in_ok-once.ensures.line c.in_ok-then.ensures.line;
    }

pub returns-clause-terms : goal.returns-clause-terms
returns-clause-terms c =
    let q = c.args.ledger.now.prime in
    c.in_ok-sum.ensures.terms ∙
    ap (tidied q) (two_joined c.deref.result.now (c.deref.ensures.value ∙ c.in_ok-facts.ensures) c.in_ok-once.ensures.terms c.in_ok-then.ensures.terms)
