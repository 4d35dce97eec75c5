use Rattle.std.proofs.Common.{ap, ◌∙◌, arith}
use Rattle.fpl_facts.specs.Facts.{less}
use Rattle.fpl_facts.proofs.Units.{taken_off}
use Rattle.fpl_facts.proofs.zeros.gone.Goals as goal

pub returns-clause-terms : goal.returns-clause-terms
returns-clause-terms c =
    let q = c.args.ledger.now.prime in
    c.in_ok-fact.ensures.terms ∙ ap (λ ts. less q ts ts) c.requires.once ∙ taken_off q (omega (arith, c.past_two.ensures))
