use Rattle.std.proofs.Common.{◌+◌, ◌/◌, ◌++◌, ap₂, ◌∙◌}
use Rattle.fpl_forms.specs.Forms.{tidied}
use Rattle.fpl_forms.specs.Combining.{multiplied}
use Rattle.fpl_facts.proofs.Units.{halves_are_none}
use Rattle.fpl_facts.proofs.pairs.half_less_half.Goals as goal

pub returns-clause-terms : goal.returns-clause-terms
returns-clause-terms c =
    let q = c.args.ledger.now.prime in
    let h = q / 2 + 1 in
    c.in_ok-fact.ensures.terms ∙ ap₂ (λ ss ts. tidied q (multiplied q h ss ++ multiplied q h ts)) c.requires.once c.requires.off ∙
    halves_are_none q c.sound.ensures.listed
