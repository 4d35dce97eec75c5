use Rattle.std.proofs.Common.{◌+◌, ◌/◌, ◌++◌, ap, ◌∙◌}
use Rattle.fpl_forms.specs.Forms.{tidied}
use Rattle.fpl_forms.specs.Combining.{multiplied}
use Rattle.fpl_facts.proofs.Units.{halves_are_one}
use Rattle.fpl_facts.proofs.pairs.half_and_half.Goals as goal

pub returns-clause-terms : goal.returns-clause-terms
returns-clause-terms c =
    let q = c.args.ledger.now.prime in
    let h = q / 2 + 1 in
    c.in_ok-fact.ensures.terms ∙ ap (λ ts. tidied q (multiplied q h ts ++ multiplied q h ts)) c.requires.once ∙ halves_are_one q c.sound.ensures.listed
