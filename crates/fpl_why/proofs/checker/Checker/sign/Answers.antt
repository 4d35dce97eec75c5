use Rattle.std.proofs.Common.{ap, ap₂, sym, ◌∙◌}
use Rattle.math_algebra.specs.Derives.{sign}
use Rattle.fpl_model.specs.Meaning.{parity_in}
use Rattle.fpl_why.specs.Checking.{field_in}
use Rattle.fpl_why.proofs.Residues.{one_is, less_is}
use Rattle.fpl_why.proofs.checker.Checker.sign.Goals as goal

pub returns-in-Even-clause-value : goal.returns-in-Even-clause-value
returns-in-Even-clause-value c =
    one_is _ _ c.requires.checker.field c.requires.checker.listed ∙
    sym (ap (λ s. sign (field_in c.args.self.now) (parity_in s) (parity_in c.args.t)) c.in-Even.is)

pub returns-in-Even-t-clause-value : goal.returns-in-Even-t-clause-value
returns-in-Even-t-clause-value c =
    one_is _ _ c.requires.checker.field c.requires.checker.listed ∙
    sym (ap₂ (λ s t. sign (field_in c.args.self.now) (parity_in s) (parity_in t)) c.in-Odd.is c.in-Even-t.is)

pub returns-in-Odd-t-clause-value : goal.returns-in-Odd-t-clause-value
returns-in-Odd-t-clause-value c =
    less_is _ _ c.requires.checker.field c.requires.checker.listed ∙
    sym (ap₂ (λ s t. sign (field_in c.args.self.now) (parity_in s) (parity_in t)) c.in-Odd.is c.in-Odd-t.is)
