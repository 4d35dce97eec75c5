use Rattle.std.proofs.Common.{◌∙◌, ◌≡◌, ℕ, Bool, true, sym, refl, subst}
use Rattle.fpl_numbers.specs.Numbers.{is_listed}
use Rattle.fpl_numbers.proofs.Listed.{listed_is}
use Rattle.fpl_scalar.proofs.residue.Residue.of.Goals as goal

pub returns-then-is_listed-clause-listed : goal.returns-then-is_listed-clause-listed
returns-then-is_listed-clause-listed c =
    let passes : is_listed c.from.result ≡ true = sym c.is_listed.ensures ∙ c.if-is_listed.true in
    ((λ e. listed_is c.args.p (subst (λ w. is_listed w ≡ true) c.from.ensures passes)), (λ h. refl))
