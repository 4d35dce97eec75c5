use Rattle.std.proofs.Common.{inr, refl, sym, subst}
use Rattle.fpl_reply.specs.declared.outcome.Refusal.TheVariants.{MapSyntax, MapSize, MapNumber, MapParity}
use Rattle.fpl_run.specs.Matrices.{MapFails}
use Rattle.fpl_run.specs.Matrices.MapFails.{syntax_fails, size_fails, number_fails, parity_fails}
use Rattle.fpl_run.proofs.map.refused_map.Goals as goal

pub returns-in-Syntax : goal.returns-in-Syntax
returns-in-Syntax c =
    inr (c.in-Syntax.place, MapSyntax, subst (λ e. MapFails e c.in-Syntax.place MapSyntax) (sym c.in-Syntax.is) (syntax_fails c.in-Syntax.place), refl)

pub returns-in-Size : goal.returns-in-Size
returns-in-Size c = inr (c.in-Size.place, MapSize, subst (λ e. MapFails e c.in-Size.place MapSize) (sym c.in-Size.is) (size_fails c.in-Size.place), refl)

pub returns-in-Number : goal.returns-in-Number
returns-in-Number c =
    inr (c.in-Number.place, MapNumber, subst (λ e. MapFails e c.in-Number.place MapNumber) (sym c.in-Number.is) (number_fails c.in-Number.place), refl)

pub returns-in-Parity : goal.returns-in-Parity
returns-in-Parity c =
    inr (c.in-Parity.place, MapParity, subst (λ e. MapFails e c.in-Parity.place MapParity) (sym c.in-Parity.is) (parity_fails c.in-Parity.place), refl)
