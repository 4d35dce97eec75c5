use Rattle.std.proofs.Common.{◌≡◌, ◌+◌, drop}
use Rattle.fpl_syntax.specs.Sight.{number_from}
use Rattle.fpl_syntax.proofs.naming.number_of.Given as goal

abbrev pub invariant-loop-g : goal.invariant-loop-g
invariant-loop-g l = (number_from 1 l.g-items l.name ≡ number_from (l.number + 1) (drop l.g-index l.g-items) l.name) × (l.number ≡ l.g-index)
