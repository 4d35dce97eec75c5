use Rattle.std.proofs.Common.{◌≡◌, map, take}
use Rattle.fpl_model.specs.declared.expr.Expr.TheVariants.{Br}
use Rattle.fpl_forms.proofs.brackets.left_brackets.Given as goal

abbrev pub invariant-loop-f : goal.invariant-loop-f
invariant-loop-f l = l.members ≡ map (λ x. Br x l.e) (take l.f-index l.es)
