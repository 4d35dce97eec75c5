use Rattle.std.proofs.Common.{◌≡◌, map, take}
use Rattle.fpl_numbers.specs.Numbers.{residue}
use Rattle.fpl_model.specs.declared.expr.Expr.TheVariants.{Times}
use Rattle.fpl_forms.specs.Forms.{term_expr}
use Rattle.fpl_forms.proofs.multiples.spread_expr.Given as goal

abbrev pub invariant-loop-t : goal.invariant-loop-t
invariant-loop-t l = l.members ≡ map (λ t. Times (residue l.number) (term_expr l.atoms t)) (take l.t-index l.terms)
