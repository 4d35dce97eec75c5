use Rattle.std.proofs.Common.{◌≡◌, map, take}
use Rattle.fpl_forms.specs.Forms.{term_expr}
use Rattle.fpl_forms.proofs.term.sum_expr.Given as goal

abbrev pub invariant-loop-t : goal.invariant-loop-t
invariant-loop-t l = l.members ≡ map (term_expr l.atoms) (take l.t-index l.terms)
