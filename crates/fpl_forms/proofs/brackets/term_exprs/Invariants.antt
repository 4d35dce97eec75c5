use Rattle.std.proofs.Common.{◌≡◌, map, take}
use Rattle.fpl_forms.specs.Forms.{term_expr}
use Rattle.fpl_forms.proofs.brackets.term_exprs.Given as goal

abbrev pub invariant-loop-t : goal.invariant-loop-t
invariant-loop-t l = l.all.items ≡ map (term_expr l.atoms) (take l.t-index l.terms)
