use Rattle.std.proofs.Common.{◌≡◌, ◌++◌, map, take}
use Rattle.fpl_forms.specs.Forms.{term_expr, sum_expr}
use Rattle.fpl_forms.specs.Combining.{terms_of}
use Rattle.fpl_forms.proofs.sums.half_expr.Given as goal

abbrev pub invariant-loop-f : goal.invariant-loop-f
invariant-loop-f l = l.members ≡ map (λ f. sum_expr l.atoms (terms_of f)) (take l.f-index l.front)

abbrev pub invariant-loop-t : goal.invariant-loop-t
invariant-loop-t l = l.members ≡ map (λ f. sum_expr l.atoms (terms_of f)) l.front ++ map (term_expr l.atoms) (take l.t-index l.back)
