use Rattle.std.proofs.Common.{◌≡◌, ◌++◌, map, take}
use Rattle.fpl_forms.specs.Forms.{term_expr, zeroed}
use Rattle.fpl_forms.proofs.zeros.part_expr.Given as goal

abbrev pub invariant-loop-t : goal.invariant-loop-t
invariant-loop-t l = l.members ≡ map (term_expr l.atoms) (take l.t-index l.front)

abbrev pub invariant-loop-t-2 : goal.invariant-loop-t-2
invariant-loop-t-2 l = l.members ≡ map (term_expr l.atoms) l.front ++ map (zeroed l.atoms) (take l.t-index l.back)
