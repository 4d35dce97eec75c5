use Rattle.std.proofs.Common.{◌≡◌, ◌++◌, take}
use Rattle.fpl_forms.proofs.sums.one_list.Given as goal

abbrev pub invariant-loop-t : goal.invariant-loop-t
invariant-loop-t l = l.all.items ≡ take l.t-index l.front

abbrev pub invariant-loop-t-2 : goal.invariant-loop-t-2
invariant-loop-t-2 l = l.all.items ≡ l.front ++ take l.t-index l.back
