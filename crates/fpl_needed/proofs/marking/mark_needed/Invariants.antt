use Rattle.fpl_needed.specs.Numbers.{IsMarked}
use Rattle.fpl_needed.proofs.marking.mark_needed.Given as goal

abbrev pub invariant-loop-i : goal.invariant-loop-i
invariant-loop-i l = IsMarked l.lines l.needed l.i
