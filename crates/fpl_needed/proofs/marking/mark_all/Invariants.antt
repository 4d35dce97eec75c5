use Rattle.std.proofs.Common.{◌≡◌, drop}
use Rattle.fpl_needed.specs.Numbers.{marked}
use Rattle.fpl_needed.proofs.marking.mark_all.Given as goal

-- the lines that are left have yet to be marked
abbrev pub invariant-loop-n : goal.invariant-loop-n
invariant-loop-n l = marked l.needed (drop l.n-index l.lines) ≡ marked l.initial.needed l.lines
