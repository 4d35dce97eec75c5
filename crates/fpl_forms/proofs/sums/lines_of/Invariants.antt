use Rattle.std.proofs.Common.{◌≡◌, map, take}
use Rattle.fpl_forms.proofs.sums.lines_of.Given as goal

abbrev pub invariant-loop-f : goal.invariant-loop-f
invariant-loop-f l = l.lines.items ≡ map (λ f. f.line) (take l.f-index l.facts)
