use Rattle.std.proofs.Common.{◌≡◌, ◌++◌, true, drop, map}
use Rattle.math_algebra.specs.Tree.{trees}
use Rattle.fpl_model.specs.Meaning.{plain}
use Rattle.fpl_spelling.specs.Fronts.{KeepsFront}
use Rattle.fpl_canonical.specs.Canonical.{sum_text}
use Rattle.fpl_canonical.proofs.expression.+writing.Given as goal

-- what is out so far, then what the rest gives, is what all gives
abbrev pub invariant-push_sum-loop-e : goal.invariant-push_sum-loop-e
invariant-push_sum-loop-e l = record {
  front : KeepsFront l.initial.out.items l.out.items;
  items : l.e-items ≡ l.members;
  left : l.initial.out.items ++ sum_text (map (λ g. g.name) l.generators) true (trees (map plain l.members))
      ≡ l.out.items ++ sum_text (map (λ g. g.name) l.generators) l.first (trees (map plain (drop l.e-index l.e-items)));
}
