use Rattle.std.proofs.Common.{◌≡◌, ◌++◌, drop}
use Rattle.std.specs.Prelude.{flat_map, decimal}
use Rattle.fpl_spelling.specs.Fronts.{KeepsFront}
use Rattle.fpl_why.specs.Texts.{spaced}
use Rattle.fpl_why.proofs.text.push_all.Given as goal

-- what is out so far, then what the rest gives, is what all gives
abbrev pub invariant-loop-n : goal.invariant-loop-n
invariant-loop-n l = record {
  front : KeepsFront l.initial.out.items l.out.items;
  same : l.n-items ≡ l.ns;
  left : l.initial.out.items ++ flat_map (λ n. spaced (decimal n)) l.ns ≡ l.out.items ++ flat_map (λ n. spaced (decimal n)) (drop l.n-index l.n-items);
}
