use Rattle.std.proofs.Common.{◌≡◌, ◌++◌, ◌+◌, drop}
use Rattle.fpl_spelling.specs.Fronts.{KeepsFront}
use Rattle.fpl_why.specs.Texts.{lines_text}
use Rattle.fpl_why.proofs.text.push_proof.Given as goal

-- what is out so far, then the text of the lines that are left, is the text of all
abbrev pub invariant-loop-n : goal.invariant-loop-n
invariant-loop-n l = record {
  front : KeepsFront l.initial.out.items l.out.items;
  left : l.initial.out.items ++ lines_text l.p 1 l.lines ≡ l.out.items ++ lines_text l.p (l.n + 1) (drop l.n l.lines);
}
