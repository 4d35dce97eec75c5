use Rattle.std.proofs.Common.{◌≡◌, length, map, drop}
use Rattle.math_algebra.specs.Tree.{bracket_of}
use Rattle.plain_proofs.specs.Checks.{same_list}
use Rattle.fpl_why.specs.Checking.{field_in, list, tree}
use Rattle.fpl_why.proofs.checker.Checker.spreads_right.Given as goal

abbrev pub invariant-loop-i : goal.invariant-loop-i
invariant-loop-i l = record {
  long : length l.fs ≡ length l.es;
  same : same_list (field_in l.self) (map (bracket_of (tree l.self l.g)) (list l.self l.es)) (list l.self l.fs)
      ≡ same_list (field_in l.self) (map (bracket_of (tree l.self l.g)) (list l.self (drop l.i l.es))) (list l.self (drop l.i l.fs));
}
