use Rattle.std.proofs.Common.{◌≡◌, length, drop}
use Rattle.plain_proofs.specs.Checks.{are_cited}
use Rattle.fpl_why.specs.Checking.{field_in, lines_of, list}
use Rattle.fpl_why.proofs.checker.Checker.cites_all.Given as goal

abbrev pub invariant-loop-i : goal.invariant-loop-i
invariant-loop-i l = record {
  left_long : length l.es ≡ length l.cs;
  right_long : length l.fs ≡ length l.cs;
  same : are_cited (field_in l.self) (lines_of l.self) l.before l.cs (list l.self l.es) (list l.self l.fs)
      ≡ are_cited (field_in l.self) (lines_of l.self) l.before (drop l.i l.cs) (list l.self (drop l.i l.es)) (list l.self (drop l.i l.fs));
}
