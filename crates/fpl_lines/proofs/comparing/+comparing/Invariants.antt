use Rattle.std.proofs.Common.{◌≡◌, map, take, length}
use Rattle.fpl_model.specs.Meaning.{plain}
use Rattle.fpl_lines.proofs.comparing.+comparing.Given as goal

abbrev pub invariant-same_all-loop-i : goal.invariant-same_all-loop-i
invariant-same_all-loop-i l = record {
  long : length l.es ≡ length l.fs;
  front : map plain (take l.i l.es) ≡ map plain (take l.i l.fs);
}
