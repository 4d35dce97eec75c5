use Rattle.std.proofs.Common.{◌≡◌, length, map}
use Rattle.fpl_envelope_text.specs.Lists.{AreLists}
use Rattle.fpl_envelope_text.proofs.lists.listed.Given as goal

abbrev pub invariant-loop-w : goal.invariant-loop-w
invariant-loop-w g l = record {
  lists : AreLists l.table (map (λ v. v.items) l.lists.items);
  depth : length l.lists.items ≡ l.w;
}
