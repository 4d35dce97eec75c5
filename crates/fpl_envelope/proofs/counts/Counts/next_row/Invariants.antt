use Rattle.std.proofs.Common.{◌≡◌, ◌≤◌, ◌*◌, ℕ, suc, length, get_or}
use Rattle.fpl_envelope.specs.Counts.{heads_in}
use Rattle.fpl_envelope.proofs.counts.Counts.next_row.Given as goal

abbrev pub invariant-loop-i : goal.invariant-loop-i
invariant-loop-i g l = record {
  long : length l.row.items ≡ suc l.i;
  is : (m : ℕ) → m ≤ l.i → get_or l.row.items m 0 ≡ heads_in l.table l.w m;
  sum : l.sum ≡ heads_in l.table l.w l.i;
  most : l.sum ≤ 2000000 * l.i;
}
