use Rattle.std.proofs.Common.{◌≡◌, ◌≤◌, map}
use Rattle.fpl_rows.specs.Positions.{lead_below}
use Rattle.fpl_rows.proofs.work.lead_among.Given as goal

abbrev pub invariant-loop-s : goal.invariant-loop-s
invariant-loop-s g l = record {
  at_most : l.s ≤ l.most;
  left : lead_below (map (g.F.Field.summed l.field) l.sums) l.most ≡ lead_below (map (g.F.Field.summed l.field) l.sums) l.s;
}

abbrev pub decreases-loop-s : goal.decreases-loop-s
decreases-loop-s g l = l.s
