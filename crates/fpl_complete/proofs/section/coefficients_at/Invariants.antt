use Rattle.std.proofs.Common.{◌≡◌, ◌++◌, map, drop}
use Rattle.fpl_rows.specs.Cells.{by_cell}
use Rattle.fpl_complete.specs.Cells.{coefficient_at}
use Rattle.fpl_complete.proofs.section.coefficients_at.Given as goal

-- the work left: to keep the numbers from place k of the list on
abbrev pub invariant-loop-k : goal.invariant-loop-k
invariant-loop-k g l = by_cell coefficient_at 0 l.places (map g.F.Field.number l.numbers) ≡
    l.kept ++ by_cell coefficient_at 0 (drop l.k l.places) (drop l.k (map g.F.Field.number l.numbers))
