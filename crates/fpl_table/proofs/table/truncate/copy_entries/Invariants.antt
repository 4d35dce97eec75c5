use Rattle.std.proofs.Common.{◌≡◌, map, take}
use Rattle.fpl_table.proofs.table.truncate.copy_entries.Given as goal

abbrev pub invariant-loop-rows : goal.invariant-loop-rows
invariant-loop-rows g l = map (λ rows. rows.items) l.all.items ≡ map (λ rows. rows.items) (take l.rows-index l.entries)
