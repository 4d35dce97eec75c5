use Rattle.std.proofs.Common.{◌≡◌, map, take}
use Rattle.fpl_table.proofs.table.truncate.copy_levels.Given as goal

abbrev pub invariant-loop-level : goal.invariant-loop-level
invariant-loop-level g l = record {
  counts : map (λ v. v.through) l.all.items ≡ map (λ v. v.through) (take l.level-index l.levels);
  images : map (λ v. v.images.items) l.all.items ≡ map (λ v. v.images.items) (take l.level-index l.levels);
  entries : map (λ v. map (λ rows. rows.items) v.entries.items) l.all.items ≡ map (λ v. map (λ rows. rows.items) v.entries.items) (take l.level-index l.levels);
}
