use Rattle.std.proofs.Common.{◌≡◌, map, drop, length}
use Rattle.fpl_rewrite.specs.Terms.{terms_of, add_cells}
use Rattle.fpl_rewrite.proofs.entries.add_cells.Given as goal

-- the work left: to add the numbers from place k of the list on
abbrev pub invariant-loop-k : goal.invariant-loop-k
invariant-loop-k g l = record {
  kind : l.work.kind ≡ l.table.kind;
  whole : length l.work.row ≡ length l.initial.work.row;
  left : add_cells (terms_of l.table l.beside l.negated) l.places (map g.F.Field.number l.numbers) l.initial.work.row ≡
      add_cells (terms_of l.table l.beside l.negated) (drop l.k l.places) (drop l.k (map g.F.Field.number l.numbers)) l.work.row;
}
