-- The part of a table through a weight.
--
--   truncate_of T d   the table through weight d, for d at most the table's weight
use Rattle.std.specs.Prelude.{ℕ, take}
use Rattle.fpl_table.specs.Plain.{PlainTable, through}

abbrev pub truncate_of : PlainTable → ℕ → PlainTable
truncate_of T d = record {
  kind = T.kind;
  generators = T.generators;
  weight = d;
  basis = take (through T d) T.basis;
  images = take d T.images;
  entries = take d T.entries;
}
