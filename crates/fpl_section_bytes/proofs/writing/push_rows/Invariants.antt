use Rattle.std.proofs.Common.{length, take}
use Rattle.std.specs.Int.{w32, to_be_bytes}
use Rattle.fpl_bytes.specs.declared.version.Version.TheVariants.{Two}
use Rattle.fpl_section_bytes.specs.Spelling.{row_bytes}
use Rattle.fpl_section_bytes.specs.Stored.{IsStoredRow}
use Rattle.fpl_section_bytes.proofs.Written.{Wrote}
use Rattle.fpl_section_bytes.proofs.writing.push_rows.Given as goal

abbrev pub invariant-loop-n : goal.invariant-loop-n
invariant-loop-n l = Wrote (row_bytes Two l.kind) (IsStoredRow Two l.kind) l.fn.out.items (to_be_bytes w32 (length l.rows)) l.out.items (take l.n l.rows)
