use Rattle.std.proofs.Common.{length, take}
use Rattle.std.specs.Int.{w32, to_be_bytes}
use Rattle.fpl_bytes.specs.declared.version.Version.TheVariants.{Two}
use Rattle.fpl_section_bytes.specs.Spelling.{coefficient_bytes}
use Rattle.fpl_section_bytes.specs.Stored.{IsStoredCoefficient}
use Rattle.fpl_section_bytes.proofs.Written.{Wrote}
use Rattle.fpl_section_bytes.proofs.writing.push_row.Given as goal

abbrev pub invariant-loop-n : goal.invariant-loop-n
invariant-loop-n l = Wrote (coefficient_bytes Two l.kind) (IsStoredCoefficient Two l.kind) l.fn.out.items (to_be_bytes w32 (length l.row)) l.out.items
    (take l.n l.row)
