use Rattle.std.proofs.Common.{length, take}
use Rattle.std.specs.Int.{w64, to_be_bytes}
use Rattle.fpl_bytes.specs.declared.version.Version.TheVariants.{Two}
use Rattle.fpl_section_bytes.specs.Spelling.{step_bytes}
use Rattle.fpl_section_bytes.specs.Stored.{IsStoredStep}
use Rattle.fpl_section_bytes.proofs.Written.{Wrote}
use Rattle.fpl_section_bytes.proofs.writing.push_steps.Given as goal

abbrev pub invariant-loop-n : goal.invariant-loop-n
invariant-loop-n l = Wrote (step_bytes Two l.kind) (IsStoredStep Two l.kind) l.fn.out.items (to_be_bytes w64 (length l.steps)) l.out.items (take l.n l.steps)
