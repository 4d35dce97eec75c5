use Rattle.std.proofs.Common.{rules, arith}
use Rattle.fpl_run.proofs.read.answer_bytes.Goals as goal

pub answer_checkpoint-requires-clause-checkpoint : goal.answer_checkpoint-requires-clause-checkpoint
answer_checkpoint-requires-clause-checkpoint g c = search rules

pub answer_text-requires-clause-plain : goal.answer_text-requires-clause-plain
answer_text-requires-clause-plain g c = λ h. search rules

pub returns-then-is_checkpoint-clause-bytes : goal.returns-then-is_checkpoint-clause-bytes
returns-then-is_checkpoint-clause-bytes g c = λ i. omega (arith, c.type_inv.bytes i)

pub returns-clause-bytes : goal.returns-clause-bytes
returns-clause-bytes g c = λ i. omega (arith, c.type_inv.bytes i)
