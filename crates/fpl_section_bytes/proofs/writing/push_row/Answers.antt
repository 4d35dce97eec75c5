use Rattle.std.proofs.Common.{◌≤◌, ◌∙◌, ap, arith, length}
use Rattle.std.specs.Int.{w32, to_be_bytes}
use Rattle.fpl_log.proofs.TermsTaken.{past_end}
use Rattle.fpl_bytes.specs.declared.version.Version.TheVariants.{Two}
use Rattle.fpl_section_bytes.specs.Spelling.{coefficient_bytes}
use Rattle.fpl_section_bytes.specs.Stored.{IsStoredCoefficient}
use Rattle.fpl_section_bytes.proofs.Written.{wrote_more}
use Rattle.fpl_section_bytes.proofs.writing.push_row.Goals.{in-None, in-Some+in_ok-push_coefficient-in-Some}
use Rattle.fpl_section_bytes.proofs.writing.push_row.Goals as goal

pub loop-n-preserved : goal.loop-n-preserved
loop-n-preserved c = elim c.match-get.branch [
  | in-None w ↦ absurd (let l : length c.args.row.now ≤ c.loop-n.n = past_end c.args.row.now c.loop-n.n w.in-None.ensures in omega arith)
  | in-Some+in_ok-push_coefficient-in-Some w ↦
      wrote_more (coefficient_bytes Two c.args.kind)
      (IsStoredCoefficient Two c.args.kind) c.args.row.now c.loop-n.n w.in-Some.coefficient c.args.out.now.items
      (to_be_bytes w32 (length c.args.row.now)) c.loop-n.out.items c.match-get.out.items
      w.in-Some.ensures c.loop-n.invariant
      (ap (λ v. v.items) w.out-is ∙ w.in_ok-push_coefficient-in-Some.ensures.bytes) w.in_ok-push_coefficient-in-Some.ensures.stored
]
