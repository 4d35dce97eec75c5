use Rattle.std.proofs.Common.{rules}
use Rattle.fpl_run.specs.Separator.{IsSeparatorAt}
use Rattle.fpl_run.proofs.separator.separator.Goals as goal

pub returns-then-is_separator_at-clause-some : goal.returns-then-is_separator_at-clause-some
returns-then-is_separator_at-clause-some c =
    let is : IsSeparatorAt c.args.bytes.now c.loop-at.at = search rules in
    record { is = is; before = c.loop-at.invariant }
