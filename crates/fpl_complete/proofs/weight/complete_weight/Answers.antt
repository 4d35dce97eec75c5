use Rattle.std.proofs.Common.{◌≡◌, ◌+◌, suc, arith}
use Rattle.fpl_complete.proofs.Weighing.{weighs, weigh_fault}
use Rattle.fpl_complete.proofs.weight.complete_weight.Goals as goal

pub returns-in-Err-clause-value : goal.returns-in-Err-clause-value
returns-in-Err-clause-value g c = weigh_fault c.args.table.now c.args.p.now c.requires.holds c.in-Err.fault c.in-Err.ensures.value

pub returns-in-Ok-section_of-clause-value : goal.returns-in-Ok-section_of-clause-value
returns-in-Ok-section_of-clause-value g c =
    let next : c.weight-weight.result + 1 ≡ suc c.args.table.now.weight = omega (arith, c.weight-weight.ensures.value) in
    weighs c.args.table.now c.args.p.now c.requires.holds
    (c.weight-weight.result + 1) c.in-Ok.closed.origins c.in-Ok.closed.closed.rows c.in-Ok.closed.closed.steps c.in-Ok-section_of.section
    next c.in-Ok.ensures.origins c.in-Ok.ensures.value c.in-Ok-section_of.ensures
