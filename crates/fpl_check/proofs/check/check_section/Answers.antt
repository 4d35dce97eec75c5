use Rattle.fpl_check.proofs.LawsPassed.{spans_when}
use Rattle.fpl_check.proofs.check.check_section.Goals as goal

pub returns-clause-spans : goal.returns-clause-spans
returns-clause-spans g c = spans_when c.args.p.now c.args.table.now c.args.section.now c.requires.holds c.requires.section c.checked_rows.result
    c.checked_rows.ensures.value
