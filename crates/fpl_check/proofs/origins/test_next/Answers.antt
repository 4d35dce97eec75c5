use Rattle.std.proofs.Common.{◌≡◌, IfSome, subst, true}
use Rattle.fpl_check.specs.Closing.{shows}
use Rattle.fpl_check.proofs.InsertOrigins.{origin_shown}
use Rattle.fpl_check.proofs.origins.test_next.Goals as goal

pub returns-then-inserts-clause-value : goal.returns-then-inserts-clause-value
returns-then-inserts-clause-value g c =
    origin_shown c.args.table.now c.args.p.now c.args.section.now c.args.rows.now c.in-Some.k c.args.origin c.requires.holds c.requires.section
    c.requires.tested c.requires.closed
    (subst (λ o. IfSome o (λ k. shows c.args.table.now.kind c.args.section.now.steps ≡ true)) c.in-Some.is c.requires.shown)
    (c.inserts.ensures.0 c.if-inserts.true) c.requires.listed
