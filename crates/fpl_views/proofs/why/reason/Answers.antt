use Rattle.std.proofs.Common.{refl, sym, ◌∙◌}
use Rattle.fpl_queries.proofs.Within.{beyond_if, not_beyond}
use Rattle.fpl_reasons.specs.Why.IsReason.{is_beyond_limit, is_different, is_proved}
use Rattle.fpl_views.proofs.why.reason.Goals as goal

pub returns-then-is_beyond : goal.returns-then-is_beyond
returns-then-is_beyond c =
    is_beyond_limit (beyond_if c.args.p.now c.args.table.now c.args.q.now c.requires.query (sym c.is_beyond.ensures ∙ c.if-is_beyond.true))

pub returns-in-Ok : goal.returns-in-Ok
returns-in-Ok c =
    is_proved (not_beyond c.args.p.now c.args.table.now c.args.q.now (sym c.is_beyond.ensures ∙ c.if-is_beyond.false))
    (c.in-Ok.ensures.one refl) c.in-Ok.proof c.in-Ok.ensures.proof

pub returns-in-Err-NotEqual : goal.returns-in-Err-NotEqual
returns-in-Err-NotEqual c =
    is_different (not_beyond c.args.p.now c.args.table.now c.args.q.now (sym c.is_beyond.ensures ∙ c.if-is_beyond.false))
    ((rw c.in-Err-NotEqual.field-0-is at c.in-Err-NotEqual.ensures.differ) refl)
