use Rattle.std.proofs.Common.{subst, sym}
use Rattle.fpl_forms.specs.Ledgers.{PlainLedger, IsSoundLedger, IsNextLine}
use Rattle.fpl_forms.proofs.Ledgers.{sound_more}
use Rattle.fpl_forms.proofs.ledger.Ledger.push.Goals as goal

pub invariant_of-self-2 : goal.invariant_of-self-2
invariant_of-self-2 c =
    subst (λ ls. IsSoundLedger (record { presentation = c.self.inside.p.now; prime = c.self.inside.prime; lines = ls })) (sym c.in_ok-push.ensures.ok)
    (sound_more c.lines_may_be_renumbered.ensures _ c.args.line c.self.invariant
    (subst (λ (L : PlainLedger). IsNextLine L c.args.line) (sym c.self.view_is) c.requires))
