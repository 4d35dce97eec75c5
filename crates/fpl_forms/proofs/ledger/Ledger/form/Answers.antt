use Rattle.std.proofs.Common.{subst, sym, ap, ◌∙◌}
use Rattle.fpl_forms.specs.Ledgers.{IsSoundLedger, IsExpr}
use Rattle.fpl_forms.specs.Forms.{sum_expr}
use Rattle.fpl_forms.proofs.Moves.{sum_over}
use Rattle.fpl_forms.proofs.ledger.Ledger.form.Goals as goal

pub same-requires : goal.same-requires
same-requires c =
    let L = c.args.self.now in
    let sound = subst IsSoundLedger c.self.view_is c.self.invariant in
    subst (IsExpr L.presentation) (sym (c.in_ok-whole.ensures ∙ ap (sum_expr c.args.atoms.now) c.deref.ensures.value))
    (sum_over L sound c.args.atoms.now c.requires.atoms c.args.terms.items c.requires.terms)
