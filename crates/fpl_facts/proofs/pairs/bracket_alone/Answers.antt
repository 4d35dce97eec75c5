use Rattle.std.proofs.Common.{rules, ◌≡◌, [], ◌∷◌, ap, sym, subst, ◌∙◌, All}
use Rattle.fpl_model.specs.declared.expr.Expr.TheVariants.{Br}
use Rattle.fpl_forms.specs.Ledgers.{IsExpr}
use Rattle.fpl_forms.proofs.Ledgers.{all_one}
use Rattle.fpl_forms.proofs.Trees.{over-Br}
use Rattle.fpl_facts.proofs.pairs.bracket_alone.Goals as goal

pub returns-clause-over : goal.returns-clause-over
returns-clause-over c =
    let p = c.args.ledger.now.presentation in
    let a = c.args.a.now in
    let pushed : c.push.new.self.items ≡ c.in_ok-whole.whole ∷ [] = search rules in
    subst (All (IsExpr p)) (sym (pushed ∙ ap (λ e. e ∷ []) c.in_ok-whole.ensures))
    (all_one (IsExpr p) (Br a a) (over-Br p a a c.requires.over c.requires.over))
