use Rattle.std.proofs.Common.{rules, ◌≡◌, [], ◌∷◌, ap, sym, subst, ◌∙◌, All}
use Rattle.fpl_forms.specs.Ledgers.{IsExpr, left_of}
use Rattle.fpl_forms.proofs.Ledgers.{all_one, sides_over}
use Rattle.fpl_facts.proofs.zeros.left_alone.Goals as goal

pub returns-clause-over : goal.returns-clause-over
returns-clause-over c =
    let L = c.args.ledger.now in
    let n = c.args.n in
    let left : c.in_ok-left.left ≡ left_of L n = c.in_ok-left.ensures ∙ c.line.ensures.left in
    let pushed : c.push.new.self.items ≡ c.in_ok-left.left ∷ [] = search rules in
    subst (All (IsExpr L.presentation)) (sym (pushed ∙ ap (λ e. e ∷ []) left))
    (all_one (IsExpr L.presentation) (left_of L n) (sides_over L n c.requires.line c.sound.ensures).0)
