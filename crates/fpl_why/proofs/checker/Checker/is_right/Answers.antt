use Rattle.std.proofs.Common.{◌∙◌, ap, sym, subst}
use Rattle.fpl_model.specs.Meaning.{plain}
use Rattle.fpl_lines.specs.Meaning.{rule_in}
use Rattle.math_proofs.specs.Rules.{IsInstance, Cites}
use Rattle.plain_proofs.specs.Checks.{checked}
use Rattle.fpl_why.specs.Checking.{kind_in, field_in, presented, lines_of, tree}
use Rattle.fpl_why.proofs.Axioms.{term_over}
use Rattle.fpl_why.proofs.Citing.{line_is, line_over}
use Rattle.fpl_why.proofs.checker.Checker.is_right.Goals as goal

pub returns : goal.returns
returns c =
    let self = c.args.self.now in
    let n = c.args.n in
    let l = c.index-self-n.result in
    let p = self.presentation.now in
    let terms = line_over p self.lines.now n l c.requires.checker.lines c.requires.within c.index-self-n.is in
    let law = c.lines_are_checked.ensures (kind_in self) (presented self) (lines_of self) n (rule_in l.why) (tree self l.left) (tree self l.right)
    (term_over p (plain l.left) terms.0) (term_over p (plain l.right) terms.1) in
    let same = line_is (kind_in self) self.lines.now n l c.requires.within c.index-self-n.is in
    let told = c.is_instance.ensures ∙
    ap (λ x. checked (field_in self) (presented self) (lines_of self) n (rule_in x.why) (tree self x.left) (tree self x.right)) (sym c.index-self-n.is) in (
      (λ h. subst (λ x. IsInstance (field_in self) (presented self) (Cites (field_in self) (lines_of self) n) x.why x.left_side x.right_side) (sym same)
          (law.0 (sym told ∙ h))),
      (λ h. told ∙
          law.1 (subst (λ x. IsInstance (field_in self) (presented self) (Cites (field_in self) (lines_of self) n) x.why x.left_side x.right_side) same h)),
    )
