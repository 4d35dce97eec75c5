use Rattle.std.proofs.Common.{◌∙◌, ◌&&◌}
use Rattle.fpl_why.specs.Checking.{kind_in}
use Rattle.fpl_why.proofs.Axioms.{not_pair, pair_told}
use Rattle.fpl_why.proofs.checker.Checker.are_jacobi_members.Goals as goal

pub returns-then-fs-ne2 : goal.returns-then-fs-ne2
returns-then-fs-ne2 c = not_pair (kind_in c.args.self.now) _ _ c.args.fs.now c.if-fs-ne2.true

pub returns : goal.returns
returns c =
    c.both.ensures ∙ (λ i. c.is_left_nested-first.ensures i && c.is_turned-second.ensures i) ∙
    pair_told (kind_in c.args.self.now) _ _ c.args.fs.now c.index-fs-0.result c.index-fs-1.result c.if-fs-ne2.false c.index-fs-0.is c.index-fs-1.is
