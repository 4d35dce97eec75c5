use Rattle.std.proofs.Common.{◌∙◌, ◌-◌, ◌&&◌, ap, sym, arith, length}
use Rattle.math_algebra.specs.Tree.{multiple}
use Rattle.plain_proofs.specs.Checks.{same_tree}
use Rattle.fpl_why.proofs.Lists.{list_at}
use Rattle.fpl_why.proofs.Moves.{not_collected_long, collect_sum}
use Rattle.fpl_why.specs.Checking.{kind_in, field_in, tree, number}
use Rattle.fpl_why.proofs.checker.Checker.collects_to.Goals as goal

pub returns-then-fs-es : goal.returns-then-fs-es
returns-then-fs-es c =
    let self = c.args.self.now in
    not_collected_long (kind_in self) c.args.k c.args.es.now c.args.fs.now (multiple (number self c.args.c) (tree self c.args.e.now)) c.requires.first
    c.requires.last c.if-fs-es.true

pub returns : goal.returns
returns c =
    let self = c.args.self.now in
    let n = length self.presentation.now.generators in
    let x = multiple (number self c.args.c) (tree self c.args.e.now) in
    let at = list_at (kind_in self) n c.args.fs.now (c.args.k - 1) c.index-fs-k.result (omega arith) c.index-fs-k.is in
    c.all_three.ensures ∙
    (λ i. c.same_front-front.ensures i &&
    ((c.is_multiple-middle.ensures ∙ ap (same_tree (field_in self) x) (sym at)) i && c.same_back-back.ensures i)) ∙
    collect_sum (kind_in self) c.args.k c.args.es.now c.args.fs.now x c.requires.first c.requires.last c.if-fs-es.false
