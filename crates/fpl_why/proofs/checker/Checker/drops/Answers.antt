use Rattle.std.proofs.Common.{◌∙◌, ◌&&◌, ◌-◌, ap, sym, arith, length}
use Rattle.math_algebra.specs.Tree.{none}
use Rattle.plain_proofs.specs.Checks.{same_tree}
use Rattle.fpl_why.proofs.Lists.{list_at}
use Rattle.fpl_why.proofs.Moves.{not_dropped_below, not_dropped_past, not_dropped_long, drop_told}
use Rattle.fpl_why.specs.Checking.{kind_in, field_in}
use Rattle.fpl_why.proofs.checker.Checker.drops.Goals as goal

pub returns-then-k-lt1 : goal.returns-then-k-lt1
returns-then-k-lt1 c = not_dropped_below (kind_in c.args.self.now) c.args.k c.args.es.now c.args.fs.now c.if-k-lt1.true

pub returns-then-k-es : goal.returns-then-k-es
returns-then-k-es c = not_dropped_past (kind_in c.args.self.now) c.args.k c.args.es.now c.args.fs.now c.if-k-es.true

pub returns-then-fs-es : goal.returns-then-fs-es
returns-then-fs-es c =
    not_dropped_long (kind_in c.args.self.now) c.args.k c.args.es.now c.args.fs.now c.if-k-lt1.false c.if-k-es.false c.if-fs-es.true

pub returns : goal.returns
returns c =
    let at = list_at (kind_in c.args.self.now) (length c.args.self.now.presentation.now.generators) c.args.es.now (c.args.k - 1) c.index-es-k.result
    (omega arith) c.index-es-k.is in
    c.all_three.ensures ∙
    (λ i. (c.is_none-none.ensures ∙ ap (same_tree (field_in c.args.self.now) none) (sym at)) i &&
    (c.same_front-front.ensures i && c.same_back-back.ensures i)) ∙
    drop_told (kind_in c.args.self.now) c.args.k c.args.es.now c.args.fs.now c.if-k-lt1.false c.if-k-es.false
