use Rattle.std.proofs.Common.{◌∙◌, ◌-◌, ap₂, sym, arith, length}
use Rattle.plain_proofs.specs.Checks.{checks_collect_at}
use Rattle.fpl_why.proofs.Lists.{list_at}
use Rattle.fpl_why.proofs.Moves.{not_collected_below, not_collected_past, collect_told}
use Rattle.fpl_why.specs.Checking.{kind_in, field_in, list, sum_in}
use Rattle.fpl_why.proofs.checker.Checker.collects.Goals as goal

pub returns-then-k-lt1 : goal.returns-then-k-lt1
returns-then-k-lt1 c = not_collected_below (kind_in c.args.self.now) c.args.k c.args.es.now c.args.fs.now c.if-k-lt1.true

pub returns-then-k-es : goal.returns-then-k-es
returns-then-k-es c = not_collected_past (kind_in c.args.self.now) c.args.k c.args.es.now c.args.fs.now c.if-k-es.true

pub returns : goal.returns
returns c =
    let self = c.args.self.now in
    let n = length self.presentation.now.generators in
    let first = list_at (kind_in self) n c.args.es.now (c.args.k - 1) c.index-es-k.result (omega arith) c.index-es-k.is in
    let next = list_at (kind_in self) n c.args.es.now c.args.k c.index-es-k-2.result (omega arith) c.index-es-k-2.is in
    c.collects_at.ensures ∙
    ap₂ (λ x y. checks_collect_at (field_in self) c.args.k (list self c.args.es.now) x y (sum_in self c.args.fs.now)) (sym first) (sym next) ∙
    collect_told (kind_in self) c.args.k c.args.es.now c.args.fs.now c.if-k-lt1.false c.if-k-es.false
