use Rattle.std.proofs.Common.{◌∙◌, ◌-◌, ap, sym, arith, length}
use Rattle.plain_proofs.specs.Checks.{checks_flat_at}
use Rattle.fpl_why.proofs.Lists.{list_at}
use Rattle.fpl_why.proofs.Moves.{not_flat_below, not_flat_past, flat_told}
use Rattle.fpl_why.specs.Checking.{kind_in, field_in, list, sum_in}
use Rattle.fpl_why.proofs.checker.Checker.flattens.Goals as goal

pub returns-then-k-lt1 : goal.returns-then-k-lt1
returns-then-k-lt1 c = not_flat_below (kind_in c.args.self.now) c.args.k c.args.es.now c.args.fs.now c.if-k-lt1.true

pub returns-then-k-es : goal.returns-then-k-es
returns-then-k-es c = not_flat_past (kind_in c.args.self.now) c.args.k c.args.es.now c.args.fs.now c.if-k-es.true

pub returns : goal.returns
returns c =
    let self = c.args.self.now in
    let at = list_at (kind_in self) (length self.presentation.now.generators) c.args.es.now (c.args.k - 1) c.index-es-k.result (omega arith) c.index-es-k.is in
    c.flattens_at.ensures ∙ ap (λ x. checks_flat_at (field_in self) c.args.k (list self c.args.es.now) x (sum_in self c.args.fs.now)) (sym at) ∙
    flat_told (kind_in self) c.args.k c.args.es.now c.args.fs.now c.if-k-lt1.false c.if-k-es.false
