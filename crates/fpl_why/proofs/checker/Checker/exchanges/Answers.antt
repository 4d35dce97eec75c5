use Rattle.std.proofs.Common.{◌∙◌, ◌&&◌}
use Rattle.fpl_why.proofs.Moves.{not_exchanged_below, not_exchanged_past, not_exchanged_long, exchange_told}
use Rattle.fpl_why.specs.Checking.{kind_in}
use Rattle.fpl_why.proofs.checker.Checker.exchanges.Goals as goal

pub returns-then-k-lt1 : goal.returns-then-k-lt1
returns-then-k-lt1 c = not_exchanged_below (kind_in c.args.self.now) c.args.k c.args.es.now c.args.fs.now c.if-k-lt1.true

pub returns-then-k-es : goal.returns-then-k-es
returns-then-k-es c = not_exchanged_past (kind_in c.args.self.now) c.args.k c.args.es.now c.args.fs.now c.if-k-es.true

pub returns-then-fs-es : goal.returns-then-fs-es
returns-then-fs-es c =
    not_exchanged_long (kind_in c.args.self.now) c.args.k c.args.es.now c.args.fs.now c.if-k-lt1.false c.if-k-es.false c.if-fs-es.true

pub returns : goal.returns
returns c =
    c.all_four.ensures ∙
    (λ i. c.same_front-front.ensures i && (c.same_at-first.ensures i && (c.same_at-second.ensures i && c.same_back-back.ensures i))) ∙
    exchange_told (kind_in c.args.self.now) c.args.k c.args.es.now c.args.fs.now c.if-k-lt1.false c.if-k-es.false c.if-fs-es.false
