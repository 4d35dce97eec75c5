use Rattle.std.proofs.Common.{◌≡◌, ◌<◌, ◌-◌, suc, length, get_or, ap, subst, sym, ◌∙◌, arith}
use Rattle.fpl_table.specs.Plain.{through}
use Rattle.fpl_table.specs.Shape.{HasShape}
use Rattle.fpl_table.proofs.Lists.{map_at}
use Rattle.fpl_table.proofs.Weights.{through_none, through_within}
use Rattle.fpl_table.proofs.table.Table.through.Goals as goal

pub returns-then-w-eq0-clause-value : goal.returns-then-w-eq0-clause-value
returns-then-w-eq0-clause-value g c =
    let shape : HasShape c.args.self.now = subst HasShape c.self.view_is c.self.invariant.shape in
    rw c.if-w-eq0.true (sym (through_none c.args.self.now shape))

pub returns-clause-value : goal.returns-clause-value
returns-clause-value g c =
    let here : c.index-levels-w.result ≡ get_or c.self.inside.levels.items (c.args.w - 1) c.index-levels-w.result =
    c.index-levels-w.is ∙ ap (λ x. get_or x (c.args.w - 1) c.index-levels-w.result) c.as_slice-levels.ensures.value in
    let lt : c.args.w - 1 < length c.self.inside.levels.items = omega (arith, ap (λ T. T.weight) c.self.view_is) in
    let seen = map_at (λ l. l.through) c.self.inside.levels.items (c.args.w - 1) 0 c.index-levels-w.result lt here in
    let same : suc (c.args.w - 1) ≡ c.args.w = omega arith in
    let kept = c.self.invariant.counts_are (c.args.w - 1) lt in
    ap (λ l. l.through) (sym c.index-levels-w.is) ∙ sym seen ∙ rw same at kept ∙ ap (λ T. through T c.args.w) c.self.view_is

pub returns-clause-within : goal.returns-clause-within
returns-clause-within g c =
    let shape : HasShape c.args.self.now = subst HasShape c.self.view_is c.self.invariant.shape in
    rw (returns-clause-value g c) (through_within c.args.self.now shape c.args.w)
