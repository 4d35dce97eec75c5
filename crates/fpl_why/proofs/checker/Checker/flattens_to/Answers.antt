use Rattle.std.proofs.Common.{◌≡◌, ◌∙◌, ◌-◌, ◌&&◌, ap, sym, length, take, drop}
use Rattle.plain_proofs.specs.Checks.{same_list}
use Rattle.fpl_why.proofs.Lists.{list_take, list_drop}
use Rattle.fpl_why.proofs.Moves.{not_flat_long, flat_sum}
use Rattle.fpl_why.specs.Checking.{kind_in, field_in, list}
use Rattle.fpl_why.proofs.checker.Checker.flattens_to.Goals as goal

pub returns-then-fs-gs : goal.returns-then-fs-gs
returns-then-fs-gs c =
    not_flat_long (kind_in c.args.self.now) c.args.k c.args.es.now c.args.fs.now c.args.gs.now c.requires.first c.requires.last c.if-fs-gs.true

pub returns : goal.returns
returns c =
    let self = c.args.self.now in
    let K = field_in self in
    let n = length self.presentation.now.generators in
    let m = length c.args.gs.now in
    let rest : list self c.past-rest.result.now ≡ drop (c.args.k - 1) (list self c.args.fs.now) =
    ap (list self) c.past-rest.ensures ∙ sym (list_drop (kind_in self) n (c.args.k - 1) c.args.fs.now) in
    let inner : list self c.up_to-inner.result.now ≡ take m (drop (c.args.k - 1) (list self c.args.fs.now)) =
    ap (list self) c.up_to-inner.ensures ∙ sym (list_take (kind_in self) n m c.past-rest.result.now) ∙ ap (take m) rest in
    c.all_three.ensures ∙
    (λ i. c.same_front-front.ensures i &&
    ((c.same_all-middle.ensures ∙ ap (same_list K (list self c.args.gs.now)) inner) i &&
    (c.same_back-back.ensures ∙ ap (λ z. same_list K (drop c.args.k (list self c.args.es.now)) (drop m z)) rest) i)) ∙
    flat_sum (kind_in self) c.args.k c.args.es.now c.args.fs.now c.args.gs.now c.requires.first c.requires.last
