use Rattle.std.proofs.Common.{◌∙◌, ap₂, sym, length}
use Rattle.plain_proofs.specs.Checks.{same_list}
use Rattle.fpl_why.proofs.Lists.{list_take}
use Rattle.fpl_why.specs.Checking.{kind_in, field_in, list}
use Rattle.fpl_why.proofs.checker.Checker.same_front.Goals as goal

pub returns : goal.returns
returns c =
    let k = kind_in c.args.self.now in
    let n = length c.args.self.now.presentation.now.generators in
    c.same_all.ensures ∙
    ap₂ (λ xs ys. same_list (field_in c.args.self.now) (list c.args.self.now xs) (list c.args.self.now ys)) c.up_to-left.ensures c.up_to-right.ensures ∙
    ap₂ (same_list (field_in c.args.self.now)) (sym (list_take k n c.args.n c.args.es.now)) (sym (list_take k n c.args.n c.args.fs.now))
