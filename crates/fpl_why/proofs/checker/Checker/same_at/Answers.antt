use Rattle.std.proofs.Common.{◌∙◌, ap₂, sym, length}
use Rattle.plain_proofs.specs.Checks.{same_tree}
use Rattle.fpl_why.proofs.Lists.{list_at}
use Rattle.fpl_why.specs.Checking.{kind_in, field_in}
use Rattle.fpl_why.proofs.checker.Checker.same_at.Goals as goal

pub returns : goal.returns
returns c =
    let k = kind_in c.args.self.now in
    let n = length c.args.self.now.presentation.now.generators in
    c.same.ensures ∙
    ap₂ (same_tree (field_in c.args.self.now))
    (sym (list_at k n c.args.es.now c.args.m c.index-es-m.result c.requires.within c.index-es-m.is))
    (sym (list_at k n c.args.fs.now c.args.n c.index-fs-n.result c.requires.other c.index-fs-n.is))
