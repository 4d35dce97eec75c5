use Rattle.std.proofs.Common.{◌≡◌, map, ap, ap₂, sym, ◌∙◌}
use Rattle.math_algebra.specs.Tree.{sum_of, bracket_of, trees}
use Rattle.math_algebra.specs.Derives.{sum_all}
use Rattle.fpl_model.specs.Meaning.{plain, tree_in, trees_in, in_field}
use Rattle.fpl_model.proofs.Plain.{plain-Sum, plain-Br}
use Rattle.plain_proofs.specs.Checks.{same_tree, list_of, checks_left_sum}
use Rattle.fpl_why.specs.Checking.{kind_in, field_in}
use Rattle.fpl_why.proofs.checker.Checker.is_left_sum.Goals as goal

pub returns-in-Sum-f : goal.returns-in-Sum-f
returns-in-Sum-f c =
    let k = kind_in c.args.self.now in
    let K = field_in c.args.self.now in
    let inner : plain c.in-Br.e ≡ sum_of (trees (map plain c.in-Sum.es)) = ap plain (sym c.get.ensures ∙ c.in-Sum.is) ∙ plain-Sum c.in-Sum.es in
    let left : plain c.args.e.now ≡ bracket_of (sum_of (trees (map plain c.in-Sum.es))) (plain c.in-Br.g) =
    ap plain c.in-Br.is ∙ plain-Br c.in-Br.e c.in-Br.g ∙ ap (λ t. bracket_of t (plain c.in-Br.g)) inner in
    let right : plain c.args.f.now ≡ sum_of (trees (map plain c.in-Sum-f.fs)) = ap plain c.in-Sum-f.is ∙ plain-Sum c.in-Sum-f.fs in
    let es : c.as_slice.result.now ≡ c.in-Sum.es = c.as_slice.ensures ∙ c.get-in-Sum-f.ensures in
    let fs : c.as_slice-in-Sum-f.result.now ≡ c.in-Sum-f.fs = c.as_slice-in-Sum-f.ensures ∙ c.get-in-Sum-f-3.ensures in
    let g : c.get-in-Sum-f-2.result.now ≡ c.in-Br.g = c.get-in-Sum-f-2.ensures in
    c.spreads_left.ensures ∙
    (λ i. same_tree K (sum_all K (map (λ e. bracket_of e (tree_in k (g i))) (list_of (trees_in k (es i))))) (sum_of (trees_in k (fs i)))) ∙
    sym (ap₂ (λ t u. checks_left_sum K (in_field k t) (in_field k u)) left right)
