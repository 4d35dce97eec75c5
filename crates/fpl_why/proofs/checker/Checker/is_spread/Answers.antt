use Rattle.std.proofs.Common.{◌≡◌, map, ap, ap₂, sym, ◌∙◌}
use Rattle.fpl_numbers.specs.Numbers.{residue}
use Rattle.fpl_numbers.specs.Kinds.{number_of}
use Rattle.math_algebra.specs.Tree.{sum_of, multiple, trees}
use Rattle.math_algebra.specs.Derives.{sum_all}
use Rattle.fpl_model.specs.Meaning.{plain, trees_in, in_field}
use Rattle.fpl_model.proofs.Plain.{plain-Sum, plain-Times}
use Rattle.plain_proofs.specs.Checks.{same_tree, list_of, checks_spread}
use Rattle.fpl_why.specs.Checking.{kind_in, field_in}
use Rattle.fpl_why.proofs.checker.Checker.is_spread.Goals as goal

pub returns-in-Sum-f : goal.returns-in-Sum-f
returns-in-Sum-f c =
    let k = kind_in c.args.self.now in
    let K = field_in c.args.self.now in
    let inner : plain c.in-Times.e ≡ sum_of (trees (map plain c.in-Sum.es)) = ap plain (sym c.get.ensures ∙ c.in-Sum.is) ∙ plain-Sum c.in-Sum.es in
    let left : plain c.args.e.now ≡ multiple c.in-Times.c (sum_of (trees (map plain c.in-Sum.es))) =
    ap plain c.in-Times.is ∙ plain-Times c.in-Times.c c.in-Times.e ∙ ap (multiple c.in-Times.c) inner in
    let right : plain c.args.f.now ≡ sum_of (trees (map plain c.in-Sum-f.fs)) = ap plain c.in-Sum-f.is ∙ plain-Sum c.in-Sum-f.fs in
    let es : c.as_slice.result.now ≡ c.in-Sum.es = c.as_slice.ensures ∙ c.get-in-Sum-f.ensures in
    let fs : c.as_slice-in-Sum-f.result.now ≡ c.in-Sum-f.fs = c.as_slice-in-Sum-f.ensures ∙ c.get-in-Sum-f-2.ensures in
    let x : number_of k (residue c.residue.result) ≡ number_of k c.in-Times.c = ap (number_of k) (sym c.residue.ensures.value) in
    c.spreads.ensures ∙ (λ i. same_tree K (sum_all K (map (multiple (x i)) (list_of (trees_in k (es i))))) (sum_of (trees_in k (fs i)))) ∙
    sym (ap₂ (λ t u. checks_spread K (in_field k t) (in_field k u)) left right)
