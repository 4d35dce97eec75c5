use Rattle.std.proofs.Common.{◌≡◌, ◌∙◌, ◌&&◌, [], ◌∷◌, ap, sym}
use Rattle.math_algebra.specs.Tree.{multiple, bracket_of}
use Rattle.math_algebra.specs.Derives.{sum_all}
use Rattle.fpl_model.specs.Meaning.{plain, tree_in, in_field, parity_in}
use Rattle.fpl_model.proofs.Plain.{plain-Br}
use Rattle.plain_proofs.specs.Checks.{same_tree, has, has_some, checks_jacobi}
use Rattle.fpl_why.specs.Checking.{kind_in, field_in, presented, tree}
use Rattle.fpl_why.proofs.checker.Checker.is_jacobi.Goals as goal

pub returns-in-Br-get : goal.returns-in-Br-get
returns-in-Br-get c =
    let self = c.args.self.now in
    let k = kind_in self in
    let K = field_in self in
    let P = presented self in
    let s = parity_in c.args.s in
    let t = parity_in c.args.t in
    let inner : plain c.in-Br.e ≡ bracket_of (plain c.in-Br-get.b) (plain c.in-Br-get.c) =
    ap plain (sym c.get.ensures ∙ c.in-Br-get.is) ∙ plain-Br c.in-Br-get.b c.in-Br-get.c in
    let left : plain c.args.e.now ≡ bracket_of (plain c.in-Br.a) (bracket_of (plain c.in-Br-get.b) (plain c.in-Br-get.c)) =
    ap plain c.in-Br.is ∙ plain-Br c.in-Br.a c.in-Br.e ∙ ap (bracket_of (plain c.in-Br.a)) inner in
    c.all_of.ensures ∙
    (λ i. (c.has-first.ensures ∙ ap (λ x. has K P (tree_in k x) s) c.get-in-Br-get.ensures) i &&
    (c.has-second.ensures ∙ ap (λ x. has K P (tree_in k x) t) c.get-in-Br-get-2.ensures) i &&
    (c.has_some-third.ensures ∙ ap (λ x. has_some K P (tree_in k x)) c.get-in-Br-get-3.ensures) i &&
    (c.is_jacobi_of-members.ensures ∙
    (λ j. same_tree K (sum_all K
    (bracket_of (bracket_of (tree_in k (c.get-in-Br-get-4.ensures j)) (tree_in k (c.get-in-Br-get-5.ensures j))) (tree_in k (c.get-in-Br-get-6.ensures j)) ∷
    multiple (c.sign-n.ensures.value j)
    (bracket_of (tree_in k (c.get-in-Br-get-5.ensures j)) (bracket_of (tree_in k (c.get-in-Br-get-4.ensures j)) (tree_in k
    (c.get-in-Br-get-6.ensures j)))) ∷ []))
    (tree self c.args.f.now))) i) ∙
    sym (ap (λ x. checks_jacobi K P s t (in_field k x) (tree self c.args.f.now)) left)
