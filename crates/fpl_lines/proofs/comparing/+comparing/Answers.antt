use Rattle.std.proofs.Common.{◌≡◌, map, length, sym, ap, ◌∙◌, arith}
use Rattle.fpl_model.specs.Meaning.{plain}
use Rattle.fpl_model.proofs.Plain.{plain-Sum}
use Rattle.math_algebra.specs.Tree.{sum_of, trees}
use Rattle.fpl_lines.proofs.Members.{trees_apart, member_same}
use Rattle.fpl_lines.proofs.comparing.+comparing.Goals as goal

pub same-returns-in-Sum-Sum : goal.same-returns-in-Sum-Sum
same-returns-in-Sum-Sum t c =
    let left : plain c.args.e.now ≡ sum_of (trees (map plain c.in-Sum-Sum.es)) = ap plain c.in-Sum-Sum.is-0 ∙ plain-Sum c.in-Sum-Sum.es in
    let right : plain c.args.f.now ≡ sum_of (trees (map plain c.in-Sum-Sum.fs)) = ap plain c.in-Sum-Sum.is-1 ∙ plain-Sum c.in-Sum-Sum.fs in
    let es : map plain c.as_slice.result.now ≡ map plain c.in-Sum-Sum.es = ap (map plain) (c.as_slice.ensures ∙ c.get.ensures) in
    let fs : map plain c.as_slice-in-Sum-Sum.result.now ≡ map plain c.in-Sum-Sum.fs = ap (map plain) (c.as_slice-in-Sum-Sum.ensures
    ∙ c.get-in-Sum-Sum.ensures) in (
      λ h. left ∙ ap (λ xs. sum_of (trees xs)) (sym es ∙ c.same_all.ensures.0 h ∙ fs) ∙ sym right,
      λ h. let sums : sum_of (trees (map plain c.in-Sum-Sum.es)) ≡ sum_of (trees (map plain c.in-Sum-Sum.fs)) = sym left ∙ h ∙ right in
          c.same_all.ensures.1 (es ∙ trees_apart _ _ (cc) ∙ sym fs),
    )

pub same_all-returns-then-not-same : goal.same_all-returns-then-not-same
same_all-returns-then-not-same t c =
    let long = c.loop-i.invariant.long in
    let differ : (map plain c.args.es.now ≡ map plain c.args.fs.now) → ⊥ = (λ h.
    let member = member_same plain c.args.es.now c.args.fs.now c.loop-i.i c.index-es-i.result c.index-fs-i.result (omega arith) (omega arith) h in
    let told = c.same.ensures.1 (ap plain c.index-es-i.is ∙ member ∙ sym (ap plain c.index-fs-i.is)) in
    cc) in
    (λ h. absurd (let never : ⊥ = cc in never), λ h. absurd (differ h))
