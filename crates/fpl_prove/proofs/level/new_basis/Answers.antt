use Rattle.std.proofs.Common.{◌≡◌, ◌+◌, ◌++◌, ◌∷◌, [], ◌∙◌, suc, refl, ap, ap₂, sym, arith, get_or}
use Rattle.std.proofs.lemmas.List.{append-nil, append_assoc, map-append, get_or_read}
use Rattle.fpl_model.specs.declared.expr.Expr.TheVariants.{Zero}
use Rattle.fpl_prove.specs.Learning.{free_below, trees_at}
use Rattle.fpl_prove.proofs.Leading.{named_some, named_none, free_start, free_named, free_other}
use Rattle.fpl_prove.proofs.level.new_basis.Goals.{in-None+in_ok-copy-in-None+in_ok-push-in-None, in-Some}
use Rattle.fpl_prove.proofs.level.new_basis.Goals as goal

pub loop-s-init : goal.loop-s-init
loop-s-init c =
    sym (ap (λ ss. c.args.basis.now.items ++ trees_at c.args.trees.now ss) (free_start c.args.leads.now) ∙ append-nil c.args.basis.now.items)

pub loop-s-preserved : goal.loop-s-preserved
loop-s-preserved c =
    let leads = c.args.leads.now in
    let trees = c.args.trees.now in
    let old = c.args.basis.now.items in
    let s = c.loop-s.s in
    let one : s + 1 ≡ suc s = omega arith in
    elim c.match-lead_at.branch [
      | in-None+in_ok-copy-in-None+in_ok-push-in-None w ↦
          let none = named_none leads s (w.in-None.ensures.none refl) in
          ap (λ v. v.items) w.basis-is ∙ w.in_ok-push-in-None.ensures.items
          ∙ ap₂ (λ xs x. xs ++ x ∷ []) c.loop-s.invariant
          (w.in_ok-copy-in-None.ensures ∙ get_or_read trees s w.index-trees-s.result c.loop-s-test.true w.index-trees-s.is Zero)
          ∙ append_assoc old (trees_at trees (free_below leads s)) (get_or trees s Zero ∷ [])
          ∙ ap (λ xs. old ++ xs) (sym (map-append (λ s. get_or trees s Zero) (free_below leads s) (s ∷ []))
          ∙ ap (trees_at trees) (sym (free_other leads s (s + 1) one none)))
      | in-Some w ↦
          let some = named_some leads w.in-Some.field-0 s w.in-Some.ensures.some.0 w.in-Some.ensures.some.1 in
          ap (λ v. v.items) w.basis-is ∙ c.loop-s.invariant ∙ ap (λ ss. old ++ trees_at trees ss) (sym (free_named leads s (s + 1) one some))
    ]
