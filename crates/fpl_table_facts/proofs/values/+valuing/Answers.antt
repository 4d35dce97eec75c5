use Rattle.std.proofs.Common.{◌≡◌, ◌≢◌, ◌<◌, ◌++◌, [], ◌∷◌, length, get_or, refl, ap, ap₂, sym, subst, ◌∙◌, rules, All, true}
use Rattle.std.proofs.lemmas.List.{take_more}
use Rattle.math_algebra.specs.Degrees.{any}
use Rattle.fpl_model.specs.declared.expr.Expr.TheVariants.{Br}
use Rattle.fpl_forms.specs.Forms.{IsWork}
use Rattle.fpl_forms.specs.Combining.{lefts}
use Rattle.fpl_forms.proofs.Ledgers.{grows_trans}
use Rattle.fpl_forms.proofs.Gathering.{works_more, lefts_more}
use Rattle.fpl_table_facts.specs.Known.{is_reached, weight_in}
use Rattle.fpl_table_facts.proofs.Grown.{grows_known}
use Rattle.fpl_table_facts.proofs.values.+valuing.Goals as goal

pub value-void_left_form-requires-clause-void : goal.value-void_left_form-requires-clause-void
value-void_left_form-requires-clause-void t c =
    let void : weight_in c.args.p.now c.get-a.result.now ≡ any = search rules in
    subst (λ q. weight_in q c.get-a.result.now ≡ any) (c.requires.presentation ∙ sym c.in_ok-left-in-Br.ensures.grows.presentation) void

pub value-void_right_form-requires-clause-void : goal.value-void_right_form-requires-clause-void
value-void_right_form-requires-clause-void t c =
    let void : weight_in c.args.p.now c.get-b.result.now ≡ any = search rules in
    subst (λ q. weight_in q c.get-b.result.now ≡ any) (c.requires.presentation ∙ sym c.in_ok-right-in-Br.ensures.grows.presentation) void

pub value-bracket_form-requires-clause-some_a : goal.value-bracket_form-requires-clause-some_a
value-bracket_form-requires-clause-some_a t c =
    let g = grows_trans c.in_ok-left-in-Br-2.ensures.grows c.in_ok-right-in-Br-2.ensures.grows in
    subst (λ q. weight_in q c.get-a.result.now ≢ any) (c.requires.presentation ∙ sym g.presentation) (c.if-is_void.ensures.some refl)

pub value-bracket_form-requires-clause-some_b : goal.value-bracket_form-requires-clause-some_b
value-bracket_form-requires-clause-some_b t c =
    let g = grows_trans c.in_ok-left-in-Br-2.ensures.grows c.in_ok-right-in-Br-2.ensures.grows in
    subst (λ q. weight_in q c.get-b.result.now ≢ any) (c.requires.presentation ∙ sym g.presentation) (c.if-is_void-2.ensures.some refl)

pub value-bracket_form-requires-clause-weight : goal.value-bracket_form-requires-clause-weight
value-bracket_form-requires-clause-weight t c =
    let d = c.args.known.now.table.weight in
    let g = grows_trans c.in_ok-left-in-Br-2.ensures.grows c.in_ok-right-in-Br-2.ensures.grows in
    subst (λ q. is_reached d (weight_in q (Br c.get-a.result.now c.get-b.result.now)) ≡ true) (c.requires.presentation ∙ sym g.presentation)
    c.pair_reached.ensures.weight

pub values-loop-e-preserved : goal.values-loop-e-preserved
values-loop-e-preserved t c =
    let i = c.loop-e.invariant in
    let f = c.in_ok-next in
    let g = f.ensures.grows in
    let M = c.value.new.ledger in
    let atoms = c.args.known.now.basis.items in
    let es = c.args.members.now in
    let k = c.loop-e.e-index in
    let e = c.e-item.result in
    let olds = c.loop-e.all.items in
    let lt : k < length es = search rules in
    let item : e ≡ get_or es k e = c.e-item.is ∙ ap (λ es. get_or es k e) i.same in
    let items : c.push.new.self.items ≡ olds ++ f.next ∷ [] = c.in_ok-push.ensures.items in
    record {
      same = i.same;
      grows = grows_trans i.grows g;
      presentation = i.presentation ∙ sym g.presentation;
      known = grows_known g i.known;
      works = subst (All (IsWork M atoms)) (sym items) (works_more g atoms olds f.next i.works f.ensures.form.fact.work);
      lefts = ap (lefts M) items ∙ lefts_more g atoms olds f.next i.works ∙ ap₂ (λ xs x. xs ++ x ∷ []) i.lefts (f.ensures.form.fact.left ∙ item) ∙
          sym (take_more es k e lt);
    }
