use Rattle.std.proofs.Common.{◌≡◌, ◌≤◌, ◌+◌, ◌++◌, ◌∷◌, [], suc, List, ℕ, length, get_or, drop, sym, ap, ap₂, ◌∙◌, subst, arith}
use Rattle.std.proofs.lemmas.List.{append_assoc}
use Rattle.fpl_numbers.specs.declared.number.Num.{Num}
use Rattle.fpl_numbers.specs.declared.number.Kind.{Kind}
use Rattle.fpl_numbers.specs.Numbers.{IsElement}
use Rattle.fpl_numbers.specs.Kinds.{field_of, number_of}
use Rattle.plain_envelope.specs.Straight.{times_word}
use Rattle.fpl_envelope.specs.Action.{field_in, number_in}
use Rattle.fpl_envelope.specs.Polys.{word_of, poly_of, weight_in, IsTermIn, IsPolyIn}
use Rattle.fpl_envelope.proofs.Pieces.{poly_joined, times_left, terms_joined, one_term, term_joined}
use Rattle.fpl_envelope.proofs.multiplying.push_products.Goals as goal

pub loop-k-preserved : goal.loop-k-preserved
loop-k-preserved g c =
    let T = c.args.table.now in
    let long : length c.v.inside.terms.items ≡ length c.args.v.now = ap length c.v.view_is in
    let at : c.index-right.result.now ≡ get_or c.args.v.now c.loop-k.k c.index-right.result.now =
    c.index-right.ensures ∙ ap (λ ys. get_or ys c.loop-k.k c.index-right.result.now) c.v.view_is in
    let value : number_of T.kind (g.F.Field.number c.times-number.result)
    ≡ (field_of T.kind).times (number_of T.kind (g.F.Field.number c.left.inside.number)) (number_of T.kind (g.F.Field.number c.right.inside.number)) =
    subst (λ (k : Kind). number_of k (g.F.Field.number c.times-number.result)
    ≡ (field_of k).times (number_of k (g.F.Field.number c.left.inside.number)) (number_of k (g.F.Field.number c.right.inside.number))) c.field.ensures
    c.times-number.ensures.value in
    record {
      left = ap (λ p. poly_of T.kind p ++ times_word (field_in T) (word_of c.args.left.now.0) (number_in T c.args.left.now.1)
          (poly_of T.kind (drop (c.loop-k.k + 1) c.args.v.now))) c.in_ok-push.ensures.ok
          ∙ ap (λ p. p ++ times_word (field_in T) (word_of c.args.left.now.0) (number_in T c.args.left.now.1)
          (poly_of T.kind (drop (c.loop-k.k + 1) c.args.v.now)))
          (poly_joined T.kind c.loop-k.product ((c.in_ok-word.word, g.F.Field.number c.times-number.result) ∷ []))
          ∙ append_assoc (poly_of T.kind c.loop-k.product) _ _
          ∙ ap (λ n. poly_of T.kind c.loop-k.product ++ ((word_of c.in_ok-word.word, number_in T (g.F.Field.number c.times-number.result))
          ∷ times_word (field_in T) (word_of c.args.left.now.0) (number_in T c.args.left.now.1) (poly_of T.kind (drop n c.args.v.now))))
          (let q : c.loop-k.k + 1 ≡ suc c.loop-k.k = omega arith in q)
          ∙ ap (λ ts. poly_of T.kind c.loop-k.product ++ ts)
          (times_left T.kind c.loop-k.k c.args.v.now c.args.left.now c.index-right.result.now c.in_ok-word.word c.left.inside.word c.right.inside.word
          (g.F.Field.number c.times-number.result) (g.F.Field.number c.left.inside.number) (g.F.Field.number c.right.inside.number) c.left.view_is
          c.right.view_is (omega arith) at c.in_ok-word.ensures value)
          ∙ c.loop-k.invariant.left;
      poly = λ h. subst (IsPolyIn T) (sym c.in_ok-push.ensures.ok)
          (terms_joined T c.loop-k.product ((c.in_ok-word.word, g.F.Field.number c.times-number.result) ∷ []) (c.loop-k.invariant.poly h)
          (one_term T (c.in_ok-word.word, g.F.Field.number c.times-number.result)
          (term_joined T c.args.left.now c.index-right.result.now c.in_ok-word.word (g.F.Field.number c.times-number.result) c.requires.left
          (subst (IsTermIn T) (sym at) (c.requires.right c.loop-k.k c.index-right.result.now (omega arith)))
          (subst (λ (m : List ℕ × Num). weight_in T c.args.left.now.0 + weight_in T m.0 ≤ T.weight) (sym at)
          (c.requires.light c.loop-k.k c.index-right.result.now (omega arith)))
          (c.in_ok-word.ensures ∙ ap₂ (λ (a b : List ℕ × Num). a.0 ++ b.0) c.left.view_is c.right.view_is)
          (subst (λ (k : Kind). IsElement k (g.F.Field.number c.times-number.result)) c.field.ensures c.times-number.ensures.element))));
    }
