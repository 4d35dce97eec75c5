use Rattle.std.proofs.Common.{◌≡◌, ◌+◌, ◌++◌, [], suc, length, get_or, drop, sym, ap, ◌∙◌, arith, drop_of_length-le}
use Rattle.std.proofs.lemmas.List.{append-nil, append_assoc}
use Rattle.plain_envelope.specs.Straight.{times_word, poly_product}
use Rattle.fpl_envelope.specs.Action.{field_in, number_in}
use Rattle.fpl_envelope.specs.Polys.{word_of, poly_of}
use Rattle.fpl_envelope.proofs.Pieces.{product_left, product_none}
use Rattle.fpl_envelope.proofs.multiplying.product.Goals as goal

pub loop-k-preserved : goal.loop-k-preserved
loop-k-preserved g c =
    let T = c.args.table.now in
    let long : length c.u.inside.terms.items ≡ length c.args.u.now = ap length c.u.view_is in
    let at : c.index.result.now ≡ get_or c.args.u.now c.loop-k.k c.index.result.now =
    c.index.ensures ∙ ap (λ ys. get_or ys c.loop-k.k c.index.result.now) c.u.view_is in
    record {
      left = ap (λ p. p ++ poly_product (field_in T) (poly_of T.kind (drop (c.loop-k.k + 1) c.args.u.now)) (poly_of T.kind c.args.v.now))
          c.in_ok-push_products.ensures.value
          ∙ append_assoc (poly_of T.kind c.loop-k.product) _ _
          ∙ ap (λ n. poly_of T.kind c.loop-k.product
          ++ (times_word (field_in T) (word_of c.index.result.now.0) (number_in T c.index.result.now.1) (poly_of T.kind c.args.v.now)
          ++ poly_product (field_in T) (poly_of T.kind (drop n c.args.u.now)) (poly_of T.kind c.args.v.now)))
          (let q : c.loop-k.k + 1 ≡ suc c.loop-k.k = omega arith in q)
          ∙ ap (λ ts. poly_of T.kind c.loop-k.product ++ ts)
          (product_left T.kind c.loop-k.k c.args.u.now c.args.v.now c.index.result.now (omega arith) at)
          ∙ c.loop-k.invariant.left;
      poly = c.in_ok-push_products.ensures.poly c.loop-k.invariant.poly;
    }

pub returns-clause-value : goal.returns-clause-value
returns-clause-value g c =
    let T = c.args.table.now in
    let long : length c.u.inside.terms.items ≡ length c.args.u.now = ap length c.u.view_is in
    let none : drop c.loop-k.k c.args.u.now ≡ [] = drop_of_length-le c.args.u.now (omega arith) in
    sym (append-nil (poly_of T.kind c.loop-k.product))
    ∙ ap (λ ts. poly_of T.kind c.loop-k.product ++ ts)
    (product_none T.kind c.args.v.now
    ∙ ap (λ d. poly_product (field_in T) (poly_of T.kind d) (poly_of T.kind c.args.v.now)) (sym none))
    ∙ c.loop-k.invariant.left
