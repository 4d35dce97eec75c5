use Rattle.std.proofs.Common.{◌≡◌, ◌+◌, [], suc, List, length, drop, sym, ap, ◌∙◌, subst, arith, drop_of_length-le}
use Rattle.fpl_numbers.specs.declared.number.Num.{Num}
use Rattle.math_linear.proofs.Numbers.{nought-plus}
use Rattle.plain_envelope.specs.Straight.{part_value}
use Rattle.fpl_envelope.specs.Action.{StandsFor, row_value, field_in, math_in}
use Rattle.fpl_envelope.specs.Polys.{poly_of, part_of}
use Rattle.fpl_envelope.proofs.Adding.{sum_start, zeros_give}
use Rattle.fpl_envelope.proofs.Parts.{part_left, part_none}
use Rattle.fpl_envelope.proofs.straightening.sum_of.Goals as goal

pub loop-k-init : goal.loop-k-init
loop-k-init g c =
    let T = c.args.table.now in
    record {
      sum = sum_start T c.requires.table.residues.accepted c.args.w c.total-size.result _ c.in_ok-sum.sum c.in_ok-sum.ensures c.field.ensures
          c.total-size.ensures.value;
      left = λ f. ap (λ (r : List Num). (field_in T).plus (row_value T c.args.w r f) (part_value (field_in T) (math_in T) c.args.w
          (poly_of T.kind c.args.u.now) f))
          (ap (λ s. s.row) c.in_ok-sum.ensures)
          ∙ ap (λ a. (field_in T).plus a (part_value (field_in T) (math_in T) c.args.w (poly_of T.kind c.args.u.now) f))
          (zeros_give T c.requires.table.residues.accepted c.args.w c.total-size.result f)
          ∙ nought-plus (field_in T) _;
    }

pub loop-k-preserved : goal.loop-k-preserved
loop-k-preserved g c =
    let T = c.args.table.now in
    let long : length c.u.inside.terms.items ≡ length c.args.u.now = ap length c.u.view_is in
    record {
      sum = c.add_term.ensures.sum;
      left = λ f. ap (λ a. (field_in T).plus a (part_value (field_in T) (math_in T) c.args.w (poly_of T.kind (drop (c.loop-k.k + 1) c.args.u.now)) f))
          (c.in_ok-add_term.ensures.adds f)
          ∙ (field_in T).plus_assoc _ _ _
          ∙ ap (λ n. (field_in T).plus (row_value T c.args.w c.loop-k.sum.row f) ((field_in T).plus (part_of T c.args.w c.index.result.now f) (part_value
          (field_in T) (math_in T) c.args.w
          (poly_of T.kind (drop n c.args.u.now)) f))) (let q : c.loop-k.k + 1 ≡ suc c.loop-k.k = omega arith in q)
          ∙ ap ((field_in T).plus (row_value T c.args.w c.loop-k.sum.row f))
          (sym (part_left T c.args.w c.loop-k.k c.u.inside.terms.items c.args.u.now c.index.result.now f c.u.view_is (omega arith) c.index.ensures))
          ∙ c.loop-k.invariant.left f;
    }

pub returns : goal.returns
returns g c =
    let T = c.args.table.now in
    let long : length c.u.inside.terms.items ≡ length c.args.u.now = ap length c.u.view_is in
    let none : drop c.loop-k.k c.args.u.now ≡ [] = drop_of_length-le c.args.u.now (omega arith) in
    subst (StandsFor T c.args.w (part_value (field_in T) (math_in T) c.args.w (poly_of T.kind c.args.u.now))) (sym c.in_ok-row.ensures) (record {
      row_of = c.loop-k.invariant.sum.row_of;
      value = λ f. sym ((field_in T).plus-nought _)
          ∙ ap ((field_in T).plus (row_value T c.args.w c.loop-k.sum.row f))
          (sym (ap (λ v. part_value (field_in T) (math_in T) c.args.w (poly_of T.kind v) f)
          none ∙ part_none T c.args.w f))
          ∙ c.loop-k.invariant.left f;
    })
