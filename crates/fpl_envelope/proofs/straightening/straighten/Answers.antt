use Rattle.std.proofs.Common.{◌≡◌, ◌+◌, ◌++◌, suc, sym, ap, ap₂, ◌∙◌, subst, arith}
use Rattle.std.proofs.lemmas.List.Elements.{All-nil}
use Rattle.math_linear.specs.Lists.{joined}
use Rattle.math_words.specs.Polys.{Poly}
use Rattle.plain_envelope.specs.Straight.{part_value, terms}
use Rattle.plain_envelope.proofs.Lists.{joined_more}
use Rattle.plain_envelope.proofs.ByWeight.{straightened_by_weight}
use Rattle.fpl_envelope.specs.Counts.{words_in}
use Rattle.fpl_envelope.specs.Action.{field_in, math_in}
use Rattle.fpl_envelope.specs.Polys.{poly_of, spelled, row_terms, IsTermIn, IsPolyIn}
use Rattle.fpl_envelope.proofs.CountRows.{weighted}
use Rattle.fpl_envelope.proofs.Parts.{through_all}
use Rattle.fpl_envelope.proofs.Pieces.{no_levels, poly_joined, terms_joined, row_in}
use Rattle.fpl_envelope.proofs.Terms.{terms_of_row}
use Rattle.fpl_envelope.proofs.straightening.straighten.Goals as goal

pub overflow_add-w-end : goal.overflow_add-w-end
overflow_add-w-end g c =
    let most = c.weight-most.ensures.shape.weight in
    let within = c.top_weight-top.ensures.within in
    omega (arith, most, within)

pub loop-w-init : goal.loop-w-init
loop-w-init g c =
    let T = c.args.table.now in
    record {
      poly = subst (IsPolyIn T) (sym c.new-poly.ensures) (All-nil (IsTermIn T));
      value = ap (poly_of T.kind) c.new-poly.ensures
          ∙ no_levels (λ v. terms (field_in T) (part_value (field_in T) (math_in T) v (poly_of T.kind c.args.u.now)) (words_in T v));
    }

pub loop-w-preserved : goal.loop-w-preserved
loop-w-preserved g c =
    let T = c.args.table.now in
    let less = c.loop-w-test.true in
    let top = c.top_weight-top.ensures.within in
    let long = c.in_ok-row.ensures.row_of.length_is in
    record {
      poly = subst (IsPolyIn T) (sym c.in_ok-push_terms.ensures)
          (terms_joined T c.loop-w.poly (row_terms (spelled T c.loop-w.w) 0 c.in_ok-row.row) c.loop-w.invariant.poly
          (row_in T c.weight-most.ensures.shape c.loop-w.w 0 c.in_ok-row.row (omega (arith, less, top)) (omega (arith, long))
          c.in_ok-row.ensures.row_of.elements));
      value = ap (poly_of T.kind) c.in_ok-push_terms.ensures ∙ poly_joined T.kind c.loop-w.poly (row_terms (spelled T c.loop-w.w) 0 c.in_ok-row.row)
          ∙ ap₂ (λ (a : Poly (field_in T)) b. a ++ b) c.loop-w.invariant.value
          (terms_of_row T c.requires.table.residues.accepted c.weight-most.ensures.shape
          (part_value (field_in T) (math_in T) c.loop-w.w (poly_of T.kind c.args.u.now)) c.loop-w.w c.in_ok-row.row c.in_ok-row.ensures)
          ∙ sym (joined_more c.loop-w.w
          (λ v. terms (field_in T) (part_value (field_in T) (math_in T) v (poly_of T.kind c.args.u.now)) (words_in T v)))
          ∙ ap (λ n. joined n (λ v. terms (field_in T) (part_value (field_in T) (math_in T) v (poly_of T.kind c.args.u.now)) (words_in T v)))
          (let q : suc c.loop-w.w ≡ c.loop-w.w + 1 = omega arith in q);
    }

pub returns-clause-value : goal.returns-clause-value
returns-clause-value g c =
    let T = c.args.table.now in
    let end : c.loop-w.w ≡ suc c.top_weight-top.result = omega arith in
    c.loop-w.invariant.value
    ∙ ap (λ n. joined n (λ v. terms (field_in T) (part_value (field_in T) (math_in T) v (poly_of T.kind c.args.u.now)) (words_in T v))) end
    ∙ sym (straightened_by_weight (field_in T) c.requires.table.presentation (math_in T) c.requires.table.law (weighted T c.weight-most.ensures.shape)
    T.weight c.top_weight-top.result (poly_of T.kind c.args.u.now) c.top_weight-top.ensures.within c.top_weight-top.ensures.through
    (through_all T c.args.u.now c.requires.poly))
