use Rattle.std.proofs.Common.{◌≡◌, ◌<◌, length, sym, ◌∙◌, subst, arith}
use Rattle.fpl_numbers.specs.Numbers.{IsElement, residue}
use Rattle.fpl_rows.specs.Meaning.{vector_in}
use Rattle.fpl_ranks.proofs.Flags.{starts_value, next_value, ends_solved}
use Rattle.fpl_ranks.proofs.leading.is_solved.Goals as goal

pub loop-s-init : goal.loop-s-init
loop-s-init c =
    let kind = c.args.table.now.kind in
    let is : IsElement kind (residue c.zero-sum.result) = subst (λ k. IsElement k (residue c.zero-sum.result)) c.field.ensures c.zero-sum.ensures.element in
    record {
      element = is;
      value = starts_value kind c.requires.field (vector_in kind c.args.row.now) (vector_in kind c.args.test.now) c.zero-sum.result is c.zero-sum.ensures.value;
    }

pub loop-s-preserved : goal.loop-s-preserved
loop-s-preserved c =
    let kind = c.args.table.now.kind in
    let test : c.loop-s.s < length c.args.test.now = (let l = c.loop-s-test.true in let e = c.len-s-end.ensures.value in omega arith) in
    let row : c.loop-s.s < length c.args.row.now = (let e = c.requires.row.length_is in omega (arith, test, e)) in
    record {
      element = c.in-Some.ensures.element;
      value = next_value kind c.requires.field c.args.row.now c.args.test.now c.loop-s.s c.loop-s.sum c.at.result c.at-in-loop-s.result c.in-Some.more row test
          c.at.ensures c.at-in-loop-s.ensures c.in-Some.ensures c.loop-s.invariant.value;
    }

pub returns : goal.returns
returns c = λ true.
    let e : c.loop-s.s ≡ length c.args.test.now = (let l = c.loop-s-test.false in let m = c.loop-s.auto.s-end in let n = c.len-s-end.ensures.value in
    omega arith) in
    ends_solved c.args.table.now.kind c.requires.field c.args.row.now c.args.test.now c.loop-s.s c.loop-s.sum e c.loop-s.invariant.element
    (sym c.is_zero.ensures ∙ true) c.loop-s.invariant.value
