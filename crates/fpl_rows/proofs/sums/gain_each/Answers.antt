use Rattle.std.proofs.Common.{arith, ◌∙◌, sym, ap, subst, map, suc, add-one}
use Rattle.std.proofs.Math.ListN.{set}
use Rattle.std.proofs.lemmas.Grind.{common_steps}
use Rattle.std.proofs.lemmas.List.{length-map}
use Rattle.fpl_numbers.specs.Numbers.{residue}
use Rattle.fpl_scalar.specs.Vectors.{axpy_of}
use Rattle.fpl_scalar.proofs.AtPlaces.{element_at}
use Rattle.fpl_scalar.proofs.Noughts.{nought_is}
use Rattle.fpl_rows.specs.Working.{IsWorking}
use Rattle.fpl_rows.proofs.AtPositions.{number_at}
use Rattle.fpl_rows.proofs.Gains.{fused_step, fused_stops, hidden, length-hidden, hidden_set, hidden_same, hidden_low, none_left, working_set}
use Rattle.fpl_rows.proofs.sums.gain_each.Goals as goal

pub fuse-requires-clause-room : goal.fuse-requires-clause-room
fuse-requires-clause-room g c =
    let w = c.loop-k.invariant.same in
    let m = c.requires.at_most in
    ap (g.F.Field.has_room c.args.field.now) c.index-sums-k.is ∙ c.loop-k.invariant.working.room c.loop-k.k c.index-sums-k.result
    (omega (arith, w, m, c.loop-k-test.true))

pub fuse-requires-clause-sum : goal.fuse-requires-clause-sum
fuse-requires-clause-sum g c =
    let w = c.loop-k.invariant.same in
    let m = c.requires.at_most in
    element_at (g.F.Field.kind_of c.args.field.now) (g.F.Field.summed c.args.field.now) c.loop-k.sums _ c.index-sums-k.result
    c.loop-k.invariant.working.elements (omega (arith, w, m, c.loop-k-test.true)) c.index-sums-k.is

pub returns-in-Err-clause-value : goal.returns-in-Err-clause-value
returns-in-Err-clause-value g c =
    let ys = map g.F.Field.number c.args.other.now in
    let wide = length-map c.args.other.now g.F.Field.number in
    let l = c.loop-k-test.true in
    let w = c.loop-k.invariant.same in
    let m = c.requires.at_most in
    let long = length-hidden (suc c.loop-k.k) ys in
    sym (c.loop-k.invariant.left
    ∙ ap (axpy_of (g.F.Field.kind_of c.args.field.now) (map (g.F.Field.summed c.args.field.now) c.loop-k.sums) (g.F.Field.number c.args.c))
    (hidden_set c.loop-k.k ys (omega (arith, wide, l)) ∙ ap (set (hidden (suc c.loop-k.k) ys) c.loop-k.k)
    (number_at g.F.Field.number c.args.other.now c.loop-k.k c.index-other-k-in-loop-k.result (residue 0) l c.index-other-k-in-loop-k.is))
    ∙ fused_stops (g.F.Field.summed c.args.field.now) (g.F.Field.kind_of c.args.field.now) c.loop-k.sums _
    (g.F.Field.number c.args.c) c.loop-k.k c.index-sums-k.result (g.F.Field.number c.index-other-k-in-loop-k.result)
    (omega (arith, long, wide, l)) (omega (arith, long, wide, w, m)) c.index-sums-k.is (λ s b. hidden_low (suc c.loop-k.k) ys s (omega (arith, b)))
    c.requires.factor c.in-Err.u c.loop-k.invariant.working.elements (sym c.in-Err.ensures.value))

pub loop-k-preserved : goal.loop-k-preserved
loop-k-preserved g c =
    let ys = map g.F.Field.number c.args.other.now in
    let wide = length-map c.args.other.now g.F.Field.number in
    let l = c.loop-k-test.true in
    let w = c.loop-k.invariant.same in
    let m = c.requires.at_most in
    let long = length-hidden (suc c.loop-k.k) ys in
    record {
      same = grind (arith, common_steps);
      working = subst (λ m. IsWorking (g.F.Field.kind_of c.args.field.now) (g.F.Field.has_room c.args.field.now) (g.F.Field.summed c.args.field.now) m
          (set c.loop-k.sums c.loop-k.k c.in-Ok.sum)) (sym c.mark.ensures)
          (working_set (g.F.Field.kind_of c.args.field.now) (g.F.Field.has_room c.args.field.now)
          (g.F.Field.summed c.args.field.now) c.loop-k.marks c.loop-k.sums c.loop-k.k c.in-Ok.sum
          (omega (arith, l, w, m)) c.in-Ok.ensures.room c.in-Ok.ensures.element c.loop-k.invariant.working);
      left = c.loop-k.invariant.left
          ∙ ap (axpy_of (g.F.Field.kind_of c.args.field.now) (map (g.F.Field.summed c.args.field.now) c.loop-k.sums) (g.F.Field.number c.args.c))
          (hidden_set c.loop-k.k ys (omega (arith, wide, l)) ∙ ap (set (hidden (suc c.loop-k.k) ys) c.loop-k.k)
          (number_at g.F.Field.number c.args.other.now c.loop-k.k c.index-other-k-in-loop-k.result (residue 0) l c.index-other-k-in-loop-k.is))
          ∙ fused_step (g.F.Field.summed c.args.field.now) (g.F.Field.kind_of c.args.field.now) c.loop-k.sums _
          (g.F.Field.number c.args.c) c.loop-k.k c.index-sums-k.result (g.F.Field.number c.index-other-k-in-loop-k.result)
          (omega (arith, long, wide, l)) (omega (arith, long, wide, w, m)) c.index-sums-k.is
          (λ s b. hidden_low (suc c.loop-k.k) ys s (omega (arith, b))) c.requires.factor c.in-Ok.sum c.in-Ok.ensures.value c.in-Ok.ensures.element
          ∙ ap (λ i. axpy_of (g.F.Field.kind_of c.args.field.now) (map (g.F.Field.summed c.args.field.now) (set c.loop-k.sums c.loop-k.k c.in-Ok.sum))
          (g.F.Field.number c.args.c) (hidden i ys)) (sym (add-one c.loop-k.k));
    }

pub loop-k-preserved-then-is_zero : goal.loop-k-preserved-then-is_zero
loop-k-preserved-then-is_zero g c =
    let ys = map g.F.Field.number c.args.other.now in
    let l = c.loop-k-test.true in
    record {
      same = c.loop-k.invariant.same;
      working = c.loop-k.invariant.working;
      left = c.loop-k.invariant.left
          ∙ ap (axpy_of (g.F.Field.kind_of c.args.field.now) (map (g.F.Field.summed c.args.field.now) c.loop-k.sums) (g.F.Field.number c.args.c))
          (hidden_same c.loop-k.k ys (number_at g.F.Field.number c.args.other.now c.loop-k.k c.index-other-k.result (residue 0) l c.index-other-k.is
          ∙ nought_is (g.F.Field.kind_of c.args.field.now) (g.F.Field.number c.index-other-k.result)
          (element_at (g.F.Field.kind_of c.args.field.now) g.F.Field.number c.args.other.now c.loop-k.k c.index-other-k.result c.requires.other l
          c.index-other-k.is) (sym c.if-is_zero.ensures)))
          ∙ ap (λ i. axpy_of (g.F.Field.kind_of c.args.field.now) (map (g.F.Field.summed c.args.field.now) c.loop-k.sums) (g.F.Field.number c.args.c)
          (hidden i ys)) (sym (add-one c.loop-k.k));
    }

pub returns-clause-value : goal.returns-clause-value
returns-clause-value g c =
    let wide = length-map c.args.other.now g.F.Field.number in
    none_left (g.F.Field.kind_of c.args.field.now) _ (g.F.Field.number c.args.c) c.loop-k.k (map g.F.Field.number c.args.other.now)
    (omega (arith, wide, c.loop-k-test.false)) c.loop-k.invariant.working.elements c.requires.factor ∙ sym c.loop-k.invariant.left

pub fuse-requires-clause-other : goal.fuse-requires-clause-other
fuse-requires-clause-other g c = element_at (g.F.Field.kind_of c.args.field.now) g.F.Field.number c.args.other.now c.loop-k.k
    c.index-other-k-in-loop-k.result c.requires.other c.loop-k-test.true c.index-other-k-in-loop-k.is
