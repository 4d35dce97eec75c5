use Rattle.std.proofs.Common.{arith, ◌∙◌, sym, ap, get_or, subst, map, drop, length, suc, add-one}
use Rattle.std.proofs.Math.ListN.{set}
use Rattle.std.proofs.lemmas.Grind.{common_steps}
use Rattle.fpl_scalar.specs.Vectors.{axpy_of}
use Rattle.fpl_scalar.proofs.AtPlaces.{element_at}
use Rattle.fpl_rows.specs.Packing.{spread}
use Rattle.fpl_rows.specs.Working.{IsWorking}
use Rattle.fpl_rows.proofs.Spreads.{length-spread}
use Rattle.fpl_rows.proofs.Packings.{all_added}
use Rattle.fpl_rows.proofs.Gains.{fused_step, fused_stops, from_it, after_low, place_in, working_set}
use Rattle.fpl_rows.proofs.sums.gain_at.Goals as goal

pub fuse-requires-clause-room : goal.fuse-requires-clause-room
fuse-requires-clause-room g c =
    let p = c.requires.packing.within c.loop-k.k c.loop-k-test.true in
    let w = c.loop-k.invariant.same in
    ap (g.F.Field.has_room c.args.field.now) c.index-sums-place.is ∙ c.loop-k.invariant.working.room
    (get_or c.args.places.now c.loop-k.k 0) c.index-sums-place.result (omega (arith, p, w))

pub fuse-requires-clause-sum : goal.fuse-requires-clause-sum
fuse-requires-clause-sum g c =
    let p = c.requires.packing.within c.loop-k.k c.loop-k-test.true in
    let w = c.loop-k.invariant.same in
    element_at (g.F.Field.kind_of c.args.field.now) (g.F.Field.summed c.args.field.now) c.loop-k.sums _ c.index-sums-place.result
    c.loop-k.invariant.working.elements (omega (arith, p, w)) c.index-sums-place.is

pub fuse-requires-clause-other : goal.fuse-requires-clause-other
fuse-requires-clause-other g c = let s = c.requires.packing.same in element_at (g.F.Field.kind_of c.args.field.now) g.F.Field.number
    c.args.numbers.now c.loop-k.k c.index-numbers-k.result c.requires.other (omega arith) c.index-numbers-k.is

pub returns-in-Err-clause-value : goal.returns-in-Err-clause-value
returns-in-Err-clause-value g c =
    let n = length c.args.sums.now in
    let w = c.loop-k.invariant.same in
    let long = length-spread n (drop (suc c.loop-k.k) c.args.places.now) (drop (suc c.loop-k.k) (map g.F.Field.number c.args.numbers.now)) in
    sym (c.loop-k.invariant.left
    ∙ ap (axpy_of (g.F.Field.kind_of c.args.field.now) (map (g.F.Field.summed c.args.field.now) c.loop-k.sums) (g.F.Field.number c.args.c))
    (from_it g.F.Field.number n c.args.places.now c.args.numbers.now c.requires.packing c.loop-k.k c.index-numbers-k.result c.loop-k-test.true
    c.index-numbers-k.is)
    ∙ fused_stops (g.F.Field.summed c.args.field.now) (g.F.Field.kind_of c.args.field.now) c.loop-k.sums _ (g.F.Field.number c.args.c)
    (get_or c.args.places.now c.loop-k.k 0) c.index-sums-place.result (g.F.Field.number c.index-numbers-k.result)
    (place_in g.F.Field.number n c.args.places.now c.args.numbers.now c.requires.packing c.loop-k.k c.index-numbers-k.result c.loop-k-test.true
    c.index-numbers-k.is)
    (omega (arith, long, w)) c.index-sums-place.is
    (after_low g.F.Field.number n c.args.places.now c.args.numbers.now c.requires.packing c.loop-k.k c.index-numbers-k.result c.loop-k-test.true
    c.index-numbers-k.is)
    c.requires.factor c.in-Err.u c.loop-k.invariant.working.elements (sym c.in-Err.ensures.value))

pub loop-k-preserved : goal.loop-k-preserved
loop-k-preserved g c =
    let n = length c.args.sums.now in
    let w = c.loop-k.invariant.same in
    let p = c.requires.packing.within c.loop-k.k c.loop-k-test.true in
    let long = length-spread n (drop (suc c.loop-k.k) c.args.places.now) (drop (suc c.loop-k.k) (map g.F.Field.number c.args.numbers.now)) in
    record {
      same = grind (arith, common_steps);
      working = subst (λ m. IsWorking (g.F.Field.kind_of c.args.field.now) (g.F.Field.has_room c.args.field.now) (g.F.Field.summed c.args.field.now) m
          (set c.loop-k.sums (get_or c.args.places.now c.loop-k.k 0) c.in-Ok.sum)) (sym c.mark.ensures)
          (working_set (g.F.Field.kind_of c.args.field.now) (g.F.Field.has_room c.args.field.now)
          (g.F.Field.summed c.args.field.now) c.loop-k.marks c.loop-k.sums (get_or c.args.places.now c.loop-k.k 0) c.in-Ok.sum
          (omega (arith, p, w)) c.in-Ok.ensures.room c.in-Ok.ensures.element c.loop-k.invariant.working);
      left = c.loop-k.invariant.left
          ∙ ap (axpy_of (g.F.Field.kind_of c.args.field.now) (map (g.F.Field.summed c.args.field.now) c.loop-k.sums) (g.F.Field.number c.args.c))
          (from_it g.F.Field.number n c.args.places.now c.args.numbers.now c.requires.packing c.loop-k.k c.index-numbers-k.result
          c.loop-k-test.true c.index-numbers-k.is)
          ∙ fused_step (g.F.Field.summed c.args.field.now) (g.F.Field.kind_of c.args.field.now) c.loop-k.sums _ (g.F.Field.number c.args.c)
          (get_or c.args.places.now c.loop-k.k 0) c.index-sums-place.result (g.F.Field.number c.index-numbers-k.result)
          (place_in g.F.Field.number n c.args.places.now c.args.numbers.now c.requires.packing c.loop-k.k c.index-numbers-k.result c.loop-k-test.true
          c.index-numbers-k.is)
          (omega (arith, long, w)) c.index-sums-place.is
          (after_low g.F.Field.number n c.args.places.now c.args.numbers.now c.requires.packing c.loop-k.k c.index-numbers-k.result c.loop-k-test.true
          c.index-numbers-k.is)
          c.requires.factor c.in-Ok.sum c.in-Ok.ensures.value c.in-Ok.ensures.element
          ∙ ap (λ i. axpy_of (g.F.Field.kind_of c.args.field.now) (map (g.F.Field.summed c.args.field.now)
          (set c.loop-k.sums (get_or c.args.places.now c.loop-k.k 0) c.in-Ok.sum)) (g.F.Field.number c.args.c)
          (spread n (drop i c.args.places.now) (drop i (map g.F.Field.number c.args.numbers.now)))) (sym (add-one c.loop-k.k));
    }

pub returns-clause-value : goal.returns-clause-value
returns-clause-value g c =
    all_added (g.F.Field.kind_of c.args.field.now) _ (g.F.Field.number c.args.c) (length c.args.sums.now) c.args.places.now _ c.loop-k.k
    (omega arith) c.loop-k.invariant.working.elements c.requires.factor ∙ sym c.loop-k.invariant.left
