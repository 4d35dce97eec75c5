use Rattle.std.proofs.Common.{◌≡◌, ◌∙◌, ◌+◌, ◌-◌, ap, sym, length, arith, map, subst}
use Rattle.fpl_scalar.specs.Vectors.{AreElements, axpy_of}
use Rattle.fpl_rows.specs.Packing.{IsPacking, spread}
use Rattle.fpl_rows.proofs.Gains.{axpy_wider, packing_wider}
use Rattle.fpl_rows.proofs.Packings.{packed_elements, packing_map}
use Rattle.fpl_rows.proofs.Spreads.{length-spread}
use Rattle.fpl_rows.proofs.packed.Packed.gain_to.Goals as goal

pub gain_at-requires-clause-packing : goal.gain_at-requires-clause-packing
gain_at-requires-clause-packing g c =
    let e : length c.args.self.now ≡ c.self.inside.size = ap length (sym c.self.view_is) ∙ length-spread c.self.inside.size c.self.inside.places.items
    (map g.F.Field.number c.self.inside.numbers.items) in
    let m = c.requires.at_most in
    subst (λ ps. IsPacking (length c.args.sums.now) ps (length c.deref-2.result.now)) (sym c.deref.ensures.value)
    (subst (λ ys. IsPacking (length c.args.sums.now) c.self.inside.places.items (length ys)) (sym c.deref-2.ensures.value)
    (packing_wider c.self.inside.size (length c.args.sums.now) c.self.inside.places.items (length c.self.inside.numbers.items)
    (omega (arith, e, m)) c.self.invariant.packing))

pub gain_at-requires-clause-other : goal.gain_at-requires-clause-other
gain_at-requires-clause-other g c =
    subst (λ ys. AreElements (g.F.Field.kind_of c.args.field.now) (map g.F.Field.number ys)) (sym c.deref-2.ensures.value)
    (packed_elements (g.F.Field.kind_of c.args.field.now) c.self.inside.size c.self.inside.places.items (map g.F.Field.number c.self.inside.numbers.items)
    (packing_map g.F.Field.number c.self.inside.size c.self.inside.places.items c.self.inside.numbers.items c.self.invariant.packing)
    (subst (AreElements (g.F.Field.kind_of c.args.field.now)) (sym c.self.view_is) c.requires.other))

pub returns-clause-value : goal.returns-clause-value
returns-clause-value g c =
    let kind = g.F.Field.kind_of c.args.field.now in
    let row = map (g.F.Field.summed c.args.field.now) c.args.sums.now in
    let factor = g.F.Field.number c.args.c in
    let e : length c.args.self.now ≡ c.self.inside.size = ap length (sym c.self.view_is) ∙ length-spread c.self.inside.size c.self.inside.places.items
    (map g.F.Field.number c.self.inside.numbers.items) in
    let m = c.requires.at_most in
    let more : length c.args.sums.now ≡ c.self.inside.size + (length c.args.sums.now - c.self.inside.size) = omega (arith, e, m) in
    c.gain_at.ensures.value
    ∙ ap (λ ps. axpy_of kind row factor (spread (length c.args.sums.now) ps (map g.F.Field.number c.deref-2.result.now))) c.deref.ensures.value
    ∙ ap (λ ys. axpy_of kind row factor (spread (length c.args.sums.now) c.self.inside.places.items (map g.F.Field.number ys))) c.deref-2.ensures.value
    ∙ ap (λ n. axpy_of kind row factor (spread n c.self.inside.places.items (map g.F.Field.number c.self.inside.numbers.items))) more
    ∙ axpy_wider kind row factor c.self.inside.size (length c.args.sums.now - c.self.inside.size) c.self.inside.places.items
    (map g.F.Field.number c.self.inside.numbers.items) c.self.invariant.packing.within c.requires.working.elements c.requires.factor
    ∙ ap (axpy_of kind row factor) c.self.view_is
