use Rattle.std.proofs.Common.{arith, ◌∙◌, ◌≡◌, true, Ok}
use Rattle.fpl_numbers.specs.declared.number.Op.TheVariants.{Mul}
use Rattle.fpl_numbers.specs.Numbers.{is_nought, operate}
use Rattle.fpl_scalar.proofs.Noughts.{nothing_multiplied}
use Rattle.fpl_scalar.proofs.AtPlaces.{element_at, elements_set, scale_pass, scale_step, scale_mul, scaled_pass, scaled_step, scaled_mul, stops, left_standing}
use Rattle.fpl_scalar.proofs.field.Field.scale.Goals as goal

pub mul-requires-clause-right : goal.mul-requires-clause-right
mul-requires-clause-right g c = element_at (g.Self.Field.kind_of c.args.self.now) _ _ _ _ c.loop-i.invariant.elements (omega arith) c.index-row-i.is

pub returns-in-Err-clause-value : goal.returns-in-Err-clause-value
returns-in-Err-clause-value g c = stops _ _ _ _ c.loop-i.invariant.left
    (scale_mul (g.Self.Field.kind_of c.args.self.now) g.Self.Field.number c.loop-i.row (g.Self.Field.number c.args.c) c.loop-i.i c.index-row-i.result
    (omega arith) c.index-row-i.is c.in-Err.u c.in-Err.ensures.value)

pub returns-in-Err-clause-row : goal.returns-in-Err-clause-row
returns-in-Err-clause-row g c = left_standing g.Self.Field.number c.loop-i.row c.loop-i.i _ _ c.loop-i.invariant.stands
    (scaled_mul (g.Self.Field.kind_of c.args.self.now) g.Self.Field.number c.loop-i.row (g.Self.Field.number c.args.c) c.loop-i.i c.index-row-i.result
    (omega arith) c.index-row-i.is c.in-Err.u c.in-Err.ensures.value)

pub loop-i-preserved : goal.loop-i-preserved
loop-i-preserved g c = record {
  elements = elements_set (g.Self.Field.kind_of c.args.self.now) g.Self.Field.number c.loop-i.row c.loop-i.i c.in-Ok.v c.loop-i.invariant.elements
      c.in-Ok.ensures.element;
  left = c.loop-i.invariant.left ∙ scale_step (g.Self.Field.kind_of c.args.self.now) g.Self.Field.number c.loop-i.row
      (g.Self.Field.number c.args.c) c.loop-i.i c.index-row-i.result (omega arith) c.index-row-i.is c.in-Ok.v c.in-Ok.ensures.value;
  stands = c.loop-i.invariant.stands ∙ scaled_step (g.Self.Field.kind_of c.args.self.now) g.Self.Field.number c.loop-i.row
      (g.Self.Field.number c.args.c) c.loop-i.i c.index-row-i.result (omega arith) c.index-row-i.is c.in-Ok.v c.in-Ok.ensures.value;
}

pub loop-i-preserved-then-is_zero : goal.loop-i-preserved-then-is_zero
loop-i-preserved-then-is_zero g c =
    let z : is_nought (g.Self.Field.number c.index-row-i.result) ≡ true = grind (arith, c.is_zero.ensures, c.if-is_zero.true) in
    let same : operate (g.Self.Field.kind_of c.args.self.now) Mul (g.Self.Field.number c.args.c) (g.Self.Field.number c.index-row-i.result) ≡
    Ok (g.Self.Field.number c.index-row-i.result) =
    nothing_multiplied (g.Self.Field.kind_of c.args.self.now) _ _ c.requires.factor (element_at
    (g.Self.Field.kind_of c.args.self.now) _ _ _ _ c.loop-i.invariant.elements (omega arith) c.index-row-i.is) z in
    record {
      elements = c.loop-i.invariant.elements;
      left = c.loop-i.invariant.left ∙ scale_pass (g.Self.Field.kind_of c.args.self.now) g.Self.Field.number c.loop-i.row
          (g.Self.Field.number c.args.c) c.loop-i.i c.index-row-i.result (omega arith) c.index-row-i.is same;
      stands = c.loop-i.invariant.stands ∙ scaled_pass (g.Self.Field.kind_of c.args.self.now) g.Self.Field.number c.loop-i.row
          (g.Self.Field.number c.args.c) c.loop-i.i c.index-row-i.result (omega arith) c.index-row-i.is same;
    }
