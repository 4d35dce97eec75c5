use Rattle.std.proofs.Common.{arith, ◌∙◌, ◌≡◌, true, Ok}
use Rattle.std.proofs.lemmas.Grind.{common_steps}
use Rattle.fpl_numbers.specs.Numbers.{is_nought}
use Rattle.fpl_scalar.specs.Vectors.{fused}
use Rattle.fpl_scalar.proofs.Noughts.{nothing_added}
use Rattle.fpl_scalar.proofs.AtPlaces.{element_at, elements_set, axpy_pass, stands_pass, axpy_step, axpy_mul, axpy_add, stands_step, stands_mul, stands_add, stops, left_standing}
use Rattle.fpl_scalar.proofs.field.Field.axpy.Goals as goal

pub mul-requires-clause-right : goal.mul-requires-clause-right
mul-requires-clause-right g c = element_at (g.Self.Field.kind_of c.args.self.now) _ _ _ _ c.requires.other c.loop-i-test.true c.index-other-i.is

pub add-requires-clause-left : goal.add-requires-clause-left
add-requires-clause-left g c = element_at (g.Self.Field.kind_of c.args.self.now) _ _ _ _ c.loop-i.invariant.elements (omega arith) c.index-row-i.is

pub returns-in-Err-clause-value : goal.returns-in-Err-clause-value
returns-in-Err-clause-value g c = stops _ _ _ _ c.loop-i.invariant.left
    (axpy_mul (g.Self.Field.kind_of c.args.self.now) g.Self.Field.number c.loop-i.row c.args.other.now
    (g.Self.Field.number c.args.c) c.loop-i.i c.index-row-i.result c.index-other-i.result
    (omega arith) c.loop-i.invariant.same c.index-row-i.is c.index-other-i.is c.in-Err.u c.in-Err.ensures.value)

pub returns-in-Err-clause-row : goal.returns-in-Err-clause-row
returns-in-Err-clause-row g c = left_standing g.Self.Field.number c.loop-i.row c.loop-i.i _ _ c.loop-i.invariant.stands
    (stands_mul (g.Self.Field.kind_of c.args.self.now) g.Self.Field.number c.loop-i.row c.args.other.now
    (g.Self.Field.number c.args.c) c.loop-i.i c.index-row-i.result c.index-other-i.result
    (omega arith) c.loop-i.invariant.same c.index-row-i.is c.index-other-i.is c.in-Err.u c.in-Err.ensures.value)

pub returns-in-Err-add-clause-value : goal.returns-in-Err-add-clause-value
returns-in-Err-add-clause-value g c = stops _ _ _ _ c.loop-i.invariant.left
    (axpy_add (g.Self.Field.kind_of c.args.self.now) g.Self.Field.number c.loop-i.row c.args.other.now
    (g.Self.Field.number c.args.c) c.loop-i.i c.index-row-i.result c.index-other-i.result
    (omega arith) c.loop-i.invariant.same c.index-row-i.is c.index-other-i.is (g.Self.Field.number c.in-Ok.m) c.in-Err-add.u c.in-Ok.ensures.value
    c.in-Err-add.ensures.value)

pub returns-in-Err-add-clause-row : goal.returns-in-Err-add-clause-row
returns-in-Err-add-clause-row g c = left_standing g.Self.Field.number c.loop-i.row c.loop-i.i _ _ c.loop-i.invariant.stands
    (stands_add (g.Self.Field.kind_of c.args.self.now) g.Self.Field.number c.loop-i.row c.args.other.now
    (g.Self.Field.number c.args.c) c.loop-i.i c.index-row-i.result c.index-other-i.result
    (omega arith) c.loop-i.invariant.same c.index-row-i.is c.index-other-i.is (g.Self.Field.number c.in-Ok.m) c.in-Err-add.u c.in-Ok.ensures.value
    c.in-Err-add.ensures.value)

pub loop-i-preserved : goal.loop-i-preserved
loop-i-preserved g c = record {
  same = grind (arith, common_steps);
  elements = elements_set (g.Self.Field.kind_of c.args.self.now) g.Self.Field.number c.loop-i.row c.loop-i.i c.in-Ok-add.v c.loop-i.invariant.elements
      c.in-Ok-add.ensures.element;
  left = c.loop-i.invariant.left ∙ axpy_step (g.Self.Field.kind_of c.args.self.now) g.Self.Field.number c.loop-i.row c.args.other.now
      (g.Self.Field.number c.args.c) c.loop-i.i c.index-row-i.result c.index-other-i.result
      (omega arith) c.loop-i.invariant.same c.index-row-i.is c.index-other-i.is c.in-Ok-add.v
      (g.Self.Field.number c.in-Ok.m) c.in-Ok.ensures.value c.in-Ok-add.ensures.value;
  stands = c.loop-i.invariant.stands ∙ stands_step (g.Self.Field.kind_of c.args.self.now) g.Self.Field.number c.loop-i.row c.args.other.now
      (g.Self.Field.number c.args.c) c.loop-i.i c.index-row-i.result c.index-other-i.result
      (omega arith) c.loop-i.invariant.same c.index-row-i.is c.index-other-i.is c.in-Ok-add.v
      (g.Self.Field.number c.in-Ok.m) c.in-Ok.ensures.value c.in-Ok-add.ensures.value;
}

pub loop-i-preserved-then-is_zero : goal.loop-i-preserved-then-is_zero
loop-i-preserved-then-is_zero g c =
    let z : is_nought (g.Self.Field.number c.index-other-i.result) ≡ true = grind (arith, c.is_zero.ensures, c.if-is_zero.true) in
    let nothing : fused (g.Self.Field.kind_of c.args.self.now) (g.Self.Field.number c.index-row-i.result) (g.Self.Field.number c.args.c)
    (g.Self.Field.number c.index-other-i.result) ≡ Ok (g.Self.Field.number c.index-row-i.result) =
    nothing_added (g.Self.Field.kind_of c.args.self.now) _ _ _ (element_at (g.Self.Field.kind_of c.args.self.now) _ _ _ _ c.loop-i.invariant.elements
    (omega arith) c.index-row-i.is) c.requires.factor
    (element_at (g.Self.Field.kind_of c.args.self.now) _ _ _ _ c.requires.other c.loop-i-test.true c.index-other-i.is) z in
    record {
      same = c.loop-i.invariant.same;
      elements = c.loop-i.invariant.elements;
      left = c.loop-i.invariant.left ∙ axpy_pass (g.Self.Field.kind_of c.args.self.now) g.Self.Field.number c.loop-i.row c.args.other.now
          (g.Self.Field.number c.args.c) c.loop-i.i c.index-row-i.result c.index-other-i.result
          (omega arith) c.loop-i.invariant.same c.index-row-i.is c.index-other-i.is nothing;
      stands = c.loop-i.invariant.stands ∙ stands_pass (g.Self.Field.kind_of c.args.self.now) g.Self.Field.number c.loop-i.row c.args.other.now
          (g.Self.Field.number c.args.c) c.loop-i.i c.index-row-i.result c.index-other-i.result
          (omega arith) c.loop-i.invariant.same c.index-row-i.is c.index-other-i.is nothing;
    }
