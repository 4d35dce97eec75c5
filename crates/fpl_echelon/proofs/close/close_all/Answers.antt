use Rattle.std.proofs.Common.{arith, add-one, refl, [], ◌∙◌, ap, sym, subst}
use Rattle.std.specs.Prelude.{All}
use Rattle.fpl_numbers.specs.Results.{and_then}
use Rattle.plain_elimination.specs.Plain.{IsPivotRow, close_at, close_to}
use Rattle.plain_elimination.proofs.Found.{close_fault, close_pivots}
use Rattle.fpl_echelon.proofs.Contracts.{long_of, zeros_of}
use Rattle.fpl_echelon.proofs.close.close_all.Goals as goal

pub close_place-requires-clause-zeros : goal.close_place-requires-clause-zeros
close_place-requires-clause-zeros g c = zeros_of c.loop-s.work (g.F.Field.kind_of c.args.field.now) c.args.size c.loop-s.invariant.empty

pub close_place-requires-clause-place : goal.close_place-requires-clause-place
close_place-requires-clause-place g c = (let e = long_of c.loop-s.work (g.F.Field.kind_of c.args.field.now) c.args.size c.loop-s.invariant.empty in
    omega (arith, e, c.loop-s-test.true))

pub close_place-requires-clause-pivots : goal.close_place-requires-clause-pivots
close_place-requires-clause-pivots g c = subst (λ n. All (IsPivotRow (g.F.Field.kind_of c.args.field.now) n) c.args.pivots.now)
    (sym (long_of c.loop-s.work (g.F.Field.kind_of c.args.field.now) c.args.size c.loop-s.invariant.empty)) c.requires.pivots

pub close_place-requires-clause-closed : goal.close_place-requires-clause-closed
close_place-requires-clause-closed g c =
    subst (λ n. All (IsPivotRow (g.F.Field.kind_of c.args.field.now) n) c.loop-s.closed) (sym
    (long_of c.loop-s.work (g.F.Field.kind_of c.args.field.now) c.args.size c.loop-s.invariant.empty))
    (close_pivots (g.F.Field.kind_of c.args.field.now) c.args.size c.loop-s.s c.args.pivots.now (record { pivots = []; steps = c.args.steps.now })
    (record { pivots = c.loop-s.closed; steps = c.loop-s.steps }) (g.met.F.Field.is_field c.args.field.now) c.requires.pivots (omega arith) refl
    c.loop-s.invariant.closed)

pub returns-in-Err : goal.returns-in-Err
returns-in-Err g c =
    record {
      value = close_fault (Unit {0}) (g.F.Field.kind_of c.args.field.now) c.args.pivots.now c.args.size c.loop-s.s
          (record { pivots = []; steps = c.args.steps.now }) (record { pivots = c.loop-s.closed; steps = c.loop-s.steps })
          (record { pivots = c.close_place.new.closed; steps = c.close_place.new.steps }) _ c.loop-s-test.true c.loop-s.invariant.closed c.in-Err.ensures.value;
    }

pub loop-s-preserved : goal.loop-s-preserved
loop-s-preserved g c =
    let kind = g.F.Field.kind_of c.args.field.now in
    record {
      closed = ap (λ n. close_to kind c.args.pivots.now n (record { pivots = []; steps = c.args.steps.now })) (add-one c.loop-s.s) ∙
          ap (and_then (λ h. close_at kind c.args.pivots.now c.loop-s.s h)) c.loop-s.invariant.closed ∙ c.in-Ok.ensures.value;
      empty = c.in-Ok.ensures.emptied ∙ c.loop-s.invariant.empty;
    }
