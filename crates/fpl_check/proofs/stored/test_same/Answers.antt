use Rattle.std.proofs.Common.{◌∙◌, refl, sym, ap, ap₂, arith}
use Rattle.fpl_check.specs.ClosedRows.{stored_row, test_same}
use Rattle.fpl_check.proofs.Cells.{same_row}
use Rattle.fpl_check.proofs.RowLoops.{differ, found_same, found_other}
use Rattle.fpl_check.proofs.StoredRows.{rest_start}
use Rattle.fpl_check.proofs.SameRows.{turn_none, turn_past, turn_one, turn_end, turn_left, turn_right, turn_stop, turn_same, turn_over, turn_on, is_told, not_told}
use Rattle.fpl_check.proofs.stored.test_same.Goals as goal

pub symbols-init : goal.symbols-init
symbols-init g c = record { few = omega arith; within = omega arith; rest = rest_start c.args.n c.args.stored.now c.requires.formed; done = refl }

pub returns-in-None : goal.returns-in-None
returns-in-None g c =
    c.symbols.invariant.done
    ∙ turn_none (g.F.Field.kind_of c.args.field.now) (g.met.F.Field.is_field c.args.field.now) c.args.k c.args.n c.symbols.after c.symbols.i
    c.args.stored.now c.args.concluded.now c.requires.coefficients c.requires.concluded c.symbols.invariant.rest
    c.symbol_at-next.result c.next.result c.symbol_at-next.ensures c.next.ensures c.symbols.invariant.within c.in-None.ensures

pub at-right-requires : goal.at-right-requires
at-right-requires g c =
    let one = turn_one (g.F.Field.kind_of c.args.field.now) (g.met.F.Field.is_field c.args.field.now) c.args.k c.args.n c.symbols.after c.symbols.i
    c.args.stored.now c.args.concluded.now c.requires.coefficients c.requires.concluded c.symbols.invariant.rest
    c.symbol_at-next.result c.next.result c.symbol_at-next.ensures c.next.ensures c.in-Some.s c.in-Some.ensures in
    let end = turn_end (g.F.Field.kind_of c.args.field.now) (g.met.F.Field.is_field c.args.field.now) c.args.k c.args.n c.symbols.after c.symbols.i
    c.args.stored.now c.args.concluded.now c.requires.coefficients c.requires.concluded c.symbols.invariant.rest
    c.symbol_at-next.result c.next.result c.symbol_at-next.ensures c.next.ensures c.in-Some.s c.in-Some.ensures in
    let long = c.requires.concluded.length_is in
    (one, omega (arith, end, long))

pub same-requires-clause-left : goal.same-requires-clause-left
same-requires-clause-left g c = turn_left (g.F.Field.kind_of c.args.field.now) (g.met.F.Field.is_field c.args.field.now) c.args.k c.args.n
    c.symbols.after c.symbols.i c.args.stored.now c.args.concluded.now c.requires.coefficients c.requires.concluded c.symbols.invariant.rest
    c.symbol_at-next.result c.next.result c.symbol_at-next.ensures c.next.ensures c.in-Some.s c.in-Some.ensures
    (g.F.Field.number c.number_at-left.result) (g.F.Field.number c.at-right.result) c.number_at-left.ensures c.at-right.ensures

pub same-requires-clause-right : goal.same-requires-clause-right
same-requires-clause-right g c = turn_right (g.F.Field.kind_of c.args.field.now) (g.met.F.Field.is_field c.args.field.now) c.args.k c.args.n
    c.symbols.after c.symbols.i c.args.stored.now c.args.concluded.now c.requires.coefficients c.requires.concluded c.symbols.invariant.rest
    c.symbol_at-next.result c.next.result c.symbol_at-next.ensures c.next.ensures c.in-Some.s c.in-Some.ensures
    (g.F.Field.number c.number_at-left.result) (g.F.Field.number c.at-right.result) c.number_at-left.ensures c.at-right.ensures

pub returns-then-not-same : goal.returns-then-not-same
returns-then-not-same g c =
    c.symbols.invariant.done
    ∙ turn_stop (g.F.Field.kind_of c.args.field.now) (g.met.F.Field.is_field c.args.field.now) c.args.k c.args.n c.symbols.after c.symbols.i
    c.args.stored.now c.args.concluded.now c.requires.coefficients c.requires.concluded c.symbols.invariant.rest
    c.symbol_at-next.result c.next.result c.symbol_at-next.ensures c.next.ensures c.in-Some.s c.in-Some.ensures
    (g.F.Field.number c.number_at-left.result) (g.F.Field.number c.at-right.result) c.number_at-left.ensures c.at-right.ensures
    (found_other c.same.result (g.F.Field.number c.number_at-left.result) (g.F.Field.number c.at-right.result) c.same.ensures c.if-not-same.true)
    ∙ ap₂ (differ c.args.k c.in-Some.s) (sym c.num.ensures) (sym c.num-then-not-same.ensures)

pub num-requires : goal.num-requires
num-requires g c = turn_left (g.F.Field.kind_of c.args.field.now) (g.met.F.Field.is_field c.args.field.now) c.args.k c.args.n c.symbols.after
    c.symbols.i c.args.stored.now c.args.concluded.now c.requires.coefficients c.requires.concluded c.symbols.invariant.rest
    c.symbol_at-next.result c.next.result c.symbol_at-next.ensures c.next.ensures c.in-Some.s c.in-Some.ensures
    (g.F.Field.number c.number_at-left.result) (g.F.Field.number c.at-right.result) c.number_at-left.ensures c.at-right.ensures

pub num-requires-then-not-same : goal.num-requires-then-not-same
num-requires-then-not-same g c = turn_right (g.F.Field.kind_of c.args.field.now) (g.met.F.Field.is_field c.args.field.now) c.args.k c.args.n
    c.symbols.after c.symbols.i c.args.stored.now c.args.concluded.now c.requires.coefficients c.requires.concluded c.symbols.invariant.rest
    c.symbol_at-next.result c.next.result c.symbol_at-next.ensures c.next.ensures c.in-Some.s c.in-Some.ensures
    (g.F.Field.number c.number_at-left.result) (g.F.Field.number c.at-right.result) c.number_at-left.ensures c.at-right.ensures

pub overflow_add-i : goal.overflow_add-i
overflow_add-i g c =
    let few = c.symbols.invariant.few in
    let past = turn_past (g.F.Field.kind_of c.args.field.now) (g.met.F.Field.is_field c.args.field.now) c.args.k c.args.n c.symbols.after c.symbols.i
    c.args.stored.now c.args.concluded.now c.requires.coefficients c.requires.concluded c.symbols.invariant.rest
    c.symbol_at-next.result c.next.result c.symbol_at-next.ensures c.next.ensures c.in-Some.s c.in-Some.ensures in
    let end = turn_end (g.F.Field.kind_of c.args.field.now) (g.met.F.Field.is_field c.args.field.now) c.args.k c.args.n c.symbols.after c.symbols.i
    c.args.stored.now c.args.concluded.now c.requires.coefficients c.requires.concluded c.symbols.invariant.rest
    c.symbol_at-next.result c.next.result c.symbol_at-next.ensures c.next.ensures c.in-Some.s c.in-Some.ensures in
    omega arith

pub symbols-preserved-then-eq : goal.symbols-preserved-then-eq
symbols-preserved-then-eq g c =
    let few = c.symbols.invariant.few in
    let past = turn_past (g.F.Field.kind_of c.args.field.now) (g.met.F.Field.is_field c.args.field.now) c.args.k c.args.n c.symbols.after c.symbols.i
    c.args.stored.now c.args.concluded.now c.requires.coefficients c.requires.concluded c.symbols.invariant.rest
    c.symbol_at-next.result c.next.result c.symbol_at-next.ensures c.next.ensures c.in-Some.s c.in-Some.ensures in
    record {
      few = omega arith;
      within = turn_end (g.F.Field.kind_of c.args.field.now) (g.met.F.Field.is_field c.args.field.now) c.args.k c.args.n c.symbols.after c.symbols.i
          c.args.stored.now c.args.concluded.now c.requires.coefficients c.requires.concluded c.symbols.invariant.rest
          c.symbol_at-next.result c.next.result c.symbol_at-next.ensures c.next.ensures c.in-Some.s c.in-Some.ensures;
      rest = turn_on (g.F.Field.kind_of c.args.field.now) (g.met.F.Field.is_field c.args.field.now) c.args.k c.args.n c.symbols.after c.symbols.i
          c.args.stored.now c.args.concluded.now c.requires.coefficients c.requires.concluded c.symbols.invariant.rest
          c.symbol_at-next.result c.next.result c.symbol_at-next.ensures c.next.ensures c.in-Some.s c.in-Some.ensures
          (is_told c.symbol_at-next.result c.in-Some.s (sym c.eq.ensures ∙ c.if-eq.true));
      done = c.symbols.invariant.done ∙ turn_same (g.F.Field.kind_of c.args.field.now) (g.met.F.Field.is_field c.args.field.now) c.args.k c.args.n
          c.symbols.after c.symbols.i c.args.stored.now c.args.concluded.now c.requires.coefficients c.requires.concluded c.symbols.invariant.rest
          c.symbol_at-next.result c.next.result c.symbol_at-next.ensures c.next.ensures c.in-Some.s c.in-Some.ensures
          (g.F.Field.number c.number_at-left.result) (g.F.Field.number c.at-right.result) c.number_at-left.ensures c.at-right.ensures
          (found_same c.same.result (g.F.Field.number c.number_at-left.result) (g.F.Field.number c.at-right.result) c.same.ensures c.if-not-same.false);
    }

pub symbols-preserved : goal.symbols-preserved
symbols-preserved g c =
    let few = c.symbols.invariant.few in
    let past = turn_past (g.F.Field.kind_of c.args.field.now) (g.met.F.Field.is_field c.args.field.now) c.args.k c.args.n c.symbols.after c.symbols.i
    c.args.stored.now c.args.concluded.now c.requires.coefficients c.requires.concluded c.symbols.invariant.rest
    c.symbol_at-next.result c.next.result c.symbol_at-next.ensures c.next.ensures c.in-Some.s c.in-Some.ensures in
    record {
      few = omega arith;
      within = turn_end (g.F.Field.kind_of c.args.field.now) (g.met.F.Field.is_field c.args.field.now) c.args.k c.args.n c.symbols.after c.symbols.i
          c.args.stored.now c.args.concluded.now c.requires.coefficients c.requires.concluded c.symbols.invariant.rest
          c.symbol_at-next.result c.next.result c.symbol_at-next.ensures c.next.ensures c.in-Some.s c.in-Some.ensures;
      rest = turn_over (g.F.Field.kind_of c.args.field.now) (g.met.F.Field.is_field c.args.field.now) c.args.k c.args.n c.symbols.after c.symbols.i
          c.args.stored.now c.args.concluded.now c.requires.coefficients c.requires.concluded c.symbols.invariant.rest
          c.symbol_at-next.result c.next.result c.symbol_at-next.ensures c.next.ensures c.in-Some.s c.in-Some.ensures
          (not_told c.symbol_at-next.result c.in-Some.s (sym c.eq.ensures ∙ c.if-eq.false));
      done = c.symbols.invariant.done ∙ turn_same (g.F.Field.kind_of c.args.field.now) (g.met.F.Field.is_field c.args.field.now) c.args.k c.args.n
          c.symbols.after c.symbols.i c.args.stored.now c.args.concluded.now c.requires.coefficients c.requires.concluded c.symbols.invariant.rest
          c.symbol_at-next.result c.next.result c.symbol_at-next.ensures c.next.ensures c.in-Some.s c.in-Some.ensures
          (g.F.Field.number c.number_at-left.result) (g.F.Field.number c.at-right.result) c.number_at-left.ensures c.at-right.ensures
          (found_same c.same.result (g.F.Field.number c.number_at-left.result) (g.F.Field.number c.at-right.result) c.same.ensures c.if-not-same.false);
    }

pub symbols-smaller-then-eq : goal.symbols-smaller-then-eq
symbols-smaller-then-eq g c =
    let past = turn_past (g.F.Field.kind_of c.args.field.now) (g.met.F.Field.is_field c.args.field.now) c.args.k c.args.n c.symbols.after c.symbols.i
    c.args.stored.now c.args.concluded.now c.requires.coefficients c.requires.concluded c.symbols.invariant.rest
    c.symbol_at-next.result c.next.result c.symbol_at-next.ensures c.next.ensures c.in-Some.s c.in-Some.ensures in
    let end = turn_end (g.F.Field.kind_of c.args.field.now) (g.met.F.Field.is_field c.args.field.now) c.args.k c.args.n c.symbols.after c.symbols.i
    c.args.stored.now c.args.concluded.now c.requires.coefficients c.requires.concluded c.symbols.invariant.rest
    c.symbol_at-next.result c.next.result c.symbol_at-next.ensures c.next.ensures c.in-Some.s c.in-Some.ensures in
    omega arith

pub symbols-smaller : goal.symbols-smaller
symbols-smaller g c =
    let past = turn_past (g.F.Field.kind_of c.args.field.now) (g.met.F.Field.is_field c.args.field.now) c.args.k c.args.n c.symbols.after c.symbols.i
    c.args.stored.now c.args.concluded.now c.requires.coefficients c.requires.concluded c.symbols.invariant.rest
    c.symbol_at-next.result c.next.result c.symbol_at-next.ensures c.next.ensures c.in-Some.s c.in-Some.ensures in
    let end = turn_end (g.F.Field.kind_of c.args.field.now) (g.met.F.Field.is_field c.args.field.now) c.args.k c.args.n c.symbols.after c.symbols.i
    c.args.stored.now c.args.concluded.now c.requires.coefficients c.requires.concluded c.symbols.invariant.rest
    c.symbol_at-next.result c.next.result c.symbol_at-next.ensures c.next.ensures c.in-Some.s c.in-Some.ensures in
    omega arith

pub returns-then-tells_same : goal.returns-then-tells_same
returns-then-tells_same g c =
    ap (λ r. test_same c.args.k 1 r c.args.concluded.now)
    (ap (λ n. stored_row n c.args.stored.now) (sym c.requires.concluded.length_is) ∙ c.tells_same.ensures c.if-tells_same.true)
    ∙ same_row c.args.k 1 c.args.concluded.now
