use Rattle.std.proofs.Common.{arith, ◌∙◌, sym, ◌≡◌, false, true}
use Rattle.fpl_numbers.specs.Numbers.{is_nought}
use Rattle.fpl_scalar.proofs.AtPlaces.{first_here, first_later}
use Rattle.fpl_scalar.proofs.field.Field.first.Goals as goal

pub returns-then-not-is_zero : goal.returns-then-not-is_zero
returns-then-not-is_zero g c =
    let z : is_nought (g.Self.Field.number c.index-row-i.result) ≡ false = grind (arith, c.is_zero.ensures, c.if-not-is_zero.true) in
    sym (c.loop-i.invariant ∙ first_here g.Self.Field.number c.args.row.now c.loop-i.i c.index-row-i.result (omega arith) c.index-row-i.is z)

pub loop-i-preserved : goal.loop-i-preserved
loop-i-preserved g c =
    let z : is_nought (g.Self.Field.number c.index-row-i.result) ≡ true = grind (arith, c.is_zero.ensures, c.if-not-is_zero.false) in
    c.loop-i.invariant ∙ first_later g.Self.Field.number c.args.row.now c.loop-i.i c.index-row-i.result (omega arith) c.index-row-i.is z
