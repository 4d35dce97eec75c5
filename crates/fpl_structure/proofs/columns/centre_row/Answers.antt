use Rattle.std.proofs.Common.{◌≡◌, ◌-◌, ◌∙◌, ap, length, arith}
use Rattle.plain_spans.specs.Plain.{numbers_to}
use Rattle.plain_structure.specs.Plain.{bracket_number}
use Rattle.fpl_structure.proofs.UnitRows.{column_is, numbers_next, long_next}
use Rattle.fpl_structure.proofs.columns.centre_row.Goals as goal

pub loop-i-preserved : goal.loop-i-preserved
loop-i-preserved g c = record {
  made = numbers_next g.F.Field.number c.loop-i.numbers.items c.push.new.self.items c.bracket_number.result
      (λ i. bracket_number c.args.table.now i (c.args.j - 1) (c.args.t - 1)) c.loop-i.i c.loop-i.invariant.made c.bracket_number.ensures.value
      c.in_ok-push.ensures.items;
  long = long_next c.loop-i.numbers.items c.push.new.self.items c.bracket_number.result c.loop-i.i c.loop-i.invariant.long c.in_ok-push.ensures.items;
}

pub returns-clause-row : goal.returns-clause-row
returns-clause-row g c =
    let T = c.args.table.now in
    column_is T (c.args.j - 1) (c.args.t - 1) c.from_vec.result c.basis_len-n.ensures.shape (omega (arith, c.requires.number.0, c.requires.number.1))
    (c.from_vec.ensures ∙ c.loop-i.invariant.made
    ∙ ap (λ m. numbers_to m (λ i. bracket_number T i (c.args.j - 1) (c.args.t - 1)))
    (let v = c.basis_len-n.ensures.value in let e : c.loop-i.i ≡ length T.basis = omega arith in e))
