use Rattle.std.proofs.Common.{◌≡◌, ◌-◌, ◌∙◌, ap, refl, length, arith}
use Rattle.std.specs.Prelude.{nat_eq, if◌then◌else◌}
use Rattle.fpl_numbers.specs.Numbers.{residue}
use Rattle.plain_spans.specs.Plain.{numbers_to}
use Rattle.fpl_structure.proofs.UnitRows.{unit_is}
use Rattle.fpl_structure.proofs.acting.unit.Goals as goal

pub pack-requires : goal.pack-requires
pack-requires g c =
    let T = c.args.table.now in
    (unit_is T.kind (g.F.Field.kind_of c.field-3.result.now) (length T.basis)
    (c.args.i - 1) c.from_vec.result c.basis_len-n.ensures.shape.field c.field-3.ensures
    (c.from_vec.ensures ∙ c.loop-s.invariant.made
    ∙ ap (λ m. numbers_to m (λ s. if nat_eq (c.args.i - 1) s then residue 1 else residue 0))
    (let v = c.basis_len-n.ensures.value in let e : c.loop-s.s ≡ length T.basis = omega arith in e))).elements

pub returns-clause-row : goal.returns-clause-row
returns-clause-row g c =
    let T = c.args.table.now in
    unit_is T.kind T.kind (length T.basis) (c.args.i - 1) c.pack.result c.basis_len-n.ensures.shape.field refl
    (c.pack.ensures ∙ c.from_vec.ensures ∙ c.loop-s.invariant.made
    ∙ ap (λ m. numbers_to m (λ s. if nat_eq (c.args.i - 1) s then residue 1 else residue 0))
    (let v = c.basis_len-n.ensures.value in let e : c.loop-s.s ≡ length T.basis = omega arith in e))
