use Rattle.std.proofs.Common.{sym, ap, ◌∙◌}
use Rattle.fpl_numbers.specs.declared.number.Op.TheVariants.{Add}
use Rattle.fpl_numbers.specs.Numbers.{operate}
use Rattle.fpl_envelope.proofs.Residues.{half_at}
use Rattle.fpl_envelope.proofs.acting.half.Goals as goal

pub returns-clause-value : goal.returns-clause-value
returns-clause-value g c =
    half_at (g.F.Field.kind_of c.args.field.now) c.requires.accepted (g.F.Field.number c.one.result) (g.F.Field.number c.in-Ok.two)
    (g.F.Field.number c.inverse.result) c.one.ensures.element c.one.ensures.value
    (ap (λ x. operate (g.F.Field.kind_of c.args.field.now) Add (g.F.Field.number c.one.result) x) (c.one.ensures.value ∙ sym c.one-2.ensures.value)
    ∙ sym c.in-Ok.ensures.value)
    c.inverse.ensures.value
