use Rattle.std.proofs.Common.{◌-◌, sym, ap, ap₂, ◌∙◌, subst}
use Rattle.math_algebra.specs.Derives.{sign}
use Rattle.fpl_numbers.specs.declared.number.Kind.{Kind}
use Rattle.fpl_numbers.specs.Numbers.{IsElement, negative_of}
use Rattle.fpl_model.specs.Meaning.{parity_in}
use Rattle.fpl_table.specs.Plain.{plain_basis}
use Rattle.fpl_envelope.specs.Action.{field_in}
use Rattle.fpl_envelope.proofs.Residues.{unit_at, minus_at}
use Rattle.fpl_envelope.proofs.acting.exchange_sign.Goals as goal

pub returns-in-Odd-Odd-clause-value : goal.returns-in-Odd-Odd-clause-value
returns-in-Odd-Odd-clause-value g c =
    let T = c.args.table.now in
    minus_at T.kind c.requires.residues.accepted (g.F.Field.number c.one-one.result) (g.F.Field.number c.neg.result)
    (subst (λ (k : Kind). IsElement k (g.F.Field.number c.one-one.result)) c.field.ensures c.one-one.ensures.element) c.one-one.ensures.value
    (c.neg.ensures.value ∙ ap (λ (k : Kind). negative_of k (g.F.Field.number c.one-one.result)) c.field-in-Odd-Odd.ensures)
    ∙ ap₂ (sign (field_in T)) (sym (ap parity_in c.in-Odd-Odd.is-0) ∙ ap (λ b. b.parity) c.basis.ensures.value)
    (sym (ap parity_in c.in-Odd-Odd.is-1) ∙ ap (λ b. b.parity) c.basis-2.ensures.value)

pub returns-in-Odd-Even-clause-value : goal.returns-in-Odd-Even-clause-value
returns-in-Odd-Even-clause-value g c =
    let T = c.args.table.now in
    unit_at T.kind c.requires.residues.accepted (g.F.Field.number c.one-one.result) c.one-one.ensures.value
    ∙ ap₂ (sign (field_in T)) (sym (ap parity_in c.in-Odd-Even.is-0) ∙ ap (λ b. b.parity) c.basis.ensures.value)
    (sym (ap parity_in c.in-Odd-Even.is-1) ∙ ap (λ b. b.parity) c.basis-2.ensures.value)

pub returns-in-Odd-Even-2-clause-value : goal.returns-in-Odd-Even-2-clause-value
returns-in-Odd-Even-2-clause-value g c =
    let T = c.args.table.now in
    unit_at T.kind c.requires.residues.accepted (g.F.Field.number c.one-one.result) c.one-one.ensures.value
    ∙ ap (λ p. sign (field_in T) p (plain_basis T (c.args.j - 1)).parity)
    (sym (ap parity_in c.in-Odd-Even.is-0) ∙ ap (λ b. b.parity) c.basis.ensures.value)
