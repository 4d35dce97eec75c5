use Rattle.std.proofs.Common.{◌≡◌, IfSome, subst}
use Rattle.std.specs.Prelude.{Ok}
use Rattle.fpl_numbers.specs.declared.number.Kind.{Kind}
use Rattle.fpl_numbers.specs.Numbers.{IsElement}
use Rattle.fpl_numbers.specs.Kinds.{field_of, number_of}
use Rattle.fpl_numbers.proofs.KindReads.{kind_reads}
use Rattle.fpl_scalar.specs.Vectors.{AreElements, scale_of}
use Rattle.fpl_rows.proofs.Readings.{scale_places}
use Rattle.fpl_check.proofs.taking.scaled_row.Goals as goal

pub returns-in-Ok-gather-clause-row : goal.returns-in-Ok-gather-clause-row
returns-in-Ok-gather-clause-row g c =
    let kind = g.F.Field.kind_of c.args.field.now in
    let row = c.args.work.now.row in
    let factor = g.F.Field.number c.in-Some.k in
    let value : scale_of kind factor row ≡ Ok c.in-Ok-gather.scaled =
    subst (λ (k : Kind). scale_of k factor row ≡ Ok c.in-Ok-gather.scaled) c.requires.kind c.in-Ok-gather.ensures.value in
    let r = scale_places kind (field_of kind) (number_of kind) (kind_reads kind (g.met.F.Field.is_field c.args.field.now)) row c.in-Ok-gather.scaled
    factor
    (subst (λ (k : Kind). AreElements k row) c.requires.kind c.len-count.ensures.elements)
    (subst (λ o. IfSome o (λ k. IsElement kind (g.F.Field.number k))) c.in-Some.is c.requires.scale) value in
    record { elements = r.0; length_is = r.1.0 }
