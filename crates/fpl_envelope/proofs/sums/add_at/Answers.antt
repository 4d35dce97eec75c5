use Rattle.std.proofs.Common.{◌≡◌, ◌+◌, ◌-◌, refl, sym, ap, ◌∙◌, arith}
use Rattle.math_linear.specs.Vector.{vplus, scale, place}
use Rattle.fpl_numbers.specs.Kinds.{field_of, number_of}
use Rattle.fpl_numbers.proofs.KindReads.{kind_reads}
use Rattle.fpl_rows.specs.Meaning.{vector_in}
use Rattle.plain_sources.proofs.Rows.{add_at_reads}
use Rattle.plain_sources.proofs.Units.{kind_units}
use Rattle.fpl_envelope.proofs.sums.add_at.Goals as goal

pub returns-clause-value : goal.returns-clause-value
returns-clause-value g c =
    let kind = c.args.sum.now.kind in
    let back : c.args.s + 1 - 1 ≡ c.args.s = omega arith in
    (add_at_reads kind (field_of kind) (number_of kind) (kind_reads kind c.requires.kind.accepted) (kind_units kind c.requires.kind.accepted)
    c.len-count.result (vector_in kind c.args.sum.now.row) c.args.sum.now.row c.add_at.new.self.row (c.args.s + 1 - 1) (g.F.Field.number c.args.c)
    (record { elements = c.len-count.ensures.elements; long = sym c.len-count.ensures.value; vector = refl }) c.requires.added (omega arith)
    (sym c.in-Ok.ensures.value)).vector
    ∙ ap (λ s. vplus (field_of kind) (vector_in kind c.args.sum.now.row) (scale (field_of kind) (number_of kind (g.F.Field.number c.args.c))
    (place (field_of kind) s))) back
