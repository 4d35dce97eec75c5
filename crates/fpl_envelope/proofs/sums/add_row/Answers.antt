use Rattle.std.proofs.Common.{◌≡◌, length, refl, sym, arith}
use Rattle.fpl_numbers.specs.Kinds.{field_of, number_of}
use Rattle.fpl_numbers.proofs.KindReads.{kind_reads}
use Rattle.fpl_rows.specs.Meaning.{vector_in}
use Rattle.plain_sources.proofs.Rows.{axpy_reads}
use Rattle.plain_sources.proofs.Units.{kind_units}
use Rattle.fpl_envelope.proofs.Fitting.{never}
use Rattle.fpl_envelope.proofs.sums.add_row.Goals as goal

pub unreachable-requires : goal.unreachable-requires
unreachable-requires g c =
    never c.args.sum.now.kind c.requires.kind c.args.sum.now.row (g.F.Field.number c.args.c) c.args.row.now c.in-Err.field-0 (sym c.in-Err.ensures.value)

pub returns-clause-row : goal.returns-clause-row
returns-clause-row g c =
    let kind = c.args.sum.now.kind in
    let h = axpy_reads kind (field_of kind) (number_of kind) (kind_reads kind c.requires.kind.accepted) (kind_units kind c.requires.kind.accepted)
    (length c.args.sum.now.row) (vector_in kind c.args.sum.now.row) c.args.sum.now.row c.args.row.now c.axpy.new.self.row (g.F.Field.number c.args.c)
    (record { elements = c.len-count.ensures.elements; long = refl; vector = refl }) c.requires.factor c.requires.row.elements
    (let l : length c.args.row.now ≡ length c.args.sum.now.row = c.requires.row.length_is in omega arith) (sym c.in-Ok.ensures.value) in
    record { elements = h.elements; length_is = h.long }

pub returns-clause-value : goal.returns-clause-value
returns-clause-value g c =
    let kind = c.args.sum.now.kind in
    (axpy_reads kind (field_of kind) (number_of kind) (kind_reads kind c.requires.kind.accepted) (kind_units kind c.requires.kind.accepted)
    (length c.args.sum.now.row) (vector_in kind c.args.sum.now.row) c.args.sum.now.row c.args.row.now c.axpy.new.self.row (g.F.Field.number c.args.c)
    (record { elements = c.len-count.ensures.elements; long = refl; vector = refl }) c.requires.factor c.requires.row.elements
    (let l : length c.args.row.now ≡ length c.args.sum.now.row = c.requires.row.length_is in omega arith) (sym c.in-Ok.ensures.value)).vector
