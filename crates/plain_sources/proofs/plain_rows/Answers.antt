use Rattle.fpl_numbers.specs.Kinds.{field_of, number_of}
use Rattle.fpl_numbers.proofs.KindReads.{kind_reads}
use Rattle.plain_sources.proofs.Rows.{zero_row_reads, add_at_reads, add_row_reads, axpy_reads, scale_reads, minus_reads}
use Rattle.plain_sources.proofs.Units.{kind_units}
use Rattle.plain_sources.proofs.UnitMultiples.{unit_multiples}
use Rattle.plain_sources.proofs.plain_rows.Goals as goal

pub returns-clause-zero : goal.returns-clause-zero
returns-clause-zero c = λ k h. zero_row_reads k (field_of k) (number_of k) (kind_reads k h) (kind_units k h)

pub returns-clause-at : goal.returns-clause-at
returns-clause-at c = λ k h n s v row sum c. add_at_reads k (field_of k) (number_of k) (kind_reads k h) (kind_units k h) n v row sum s c

pub returns-clause-units : goal.returns-clause-units
returns-clause-units c = unit_multiples

pub returns-clause-sum : goal.returns-clause-sum
returns-clause-sum c = λ k h. add_row_reads k (field_of k) (number_of k) (kind_reads k h) (kind_units k h)

pub returns-clause-axpy : goal.returns-clause-axpy
returns-clause-axpy c = λ k h. axpy_reads k (field_of k) (number_of k) (kind_reads k h) (kind_units k h)

pub returns-clause-multiple : goal.returns-clause-multiple
returns-clause-multiple c = λ k h. scale_reads k (field_of k) (number_of k) (kind_reads k h) (kind_units k h)

pub returns-clause-negatives : goal.returns-clause-negatives
returns-clause-negatives c = λ k h. minus_reads k (field_of k) (number_of k) (kind_reads k h) (kind_units k h)
