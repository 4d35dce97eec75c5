use Rattle.fpl_numbers.specs.Kinds.{field_of}
use Rattle.math_subspaces.proofs.Forms.{kernel_has_form, free_rows_form}
use Rattle.math_subspaces.proofs.kernel_forms.Goals as goal

pub returns-clause-some : goal.returns-clause-some
returns-clause-some c = λ k. kernel_has_form (field_of k)

pub returns-clause-free : goal.returns-clause-free
returns-clause-free c = λ k. free_rows_form (field_of k)
