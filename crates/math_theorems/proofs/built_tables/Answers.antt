use Rattle.fpl_numbers.specs.Kinds.{field_of}
use Rattle.math_theorems.proofs.StandardLaws.{built_obeys_law, headline, images_past, closed_rows_build, lower_is_built, agreeing_is_built}
use Rattle.math_theorems.proofs.built_tables.Goals as goal

pub returns-clause-law : goal.returns-clause-law
returns-clause-law c = λ k. built_obeys_law (field_of k)

pub returns-clause-headline : goal.returns-clause-headline
returns-clause-headline c = λ k. headline (field_of k)

pub returns-clause-past : goal.returns-clause-past
returns-clause-past c = λ k. images_past (field_of k)

pub returns-clause-next : goal.returns-clause-next
returns-clause-next c = λ k. closed_rows_build (field_of k)

pub returns-clause-lower : goal.returns-clause-lower
returns-clause-lower c = λ k. lower_is_built (field_of k)

pub returns-clause-agreeing : goal.returns-clause-agreeing
returns-clause-agreeing c = λ k. agreeing_is_built (field_of k)
