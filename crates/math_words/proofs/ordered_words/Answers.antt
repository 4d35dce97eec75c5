use Rattle.fpl_numbers.specs.Kinds.{field_of}
use Rattle.math_words.proofs.Main.{ordered_words_are_free, table_is_within}
use Rattle.math_words.proofs.ordered_words.Goals as goal

pub returns-clause-free : goal.returns-clause-free
returns-clause-free c = λ k. ordered_words_are_free (field_of k)

pub returns-clause-table : goal.returns-clause-table
returns-clause-table c = λ k. table_is_within (field_of k)
