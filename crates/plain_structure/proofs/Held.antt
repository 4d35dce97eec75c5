-- What a table that holds gives: its field, and its weights.
use mathlib.Core.Path.{sym, subst}
use Rattle.fpl_numbers.specs.Numbers.{IsField}
use Rattle.fpl_numbers.specs.Kinds.{field_of}
use Rattle.math_structure.specs.Laws.{HasWeights}
use Rattle.fpl_model.specs.declared.presentation.Presentation.{Presentation}
use Rattle.fpl_table.specs.Plain.{PlainTable, table_in}
use Rattle.plain_tables.specs.Holds.{Holds}
use Rattle.plain_sources.proofs.Laws.{weights_of_built}

module _ (p : Presentation) (T : PlainTable) (holds : Holds p T) where
  pub held_field : IsField T.kind
  held_field = subst IsField (sym holds.kind) holds.sound.field

  pub held_weights : HasWeights (field_of T.kind) (table_in T.kind T)
  held_weights =
      let w = weights_of_built p T holds.kind holds.generators holds.sound holds.built in
      record { positive = w.positive; within = w.within; product_of = w.products }
