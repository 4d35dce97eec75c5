-- What a made table is to the laws of its values.
use Rattle.std.specs.Prelude.{List}
use Rattle.fpl_numbers.specs.Kinds.{field_of}
use Rattle.fpl_log.specs.declared.section.Section.{Section}
use Rattle.math_theorems.proofs.StandardLaws.{standard_is_built}
use Rattle.fpl_model.specs.declared.presentation.Presentation.{Presentation}
use Rattle.fpl_model.specs.Meaning.{presentation_in}
use Rattle.fpl_model.specs.Sound.{IsSound}
use Rattle.fpl_table.specs.Plain.{PlainTable, table_in}
use Rattle.fpl_table.specs.Standard.{printed_tree}
use Rattle.plain_tables.specs.Holds.{Holds}
use Rattle.plain_tables.proofs.Holding.{sound_is_sound}
use Rattle.plain_sources.specs.Premises.{IsTableFor}
use Rattle.plain_sources.proofs.Laws.{rows_of_shape, weights_of_built}
use Rattle.fpl_views.specs.Laws.{IsMadeOf}

module _ (p : Presentation) (T : PlainTable) (sections : List Section) (sound : IsSound p) (made : IsMadeOf p T sections) where
  pub made_holds : Holds p T
  made_holds = record {
    sound = sound;
    kind = made.standard.kind;
    generators = made.standard.generators;
    shape = made.shape;
    built =
        standard_is_built (field_of p.field) (presentation_in p) (sound_is_sound p sound) (table_in p.field T) (printed_tree p T) made.standard.standard;
  }

  pub made_table_for : IsTableFor p T
  made_table_for = record {
    kind = made.standard.kind;
    generators = made.standard.generators;
    rows = rows_of_shape T made.shape;
    weights = weights_of_built p T made.standard.kind made.standard.generators sound made_holds.built;
  }
