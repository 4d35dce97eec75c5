-- The standard table of a presentation over a prime has an enveloping superalgebra.
use Rattle.std.proofs.Common.{ℕ, ◌≡◌, sym, ◌∙◌, subst}
use Rattle.math_algebra.specs.Tree as algebra
use Rattle.math_algebra.specs.Table.{ObeysLaw}
use Rattle.math_theorems.proofs.StandardLaws.{standard_is_built, built_obeys_law}
use Rattle.fpl_numbers.specs.declared.number.Kind.{Kind}
use Rattle.fpl_numbers.specs.declared.number.Kind.TheVariants.{Prime}
use Rattle.fpl_numbers.specs.Kinds.{Number, field_of}
use Rattle.fpl_model.specs.declared.presentation.Presentation.{Presentation}
use Rattle.fpl_model.specs.Meaning.{presentation_in}
use Rattle.fpl_model.specs.Sound.{IsSound}
use Rattle.fpl_table.specs.Plain.{PlainTable, table_in}
use Rattle.fpl_table.specs.Shape.{HasShape}
use Rattle.fpl_table.specs.Standard.{IsTableOf, printed_tree}
use Rattle.plain_tables.proofs.Holding.{sound_is_sound}
use Rattle.fpl_envelope.specs.Action.{IsEnveloped}

pub enveloped : (p : Presentation) (d : ℕ) (T : PlainTable) (n : ℕ) → IsSound p → IsTableOf p d T → HasShape T → T.kind ≡ Prime n → IsEnveloped T
enveloped p d T n sound table shape prime =
    record { residues = record { prime = n; is = prime; accepted = shape.field }; presentation = back.0; law = back.1 }
  where
    law : ObeysLaw (field_of p.field) (presentation_in p) (table_in p.field T)
    law =
        built_obeys_law (field_of p.field) (presentation_in p) (sound_is_sound p sound) (table_in p.field T)
        (standard_is_built (field_of p.field) (presentation_in p) (sound_is_sound p sound) (table_in p.field T) (printed_tree p T) table.standard)

    back : (P : algebra.Presentation (Number T.kind)) × ObeysLaw (field_of T.kind) P (table_in T.kind T)
    back =
        subst (λ k. (P : algebra.Presentation (Number k)) × ObeysLaw (field_of k) P (table_in k T)) (sym table.kind) (presentation_in p, law)
