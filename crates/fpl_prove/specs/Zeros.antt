-- What is 0 over the symbols of the weight after a table's, with its numbers.
--
--   origin_vector p T o    the row of an origin
--   IsZeroOf L n v f       the sum of the fact's terms is 0, and its numbers are v
--   AreConcluded L n cs zs for each conclusion what is 0 with its numbers
use Rattle.std.specs.Prelude.{ℕ, ◌≡◌, List, [], length, get_or, slice_get, Some}
use Rattle.fpl_numbers.specs.declared.number.Num.{Num}
use Rattle.fpl_numbers.specs.Kinds.{field_of}
use Rattle.math_linear.specs.Vector.{Vector}
use Rattle.fpl_model.specs.declared.presentation.Presentation.{Presentation}
use Rattle.fpl_model.specs.Meaning.{presentation_in}
use Rattle.fpl_rows.specs.Meaning.{vector_in}
use Rattle.fpl_log.specs.declared.step.Origin.{Origin}
use Rattle.fpl_table.specs.Plain.{PlainTable, table_in}
use Rattle.plain_sources.specs.TableLaws.{vector_of_origin}
use Rattle.fpl_forms.specs.declared.term.Fact.{Fact}
use Rattle.fpl_forms.specs.Ledgers.{PlainLedger}
use Rattle.fpl_forms.specs.Laws.{number_in}
use Rattle.fpl_facts.specs.Facts.{IsZero}
use Rattle.fpl_table_facts.specs.declared.known.Next.{Next}

abbrev pub origin_vector : (p : Presentation) → PlainTable → Origin → Vector (field_of p.field)
origin_vector p T o = vector_of_origin (field_of p.field) (presentation_in p) (table_in p.field T) o

pub record IsZeroOf (L : PlainLedger) (n : Next) (v : Vector (field_of L.presentation.field)) (f : Fact) : Type 0 where
  pub zero : IsZero L n.trees.items f
  pub numbers : (i : ℕ) → number_in L.presentation.field f.terms.items i ≡ v i

pub record AreConcluded (L : PlainLedger) (n : Next) (cs : List (List Num)) (zs : List Fact) : Type 0 where
  pub count : length zs ≡ length cs
  pub each : (m : ℕ) (z : Fact) → slice_get zs m ≡ Some z → IsZeroOf L n (vector_in L.presentation.field (get_or cs m [])) z
