-- The section of a computed weight, in either version, is accepted with the rows that were computed, and kept as a run keeps that weight.
use Rattle.std.proofs.Common.{◌≡◌, suc, List, None, Ok, refl, sym, ap, ◌∙◌, inl}
use Rattle.fpl_numbers.specs.declared.number.Num.{Num}
use Rattle.fpl_numbers.specs.Results.{map_ok}
use Rattle.fpl_rows.proofs.Fits.{ok_same}
use Rattle.fpl_log.specs.declared.section.Section.{Section}
use Rattle.plain_elimination.specs.Plain.{Held, rows_of}
use Rattle.fpl_model.specs.declared.presentation.Presentation.{Presentation}
use Rattle.fpl_table.specs.Plain.{PlainTable}
use Rattle.fpl_table.specs.Push.{push_of}
use Rattle.plain_tables.specs.Holds.{Holds}
use Rattle.plain_weights.specs.Weight.{close_weight}
use Rattle.plain_weights.specs.Section.{slimmed, section_of, section_after}
use Rattle.fpl_check.specs.Check.{Accepts}
use Rattle.plain_sections.proofs.Held.{whole_is_accepted, section_is_accepted, section_is_slim}
use Rattle.fpl_bytes.specs.declared.version.Version.{Version}
use Rattle.fpl_bytes.specs.declared.version.Version.TheVariants.{One, Two}
use Rattle.plain_streams.specs.Streams.{section_in}

pub record StandsFor (p : Presentation) (T : PlainTable) (h : Held) (s : Section) : Type 0 where
  pub weight : s.weight ≡ suc T.weight
  pub rows : List (List Num)
  pub accepted : Accepts T p s rows
  pub table : push_of T rows ≡ push_of T (rows_of h.pivots)
  pub kept : slimmed T p s ≡ section_of T p h

pub section_stands : (version : Version) (p : Presentation) (T : PlainTable) (h : Held) → Holds p T → close_weight T p ≡ Ok h →
    StandsFor p T h (section_in version T p h)
section_stands One p T h holds run = record {
  weight = refl;
  rows = rows_of h.pivots;
  accepted = whole_is_accepted p T h None holds (inl refl) run;
  table = refl;
  kept = refl;
}
section_stands Two p T h holds run =
    let after : section_after T p ≡ Ok (section_of T p h) = ap (map_ok (section_of T p)) run in
    let accepted = section_is_accepted p T (section_of T p h) holds after in
    record {
      weight = refl;
      rows = accepted.0;
      accepted = accepted.1;
      table = ok_same (sym accepted.2 ∙ ap (map_ok (λ (g : Held). push_of T (rows_of g.pivots))) run);
      kept = section_is_slim p T (section_of T p h) holds after;
    }
