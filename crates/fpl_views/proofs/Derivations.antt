-- The sections that raised a table are derivations of it.
use Rattle.std.proofs.Common.{List, sym}
use Rattle.fpl_numbers.specs.declared.number.Num.{Num}
use Rattle.fpl_log.specs.declared.section.Section.{Section}
use Rattle.fpl_model.specs.declared.presentation.Presentation.{Presentation}
use Rattle.fpl_table.specs.Plain.{PlainTable}
use Rattle.fpl_table.specs.Standard.{printed_tree}
use Rattle.plain_tables.specs.Holds.{Holds}
use Rattle.plain_tables.proofs.Holding.{held_is_table}
use Rattle.plain_sources.proofs.HeldTables.{is_field}
use Rattle.plain_sections.proofs.Held.{one_step_each}
use Rattle.fpl_check.specs.Premises.{IsSectionFor}
use Rattle.fpl_check.specs.Check.{Accepts}
use Rattle.fpl_check.proofs.ListedOrigins.{demanded}
use Rattle.fpl_check.proofs.PassedRows.{same_count, stored_same, passes}
use Rattle.fpl_check.proofs.LawsPassed.{accepted_closed, accepted_spans, conclusions_rows, conclusions_whole, conclusions_zero}
use Rattle.fpl_complete.specs.State.{AreAccepted}
use Rattle.fpl_complete.specs.State.AreAccepted.{at_start, one_more as one_accepted}
use Rattle.fpl_views.specs.Log.{IsDerivation, AreDerivations}
use Rattle.fpl_views.specs.Log.AreDerivations.{from_start, one_more}

module _ (p : Presentation) where
  derivation : (B : PlainTable) (s : Section) (rows : List (List Num)) → Holds p B → IsSectionFor B s → Accepts B p s rows → IsDerivation p B s rows
  derivation B s rows holds section accepts =
      let h = passes B (is_field p B holds) p s section rows accepts in
      let standard = held_is_table p B holds in
      record {
        below = standard;
        rows_are = sym h.are;
        closed = accepted_closed p B s holds section rows accepts;
        spans = accepted_spans p B s holds section rows accepts;
        conclusions = h.conclusions;
        concluded = h.concluded;
        zero = conclusions_zero p B s holds section h.conclusions h.concluded (printed_tree p B) standard.standard;
        closes = same_count _ _ (demanded _ _ _ h.closes);
        closed_by =
            stored_same B (is_field p B holds) s section rows h.conclusions h.are h.closes h.same
            (conclusions_rows p B s holds section h.conclusions h.concluded) (conclusions_whole p B s holds section h.conclusions h.concluded);
        inserts = λ e. (one_step_each p B s holds e).0;
      }

  pub are_derivations : (T : PlainTable) (sections : List Section) → AreAccepted p T sections → AreDerivations p T sections
  are_derivations _ _ at_start = from_start
  are_derivations _ _ (one_accepted B sections s rows before holds section accepts) =
      one_more B sections s rows (are_derivations B sections before) (derivation B s rows holds section accepts)
