-- An accepted section stays accepted, with the same rows, when the steps that conclude zero are left out.
use Rattle.std.specs.Prelude.{◌≡◌, ℕ, List, [], length, Option, Ok, All}
use mathlib.Core.Path.{sym, ap, ◌∙◌, subst}
use Rattle.fpl_numbers.specs.Numbers.{IsField}
use Rattle.fpl_model.specs.declared.presentation.Presentation.{Presentation}
use Rattle.fpl_log.specs.declared.step.Step.{Step}
use Rattle.fpl_log.specs.declared.section.Section.{Section}
use Rattle.fpl_log.specs.Slim.{slim_steps, AreInOrder}
use Rattle.fpl_table.specs.Plain.{PlainTable, symbols_in}
use Rattle.fpl_rewrite.specs.Origins.{origins_of}
use Rattle.fpl_check.specs.declared.fault.Spot.TheVariants.{Whole}
use Rattle.fpl_check.specs.declared.fault.Why.TheVariants.{Count}
use Rattle.fpl_check.specs.Refusal.{demand}
use Rattle.fpl_check.specs.Premises.{HasNumbersOf}
use Rattle.fpl_check.specs.ClosedRows.{close_count, test_conclusions}
use Rattle.fpl_check.specs.Check.{test_count, rows_stored}
use Rattle.fpl_check.proofs.ListedOrigins.{demanded}
use Rattle.fpl_check.proofs.Conclusions.{HaveRows}
use Rattle.plain_sections.proofs.Accepted.{AcceptedParts, as_many}
use Rattle.fpl_check.proofs.PassedRows.{close_length, same_count}
use Rattle.plain_sections.proofs.Tests.{same_true}
use Rattle.plain_sections.proofs.Slimming.{slim_concludes}

abbrev pub with_steps : Section → Option ℕ → List Step → Section
with_steps s origins steps = record { weight = s.weight; origins = origins; steps = steps; closed = s.closed }

module _ (T : PlainTable) (p : Presentation) (listed : IsField T.kind) (sources : HaveRows T p (length (symbols_in T))) where
  pub slim_parts : (s : Section) (origins : Option ℕ) → test_count origins (length (origins_of T p)) ≡ Ok tt → AreInOrder [] 0 s.steps →
      All (HasNumbersOf T.kind) s.steps → AcceptedParts T p s →
      AcceptedParts T p (with_steps s origins (slim_steps [] 0 s.steps))
  slim_parts s origins count order numbers h =
      let slim = slim_steps [] 0 s.steps in
      let c = slim_concludes T p listed (length (symbols_in T)) sources s.steps h.conclusions h.conclude order numbers in
      let closes : close_count slim ≡ length s.closed =
      sym (close_length slim c.rest (as_many T p (with_steps s origins slim) slim [] c.rest c.conclude)) ∙ ap length c.closes_are
      ∙ close_length s.steps h.conclusions (as_many T p s s.steps [] h.conclusions h.conclude)
      ∙ same_count (close_count s.steps) (length s.closed) (demanded _ _ _ h.closes) in
      record {
        conclusions = c.rest;
        conclude = c.conclude;
        closes = ap (λ b. demand b Whole (Count (close_count slim) (length s.closed))) (same_true (close_count slim) (length s.closed) closes);
        forms = h.forms;
        same = subst (λ w. test_conclusions 1 (rows_stored T s) w ≡ Ok tt) (sym c.closes_are) h.same;
        leads = h.leads;
        apart = h.apart;
        count = count;
        origins = h.origins;
      }
