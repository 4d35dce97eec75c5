use Rattle.std.proofs.Common.{subst, sym, refl, arith, [], List}
use Rattle.fpl_log.specs.declared.section.Section.{Section}
use Rattle.fpl_table.specs.Plain.{PlainTable}
use Rattle.plain_tables.specs.Raised.IsRaised.{started}
use Rattle.plain_tables.proofs.Holding.{start_holds}
use Rattle.fpl_complete.specs.State.{IsState}
use Rattle.fpl_complete.specs.State.AreAccepted.{at_start}
use Rattle.fpl_complete.proofs.Raising.{no_sections}
use Rattle.fpl_complete.proofs.state.State.start.Goals as goal

pub invariant_of-result : goal.invariant_of-result
invariant_of-result g c =
    subst (λ (xs : List Section). IsState c.args.p c.in_ok-table.table 0 xs) (sym c.new.ensures)
    (subst (λ (T : PlainTable). IsState c.args.p T 0 []) (sym c.in_ok-table.ensures)
    (record {
      holds = start_holds c.args.p c.requires.sound;
      raised = started;
      number = refl;
      few = omega arith;
      sections_are = no_sections;
      accepted = at_start;
      writable = λ i d l. absurd (omega (arith, l));
    }))
