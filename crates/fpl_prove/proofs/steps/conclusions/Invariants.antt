use Rattle.std.proofs.Common.{◌≡◌, ◌≤◌, drop, length, All}
use Rattle.fpl_forms.specs.Ledgers.{Grows}
use Rattle.fpl_facts.specs.Facts.{IsZero}
use Rattle.fpl_table_facts.specs.Known.{IsKnown, IsNext}
use Rattle.fpl_prove.proofs.Concluded.{IsPart}
use Rattle.fpl_prove.proofs.steps.conclusions.Given as goal

abbrev pub invariant-loop-i : goal.invariant-loop-i
invariant-loop-i l = record {
  presentation : l.p ≡ l.ledger.presentation;
  grows : Grows l.fn.ledger l.ledger;
  known : IsKnown l.ledger l.known;
  next : IsNext l.ledger l.known l.next;
  most : l.i ≤ length l.section.steps;
  zeros : All (IsZero l.ledger l.next.trees.items) l.zeros.items;
  count : length l.zeros.items ≡ l.i;
  part : IsPart l.ledger l.known.table l.next l.section.steps (drop l.i l.section.steps) l.zeros.items;
}
