use Rattle.std.proofs.Common.{◌≡◌, ◌+◌, length, All}
use Rattle.fpl_forms.specs.Ledgers.{IsExpr, Grows}
use Rattle.fpl_facts.specs.Facts.{IsZero}
use Rattle.fpl_prove.specs.Learning.{free_below, AreSolved, AreValues}
use Rattle.fpl_prove.proofs.level.symbol_values.Given as goal

abbrev pub invariant-loop-s : goal.invariant-loop-s
invariant-loop-s l = record {
  grows : Grows l.fn.ledger l.ledger;
  basis : All (IsExpr l.ledger.presentation) l.basis;
  trees : All (IsExpr l.ledger.presentation) l.trees;
  zeros : All (IsZero l.ledger l.trees) l.closed;
  solved : AreSolved l.ledger.prime l.leads l.closed;
  next : l.i ≡ l.before + length (free_below l.leads l.s);
  count : length l.values.items ≡ l.s;
  values : AreValues l.ledger l.basis l.trees l.values.items;
}
