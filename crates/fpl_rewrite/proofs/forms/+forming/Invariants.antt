use Rattle.std.proofs.Common.{◌≡◌, ◌≤◌, length, map, drop}
use Rattle.fpl_scalar.specs.Vectors.{AreElements}
use Rattle.math_algebra.specs.Tree.{trees}
use Rattle.fpl_model.specs.Meaning.{plain}
use Rattle.fpl_model.specs.Sound.{AreTerms, count_trees}
use Rattle.fpl_table.specs.Plain.{symbols_in}
use Rattle.fpl_table.specs.Value.{zero_row}
use Rattle.fpl_rewrite.specs.Rows.{forms_of}
use Rattle.fpl_rewrite.proofs.forms.+forming.Given as goal

abbrev pub invariant-form_all-loop-e : goal.invariant-form_all-loop-e
invariant-form_all-loop-e g l = record {
  same : l.e-items ≡ l.members;
  terms : AreTerms l.p.field (length l.p.generators) (trees (map plain (drop l.e-index l.e-items)));
  few : count_trees (trees (map plain (drop l.e-index l.e-items))) ≤ count_trees (trees (map plain l.members));
  elements : AreElements l.table.kind l.sum;
  whole : length l.sum ≡ length l.symbols.symbols;
  left : forms_of l.table (trees (map plain l.members)) (zero_row (length (symbols_in l.table))) ≡
      forms_of l.table (trees (map plain (drop l.e-index l.e-items))) l.sum;
}
