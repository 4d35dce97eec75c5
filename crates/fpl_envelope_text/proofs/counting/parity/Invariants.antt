use Rattle.std.proofs.Common.{◌≡◌, ◌≤◌, length, drop}
use Rattle.plain_envelope.specs.Products.{word_parity}
use Rattle.fpl_model.specs.Meaning.{parity_in}
use Rattle.fpl_table.specs.Plain.{table_in}
use Rattle.fpl_envelope.specs.Polys.{word_of}
use Rattle.fpl_envelope_text.proofs.counting.parity.Given as goal

abbrev pub invariant-loop-k : goal.invariant-loop-k
invariant-loop-k g l = record {
  within : l.k ≤ length l.letters;
  value : parity_in l.parity ≡ word_parity (table_in l.table.kind l.table) (word_of (drop l.k l.letters));
}

abbrev pub decreases-loop-k : goal.decreases-loop-k
decreases-loop-k g l = l.k
