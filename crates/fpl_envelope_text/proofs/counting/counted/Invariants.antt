use Rattle.std.proofs.Common.{◌≡◌, ◌≤◌, ◌+◌, take}
use Rattle.std.specs.Prelude.{count_by, not}
use Rattle.math_algebra.specs.Symbols.{is_odd}
use Rattle.plain_envelope.specs.Products.{word_parity}
use Rattle.fpl_table.specs.Plain.{table_in}
use Rattle.fpl_envelope.specs.Polys.{word_of}
use Rattle.fpl_envelope_text.proofs.counting.counted.Given as goal

abbrev pub invariant-loop-word : goal.invariant-loop-word
invariant-loop-word g l = record {
  evens : l.counts.evens ≡ count_by (λ u. not (is_odd (word_parity (table_in l.table.kind l.table) (word_of u)))) (take l.word-index l.words);
  odds : l.counts.odds ≡ count_by (λ u. is_odd (word_parity (table_in l.table.kind l.table) (word_of u))) (take l.word-index l.words);
  few : l.counts.evens + l.counts.odds ≤ l.word-index;
}
