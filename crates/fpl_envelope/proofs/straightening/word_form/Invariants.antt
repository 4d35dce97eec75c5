use Rattle.std.proofs.Common.{◌≡◌, ◌≤◌, length, drop}
use Rattle.math_words.specs.Action.{straight}
use Rattle.fpl_envelope.specs.Action.{StandsFor, field_in, math_in}
use Rattle.fpl_envelope.specs.Polys.{word_of, weight_in}
use Rattle.fpl_envelope.proofs.straightening.word_form.Given as goal

abbrev pub invariant-loop-k : goal.invariant-loop-k
invariant-loop-k g l = record {
  within : l.k ≤ length l.word;
  weight : l.form.weight ≡ weight_in l.table (drop l.k l.word);
  value : StandsFor l.table l.form.weight (λ f. straight (field_in l.table) (math_in l.table) (word_of (drop l.k l.word)) f) l.form.row;
}

abbrev pub decreases-loop-k : goal.decreases-loop-k
decreases-loop-k g l = l.k
