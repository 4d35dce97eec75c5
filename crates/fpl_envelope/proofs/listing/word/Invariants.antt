use Rattle.std.proofs.Common.{◌≡◌, ◌<◌, ◌++◌, suc, length, map}
use Rattle.fpl_envelope.specs.Counts.{words_in, word_in}
use Rattle.fpl_envelope.proofs.listing.word.Given as goal

abbrev pub invariant-loop-left : goal.invariant-loop-left
invariant-loop-left g l = record {
  weight : l.left.weight < length l.counts;
  number : l.left.number < length (words_in l.table l.left.weight);
  word : map suc (word_in l.table l.fn.at.weight l.fn.at.number) ≡ l.letters.items ++ map suc (word_in l.table l.left.weight l.left.number);
}

abbrev pub decreases-loop-left : goal.decreases-loop-left
decreases-loop-left g l = l.left.weight
