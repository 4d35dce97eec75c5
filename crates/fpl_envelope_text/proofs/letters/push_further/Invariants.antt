use Rattle.std.proofs.Common.{◌≡◌, ◌++◌}
use Rattle.fpl_print.specs.TableText.{text_of}
use Rattle.fpl_envelope_text.specs.Texts.{letter_text}
use Rattle.fpl_envelope_text.proofs.letters.push_further.Given as goal

abbrev pub invariant-loop-k : goal.invariant-loop-k
invariant-loop-k l = l.out.items ≡ l.initial.out.items ++ text_of l.k (letter_text l.letters)
