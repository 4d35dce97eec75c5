use Rattle.std.proofs.Common.{◌≡◌, ◌+◌, ◌++◌}
use Rattle.fpl_print.specs.TableText.{text_of}
use Rattle.fpl_table.specs.Plain.{table_in}
use Rattle.fpl_envelope.specs.Counts.{words_in}
use Rattle.fpl_envelope_text.specs.Texts.{weight_line}
use Rattle.fpl_envelope_text.proofs.counting.push_weight_lines.Given as goal

abbrev pub invariant-loop-w : goal.invariant-loop-w
invariant-loop-w g l =
    l.out.items ≡ l.initial.out.items ++ text_of l.w (λ v. weight_line (table_in l.table.kind l.table) (v + 1) (words_in l.table (v + 1)))
