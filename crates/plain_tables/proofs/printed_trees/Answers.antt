use Rattle.plain_tables.proofs.Printed.{standard_printed, printed_over, printed_values}
use Rattle.plain_tables.proofs.printed_trees.Goals as goal

pub returns : goal.returns
returns c = record {
  any = standard_printed;
  over = printed_over;
  values = printed_values;
}
