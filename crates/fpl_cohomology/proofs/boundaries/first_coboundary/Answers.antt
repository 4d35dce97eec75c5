use Rattle.std.proofs.Common.{arith}
use Rattle.math_algebra.specs.Symbols.{no_symbol}
use Rattle.fpl_table.specs.Plain.{symbol_in}
use Rattle.plain_cohomology.specs.Plain.{bracket_row}
use Rattle.fpl_cohomology.proofs.Ranges.{pushed}
use Rattle.fpl_cohomology.proofs.Members.{pair_at}
use Rattle.fpl_cohomology.proofs.boundaries.first_coboundary.Goals as goal

pub bracket_row-requires-clause-pair : goal.bracket_row-requires-clause-pair
bracket_row-requires-clause-pair g c =
    pair_at c.args.table.now c.in_ok-tuples.tuples.weight c.in_ok-tuples.tuples.pairs c.in_ok-tuples.ensures.value.pairs c.loop-s.s (symbol_in c.get.result)
    (omega arith) c.get.ensures.value

pub loop-s-preserved : goal.loop-s-preserved
loop-s-preserved g c =
    pushed (bracket_row c.args.table.now c.in_ok-tuples.tuples.weight) c.in_ok-tuples.tuples.pairs c.loop-s.s c.loop-s.rows c.push.new.self
    (symbol_in c.get.result) no_symbol c.in_ok-bracket_row.field-0 (omega arith) c.get.ensures.value c.in_ok-push.ensures.ok c.loop-s.invariant
    c.in_ok-bracket_row.ensures
