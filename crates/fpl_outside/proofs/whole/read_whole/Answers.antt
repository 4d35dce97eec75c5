use Rattle.std.proofs.Common.{arith, take}
use Rattle.std.proofs.lemmas.Grind.{common_steps}
use Rattle.fpl_outside.proofs.Pieces.{gives_more}
use Rattle.fpl_outside.proofs.whole.read_whole.Goals as goal

pub returns-then-count-max-clause-too_long : goal.returns-then-count-max-clause-too_long
returns-then-count-max-clause-too_long g c = λ _. record {
  front = c.reading.all.items;
  piece = take c.in-Read.count c.read.new.buf;
  gives = gives_more _ _ _ _ _ c.reading.invariant.gives c.in-Read.ensures.bytes.2;
  below = grind (arith, common_steps, c.reading.invariant.short, c.reading.all.ok.0);
  passed = grind (arith, common_steps, c.in-Read.ensures, c.reading.all.ok.0, c.len.ensures);
  last = grind (arith, common_steps, c.in-Read.ensures);
}

pub returns-then-is_err-clause-memory_lost : goal.returns-then-is_err-clause-memory_lost
returns-then-is_err-clause-memory_lost g c = λ _. record {
  bytes = _;
  gives = gives_more _ _ _ _ _ c.reading.invariant.gives c.in-Read.ensures.bytes.2;
  within = grind (arith, common_steps, c.in-Read.ensures, c.reading.invariant.short, c.reading.all.ok.0, c.len.ensures);
}
