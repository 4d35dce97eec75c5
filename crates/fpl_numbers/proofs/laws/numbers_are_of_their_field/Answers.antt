use Rattle.fpl_numbers.proofs.KindReads.{kind_reads, kind_reads_exactly}
use Rattle.fpl_numbers.proofs.Onto.{kind_reads_all}
use Rattle.fpl_numbers.proofs.laws.numbers_are_of_their_field.Goals as goal

pub returns : goal.returns
returns c = record {
  exact = kind_reads_exactly;
  every = kind_reads_all;
  elements = kind_reads;
}
