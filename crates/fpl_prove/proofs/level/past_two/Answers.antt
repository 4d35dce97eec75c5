use Rattle.fpl_numbers.proofs.KindReads.{listed_prime}
use Rattle.fpl_prove.proofs.level.past_two.Goals as goal

pub returns : goal.returns
returns c = (listed_prime c.args.ledger.now.prime c.sound.ensures.listed).1
