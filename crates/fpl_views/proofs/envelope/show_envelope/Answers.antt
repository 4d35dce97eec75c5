use Rattle.fpl_views.proofs.Words.{over_prime}
use Rattle.fpl_views.proofs.envelope.show_envelope.Goals as goal

pub show_words-requires : goal.show_words-requires
show_words-requires c =
    over_prime c.args.p.now c.args.table.now c.requires.sound c.requires.standard c.weight.ensures.shape c.requires.prime
