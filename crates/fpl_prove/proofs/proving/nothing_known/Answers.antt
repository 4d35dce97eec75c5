use Rattle.fpl_prove.proofs.Begun.{start_known}
use Rattle.fpl_prove.proofs.proving.nothing_known.Goals as goal

pub returns-clause-known : goal.returns-clause-known
returns-clause-known c = λ L e. start_known c.args.p.now c.requires.sound _ c.in_ok-start.ensures c.new.ensures.items c.new-2.ensures.items L e
