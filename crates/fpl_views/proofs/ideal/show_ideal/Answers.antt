use Rattle.fpl_views.proofs.Spaces.{element_terms, elements_small}
use Rattle.fpl_views.proofs.ideal.show_ideal.Goals as goal

pub ideal-requires-clause-terms : goal.ideal-requires-clause-terms
ideal-requires-clause-terms g c = element_terms c.args.p.now c.requires.sound

pub ideal-requires-clause-few : goal.ideal-requires-clause-few
ideal-requires-clause-few g c = elements_small c.args.p.now c.requires.sound
