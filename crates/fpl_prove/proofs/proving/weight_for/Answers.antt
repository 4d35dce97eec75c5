use Rattle.std.proofs.Common.{length}
use Rattle.fpl_model.specs.Meaning.{plain}
use Rattle.fpl_model.proofs.Terms.{term_within}
use Rattle.fpl_prove.proofs.proving.weight_for.Goals as goal

pub equation_weight-requires-clause-left : goal.equation_weight-requires-clause-left
equation_weight-requires-clause-left c = term_within c.args.p.now.field (length c.args.p.now.generators) (plain c.args.query.now.left) c.requires.query.0.0

pub equation_weight-requires-clause-right : goal.equation_weight-requires-clause-right
equation_weight-requires-clause-right c = term_within c.args.p.now.field (length c.args.p.now.generators) (plain c.args.query.now.right) c.requires.query.1.0
