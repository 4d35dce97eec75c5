use Rattle.std.proofs.Common.{length}
use Rattle.fpl_model.specs.Meaning.{plain}
use Rattle.fpl_model.proofs.Terms.{term_within}
use Rattle.fpl_queries.proofs.queries.is_beyond.Goals as goal

pub equation_weight-requires-clause-left : goal.equation_weight-requires-clause-left
equation_weight-requires-clause-left g c = term_within c.args.p.now.field (length c.args.p.now.generators) (plain c.args.q.now.left) c.requires.query.0.0

pub equation_weight-requires-clause-right : goal.equation_weight-requires-clause-right
equation_weight-requires-clause-right g c = term_within c.args.p.now.field (length c.args.p.now.generators) (plain c.args.q.now.right) c.requires.query.1.0
