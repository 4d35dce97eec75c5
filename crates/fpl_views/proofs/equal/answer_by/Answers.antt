use Rattle.std.proofs.Common.{length}
use Rattle.fpl_model.specs.Meaning.{plain}
use Rattle.fpl_model.proofs.Terms.{term_within}
use Rattle.fpl_views.proofs.equal.answer_by.Goals as goal

pub value-requires-clause-term : goal.value-requires-clause-term
value-requires-clause-term g c = term_within c.args.p.now.field (length c.args.p.now.generators) (plain c.args.q.now.left) c.requires.query.0.0

pub value-requires-in-Ok-clause-term : goal.value-requires-in-Ok-clause-term
value-requires-in-Ok-clause-term g c = term_within c.args.p.now.field (length c.args.p.now.generators) (plain c.args.q.now.right) c.requires.query.1.0
