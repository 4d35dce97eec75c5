use Rattle.fpl_table_facts.proofs.Weights.{void_terms}
use Rattle.fpl_table_facts.proofs.Grown.{grows_known}
use Rattle.fpl_table_facts.proofs.values.void_right_form.Goals as goal

pub void_right-requires-clause-none : goal.void_right-requires-clause-none
void_right-requires-clause-none c =
    void_terms c.args.ledger.now c.sound.ensures c.args.known.now c.requires.known c.args.b.now c.args.right.now c.requires.right c.requires.form c.requires.void

pub returns-clause-known : goal.returns-clause-known
returns-clause-known c = grows_known c.in_ok-fact.ensures.grows c.requires.known
