use Rattle.plain_sources.proofs.Laws.{bracket_stands, value_stands}
use Rattle.plain_sources.proofs.plain_values.Goals as goal

pub returns-clause-bracket : goal.returns-clause-bracket
returns-clause-bracket c = λ p sound T h. bracket_stands p T h.kind h.generators sound h.rows

pub returns-clause-value : goal.returns-clause-value
returns-clause-value c = λ p sound T h. value_stands p T h.kind h.generators sound h.rows h.weights
