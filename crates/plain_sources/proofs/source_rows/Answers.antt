use Rattle.plain_sources.proofs.Laws.{rows_stand, origins_are_sources, sources_are_origins}
use Rattle.plain_sources.proofs.source_rows.Goals as goal

pub returns-clause-rows : goal.returns-clause-rows
returns-clause-rows c = λ p sound T h. rows_stand p T h.kind h.generators sound h.rows h.weights

pub returns-clause-sources : goal.returns-clause-sources
returns-clause-sources c = λ p sound T h. origins_are_sources p T h.kind h.generators sound h.rows h.weights

pub returns-clause-origins : goal.returns-clause-origins
returns-clause-origins c = λ p sound T h. sources_are_origins p T h.kind h.generators sound h.rows h.weights
