use Rattle.fpl_views.proofs.Texts as laws
use Rattle.fpl_views.proofs.laws.views_of_tables.Goals as goal

pub returns : goal.returns
returns c = laws.texts_of_tables
