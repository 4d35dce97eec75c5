use Rattle.fpl_views.proofs.Texts as laws
use Rattle.fpl_views.proofs.laws.views_show.Goals as goal

pub returns-clause-show : goal.returns-clause-show
returns-clause-show c = laws.texts_show

pub returns-clause-fit : goal.returns-clause-fit
returns-clause-fit c = laws.texts_fit
