use Rattle.std.proofs.Common.{ap, sym, ◌∙◌}
use Rattle.fpl_model.specs.Meaning.{plain}
use Rattle.fpl_rewrite.specs.Rows.{has_weight}
use Rattle.fpl_rewrite.proofs.Relations.{counts_by}
use Rattle.fpl_rewrite.proofs.forms.is_of_some_weight.Goals as goal

pub returns-in-Any : goal.returns-in-Any
returns-in-Any g c = sym (counts_by c.args.table.now c.args.p.now (plain c.args.e.now) c.requires.agrees ∙ ap has_weight (sym c.in-Any.ensures))

pub returns-in-Exact : goal.returns-in-Exact
returns-in-Exact g c = sym (counts_by c.args.table.now c.args.p.now (plain c.args.e.now) c.requires.agrees ∙ ap has_weight (sym c.in-Exact.ensures))

pub returns-in-Mixed : goal.returns-in-Mixed
returns-in-Mixed g c = sym (counts_by c.args.table.now c.args.p.now (plain c.args.e.now) c.requires.agrees ∙ ap has_weight (sym c.in-Mixed.ensures))
