use Rattle.std.proofs.Common.{ap, sym, ◌∙◌}
use Rattle.fpl_model.specs.Meaning.{plain}
use Rattle.fpl_table.specs.Value.{is_weight_light}
use Rattle.fpl_table.proofs.Light.{light_by}
use Rattle.fpl_table.proofs.table.Table.is_light.Goals as goal

pub returns-in-Any : goal.returns-in-Any
returns-in-Any g c = sym (light_by c.args.self.now c.args.p.now (plain c.args.e.now) c.requires.agrees ∙
    ap (is_weight_light c.args.self.now.weight) (sym c.in-Any.ensures))

pub returns-in-Exact : goal.returns-in-Exact
returns-in-Exact g c =
    rw (c.from.ensures, c.weight.ensures.value)
    (sym (light_by c.args.self.now c.args.p.now (plain c.args.e.now) c.requires.agrees ∙ ap (is_weight_light c.args.self.now.weight) (sym c.in-Exact.ensures)))

pub returns-in-Mixed : goal.returns-in-Mixed
returns-in-Mixed g c = sym (light_by c.args.self.now c.args.p.now (plain c.args.e.now) c.requires.agrees ∙
    ap (is_weight_light c.args.self.now.weight) (sym c.in-Mixed.ensures))
