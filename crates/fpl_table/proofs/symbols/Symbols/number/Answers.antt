use Rattle.std.proofs.Common.{◌∙◌}
use Rattle.fpl_table.proofs.Numbering.{number_is}
use Rattle.fpl_table.proofs.symbols.Symbols.number.Goals as goal

pub returns : goal.returns
returns c =
    rw (← c.self.view_is)
    (number_is c.self.inside.list.items c.args.x c.copied.result c.self.invariant.numbered c.requires
    (c.copied.ensures ∙ c.get.ensures.value ∙ c.self.invariant.numbers c.args.x))
