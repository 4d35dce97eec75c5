use Rattle.std.proofs.Common.{sym, ◌∙◌}
use Rattle.fpl_ranks.proofs.Flags.{adds_none, adds_one}
use Rattle.fpl_ranks.proofs.leading.add_product.Goals as goal

pub returns-then-is_zero : goal.returns-then-is_zero
returns-then-is_zero c =
    adds_none c.args.table.now.kind c.requires.field c.args.sum c.args.a c.args.b c.requires.sum c.requires.right (sym c.is_zero.ensures ∙ c.if-is_zero.true)

pub returns-in-Ok-add : goal.returns-in-Ok-add
returns-in-Ok-add c =
    adds_one c.args.table.now.kind c.requires.field _ _ c.field-field.ensures c.field-field.ensures c.args.sum c.args.a c.args.b c.in-Ok.product
    c.in-Ok-add.more c.requires.sum c.requires.left c.requires.right c.in-Ok.ensures.value c.in-Ok-add.ensures.value
