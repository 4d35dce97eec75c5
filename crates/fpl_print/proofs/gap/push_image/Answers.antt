use Rattle.fpl_print.proofs.Entries.{image_elements}
use Rattle.fpl_print.proofs.gap.push_image.Goals as goal

pub push_row-requires : goal.push_row-requires
push_row-requires g c = rw (c.field.ensures, c.image.ensures.value) (image_elements c.args.table.now c.requires.elements _)
