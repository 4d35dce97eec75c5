use Rattle.std.specs.Prelude.{option_map}
use Rattle.fpl_log.proofs.TermsTaken.{scale_element, means_from}
use Rattle.fpl_log.proofs.taking.conclude.Goals as goal

pub returns-in-Ok-clause-means : goal.returns-in-Ok-clause-means
returns-in-Ok-clause-means g c =
    means_from (g.F.Field.kind_of c.args.field.now) c.args.earlier.now c.args.start c.in-Ok.left c.args.terms.now
    (option_map g.F.Field.number c.args.scale) c.scale_by.result (g.met.F.Field.is_field c.args.field.now)
    c.requires.elements c.requires.earlier c.requires.terms
    (scale_element (g.F.Field.kind_of c.args.field.now) g.F.Field.number c.args.scale c.requires.scale) c.in-Ok.ensures.value c.scale_by.ensures.value
