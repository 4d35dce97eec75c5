use Rattle.std.proofs.Common.{sym, ap, ◌∙◌}
use Rattle.fpl_scalar.specs.Vectors.{scale_of}
use Rattle.fpl_rows.proofs.Fits.{ok_same}
use Rattle.fpl_rows.proofs.Units.{scale_one}
use Rattle.fpl_envelope.proofs.sums.gathered.Goals as goal

pub returns-in-Ok : goal.returns-in-Ok
returns-in-Ok g c =
    sym (ok_same (sym (scale_one c.args.sum.now.kind c.args.sum.now.row c.len-count.ensures.elements)
    ∙ ap (λ x. scale_of c.args.sum.now.kind x c.args.sum.now.row) (sym c.one.ensures.value) ∙ c.in-Ok.ensures.value))
