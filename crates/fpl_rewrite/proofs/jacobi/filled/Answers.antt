use Rattle.std.proofs.Common.{◌∙◌, ap, sym, subst}
use Rattle.fpl_numbers.specs.Numbers.{IsElement}
use Rattle.fpl_scalar.specs.Vectors.{scale_of}
use Rattle.fpl_rows.proofs.Fits.{ok_same}
use Rattle.fpl_rows.proofs.Units.{scale_one}
use Rattle.fpl_rewrite.proofs.jacobi.filled.Goals as goal

pub gather-requires : goal.gather-requires
gather-requires g c = subst (λ k. IsElement k (g.F.Field.number c.one.result)) (sym c.requires) c.one.ensures.element

pub returns-in-Ok-clause-value : goal.returns-in-Ok-clause-value
returns-in-Ok-clause-value g c =
    sym (ok_same (sym (scale_one c.args.work.now.kind c.args.work.now.row c.len-count.ensures.elements) ∙
    ap (λ f. scale_of c.args.work.now.kind f c.args.work.now.row) (sym c.one.ensures.value) ∙ c.in-Ok.ensures.value))
