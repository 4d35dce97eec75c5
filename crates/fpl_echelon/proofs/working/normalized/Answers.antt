use Rattle.std.proofs.Common.{◌∙◌, ap, sym, subst}
use Rattle.fpl_numbers.specs.Numbers.{IsElement, is_nought, inverse_of}
use Rattle.fpl_numbers.specs.Results.{IsFault}
use Rattle.fpl_scalar.specs.Vectors.{scale_of}
use Rattle.fpl_echelon.proofs.working.normalized.Goals as goal

pub inverse-factor-requires-clause-element : goal.inverse-factor-requires-clause-element
inverse-factor-requires-clause-element g c = subst (λ k. IsElement k (g.F.Field.number c.at.result)) c.requires.kind c.at.ensures.element

pub inverse-factor-requires-clause-nonzero : goal.inverse-factor-requires-clause-nonzero
inverse-factor-requires-clause-nonzero g c = ap is_nought c.at.ensures.value ∙ c.requires.nonzero

pub gather-requires : goal.gather-requires
gather-requires g c = subst (λ k. IsElement k (g.F.Field.number c.inverse-factor.result)) (sym c.requires.kind) c.inverse-factor.ensures.element

pub returns-in-Ok-clause-value : goal.returns-in-Ok-clause-value
returns-in-Ok-clause-value g c =
    let kind = g.F.Field.kind_of c.args.field.now in
    sym (ap (λ k. scale_of k (g.F.Field.number c.inverse-factor.result) c.args.row.now.row) c.requires.kind ∙
    ap (λ f. scale_of kind f c.args.row.now.row) (c.inverse-factor.ensures.value ∙ ap (inverse_of kind) c.at.ensures.value)) ∙ c.in-Ok.ensures.value

pub returns-in-Err-clause-value : goal.returns-in-Err-clause-value
returns-in-Err-clause-value g c =
    let kind = g.F.Field.kind_of c.args.field.now in
    subst (IsFault c.in-Err.fault)
    (ap (λ k. scale_of k (g.F.Field.number c.inverse-factor.result) c.args.row.now.row) c.requires.kind ∙
    ap (λ f. scale_of kind f c.args.row.now.row) (c.inverse-factor.ensures.value ∙ ap (inverse_of kind) c.at.ensures.value)) c.in-Err.ensures.value
