use Rattle.std.proofs.Common.{◌∙◌, ap, sym, subst}
use Rattle.fpl_numbers.specs.Numbers.{IsElement, negative_of}
use Rattle.fpl_scalar.specs.Vectors.{AreElements, axpy_of}
use Rattle.fpl_echelon.proofs.working.take_off.Goals as goal

pub neg-requires : goal.neg-requires
neg-requires g c = subst (λ k. IsElement k (g.F.Field.number c.at-factor.result)) c.requires.kind c.at-factor.ensures.element

pub axpy-requires-clause-factor : goal.axpy-requires-clause-factor
axpy-requires-clause-factor g c = subst (λ k. IsElement k (g.F.Field.number c.neg.result)) (sym c.requires.kind) c.neg.ensures.element

pub axpy-requires-clause-other : goal.axpy-requires-clause-other
axpy-requires-clause-other g c = subst (λ k. AreElements k c.args.other.now) (sym c.requires.kind) c.requires.other

pub num-requires : goal.num-requires
num-requires g c = subst (λ k. IsElement k (g.F.Field.number c.at-factor.result)) c.requires.kind c.at-factor.ensures.element

pub returns-in-Ok-clause-value : goal.returns-in-Ok-clause-value
returns-in-Ok-clause-value g c =
    let kind = g.F.Field.kind_of c.args.field.now in
    c.in-Ok.ensures.value ∙ ap (λ k. axpy_of k c.args.row.now.row (g.F.Field.number c.neg.result) c.args.other.now) c.requires.kind
    ∙ ap (λ w. axpy_of kind c.args.row.now.row w c.args.other.now) (c.neg.ensures.value ∙ ap (negative_of kind) c.at-factor.ensures.value)

pub returns-in-Err-clause-value : goal.returns-in-Err-clause-value
returns-in-Err-clause-value g c =
    let kind = g.F.Field.kind_of c.args.field.now in
    c.in-Err.ensures.value ∙ ap (λ k. axpy_of k c.args.row.now.row (g.F.Field.number c.neg.result) c.args.other.now) c.requires.kind
    ∙ ap (λ w. axpy_of kind c.args.row.now.row w c.args.other.now) (c.neg.ensures.value ∙ ap (negative_of kind) c.at-factor.ensures.value)
