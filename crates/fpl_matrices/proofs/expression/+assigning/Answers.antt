use Rattle.std.proofs.Common.{◌≡◌, length, sym, subst, ap, ◌∙◌}
use Rattle.math_algebra.specs.Tree.{gen}
use Rattle.fpl_model.specs.Meaning.{plain}
use Rattle.fpl_model.specs.Sound.{IsTerm}
use Rattle.fpl_model.proofs.Plain.{plain-Gen}
use Rattle.plain_matrices.specs.Plain.{PlainMatrix}
use Rattle.fpl_matrices.specs.Matrices.{IsSound, matrix_at}
use Rattle.fpl_matrices.proofs.Sound.{ok_more, generator_is, matrix_sound}
use Rattle.fpl_matrices.proofs.expression.+assigning.Goals as goal

pub matrix_of-returns-in-Gen-clause-value : goal.matrix_of-returns-in-Gen-clause-value
matrix_of-returns-in-Gen-clause-value t c =
    let p = c.args.p.now in
    let a = c.args.a.now in
    let here : plain c.args.e.now ≡ gen c.in-Gen.g = ap plain c.in-Gen.is ∙ plain-Gen c.in-Gen.g in
    let term : IsTerm c.args.p.now.field (length c.args.p.now.generators) (gen c.in-Gen.g) =
    subst (IsTerm c.args.p.now.field (length c.args.p.now.generators)) here c.requires.term in
    ok_more (λ (x : PlainMatrix). x ≡ c.matrix.result.now) (λ (x : PlainMatrix). x ≡ matrix_at c.args.p.now c.args.a.now (plain c.args.e.now)) c.copy.result
    (λ x e. e ∙ generator_is p a c.in-Gen.g c.matrix.result.now c.requires.assignment term.0 term.1 c.matrix.ensures ∙
    ap (matrix_at p a) (sym here)) c.copy.ensures

pub matrix_of-returns-in-Gen-clause-sound : goal.matrix_of-returns-in-Gen-clause-sound
matrix_of-returns-in-Gen-clause-sound t c =
    let p = c.args.p.now in
    let a = c.args.a.now in
    let here : plain c.args.e.now ≡ gen c.in-Gen.g = ap plain c.in-Gen.is ∙ plain-Gen c.in-Gen.g in
    let term : IsTerm c.args.p.now.field (length c.args.p.now.generators) (gen c.in-Gen.g) =
    subst (IsTerm c.args.p.now.field (length c.args.p.now.generators)) here c.requires.term in
    ok_more (λ (x : PlainMatrix). x ≡ c.matrix.result.now) IsSound c.copy.result
    (λ x e.
    subst IsSound (sym (e ∙ generator_is p a c.in-Gen.g c.matrix.result.now c.requires.assignment term.0 term.1 c.matrix.ensures))
    (matrix_sound p a (gen c.in-Gen.g) c.requires.assignment term)) c.copy.ensures
