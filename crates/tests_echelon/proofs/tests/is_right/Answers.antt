use Rattle.std.proofs.Common.{◌≡◌, ◌∙◌, ap, subst, sym}
use Rattle.fpl_numbers.specs.declared.number.Kind.{Kind}
use Rattle.fpl_scalar.specs.Vectors.{AreElements}
use Rattle.plain_elimination.specs.Plain.{Elimination}
use Rattle.tests_echelon.proofs.tests.is_right.Goals as goal

pub insert-requires-2-clause-elements : goal.insert-requires-2-clause-elements
insert-requires-2-clause-elements g c =
    let P : Kind → Type 0 = λ k. AreElements k c.in_ok-row-2.field-0 in
    subst P (sym (c.in_ok-first.ensures.kind ∙ ap (λ (e : Elimination). e.kind) c.in_ok-echelon.ensures)) c.in_ok-row-2.ensures.elements

pub insert-requires-3-clause-elements : goal.insert-requires-3-clause-elements
insert-requires-3-clause-elements g c =
    let P : Kind → Type 0 = λ k. AreElements k c.in_ok-row-3.field-0 in
    subst P (sym (c.in_ok-second.ensures.kind ∙ c.in_ok-first.ensures.kind ∙ ap (λ (e : Elimination). e.kind) c.in_ok-echelon.ensures))
    c.in_ok-row-3.ensures.elements
