use Rattle.std.proofs.Common.{◌≡◌, ◌++◌, length, take, drop, ap, ap₂, sym, ◌∙◌, subst, arith}
use Rattle.std.proofs.lemmas.Grind.{common_steps}
use Rattle.fpl_lanes.specs.Lanes.{added}
use Rattle.plain_matrices.specs.Plain.{PlainMatrix}
use Rattle.fpl_matrices.specs.Matrices.{IsSound, with_numbers}
use Rattle.fpl_matrices.proofs.Sound.{written, added_sound}
use Rattle.fpl_matrices.proofs.matrix.Matrix.add.Goals as goal

pub returns-clause-value : goal.returns-clause-value
returns-clause-value c =
    let inside = c.self.inside in
    let new = c.axpy.new.row in
    let long : c.self.inside.numbers.len ≡ length c.axpy.new.row = first_of (omega arith, grind (arith, common_steps)) in
    let w : take inside.numbers.len (new ++ drop (length new) inside.numbers.items) ≡ new = written new inside.numbers.items inside.numbers.len long in
    let other : c.deref.result.now ≡ c.args.other.now.numbers = c.deref.ensures.value ∙ ap (λ y. y.numbers) c.other.view_is in
    let made : c.axpy.new.row ≡ added c.self.inside.prime c.self.inside.numbers.items 1 c.args.other.now.numbers =
    c.axpy.ensures ∙ ap₂ (λ xs ys. added c.self.inside.prime xs 1 ys) c.deref_mut.ensures.value other in
    ap (λ xs. with_numbers (record { prime = inside.prime; even = inside.shape.even; odd = inside.shape.odd; numbers = xs }) xs) (w ∙ made)
    ∙ ap (λ (y : PlainMatrix). with_numbers y (added y.prime y.numbers 1 c.args.other.now.numbers)) c.self.view_is

pub returns-clause-sound : goal.returns-clause-sound
returns-clause-sound c = subst IsSound (sym (returns-clause-value c)) (added_sound c.args.self.now c.args.other.now c.requires.sound)
