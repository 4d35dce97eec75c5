use Rattle.std.proofs.Common.{◌≡◌, ◌++◌, length, take, drop, ap, sym, ◌∙◌, subst, arith}
use Rattle.std.proofs.lemmas.Grind.{common_steps}
use Rattle.fpl_lanes.specs.Lanes.{multiplied}
use Rattle.plain_matrices.specs.Plain.{PlainMatrix}
use Rattle.fpl_matrices.specs.Matrices.{IsSound, with_numbers}
use Rattle.fpl_matrices.proofs.Sound.{written, multiplied_sound}
use Rattle.fpl_matrices.proofs.matrix.Matrix.multiply.Goals as goal

pub returns-clause-value : goal.returns-clause-value
returns-clause-value c =
    let inside = c.self.inside in
    let new = c.scale.new.row in
    let long : c.self.inside.numbers.len ≡ length c.scale.new.row = first_of (omega arith, grind (arith, common_steps)) in
    let w : take inside.numbers.len (new ++ drop (length new) inside.numbers.items) ≡ new = written new inside.numbers.items inside.numbers.len long in
    let made : c.scale.new.row ≡ multiplied c.self.inside.prime c.args.c c.self.inside.numbers.items =
    c.scale.ensures ∙ ap (multiplied c.self.inside.prime c.args.c) c.deref_mut.ensures.value in
    ap (λ xs. with_numbers (record { prime = inside.prime; even = inside.shape.even; odd = inside.shape.odd; numbers = xs }) xs) (w ∙ made)
    ∙ ap (λ (y : PlainMatrix). with_numbers y (multiplied y.prime c.args.c y.numbers)) c.self.view_is

pub returns-clause-sound : goal.returns-clause-sound
returns-clause-sound c = subst IsSound (sym (returns-clause-value c)) (multiplied_sound c.args.self.now c.args.c c.requires.sound)
