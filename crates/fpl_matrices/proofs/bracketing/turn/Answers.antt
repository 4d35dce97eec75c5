use Rattle.std.proofs.Common.{◌≡◌, ◌<◌, ◌*◌, ap, sym, subst, ◌∙◌, arith}
use Rattle.plain_matrices.specs.Plain.{PlainMatrix, size_of, turned}
use Rattle.fpl_matrices.specs.Matrices.{IsSound, with_numbers}
use Rattle.fpl_matrices.proofs.Sound.{listed_least, turned_sound}
use Rattle.fpl_matrices.proofs.bracketing.turn.Goals as goal

pub returns-clause-sound : goal.returns-clause-sound
returns-clause-sound c =
    let x = c.args.x.now in
    let some : 0 < c.args.x.now.prime = (let h = listed_least c.args.x.now.prime c.requires.matrix.listed in omega arith) in
    let e : c.in_ok-turned.field-0.items ≡ turned x.prime x.even (size_of x) x.numbers (size_of x * size_of x) =
    c.in_ok-turned.ensures ∙ ap (turned x.prime x.even (size_of x) x.numbers) c.requires.matrix.square.places in
    subst (λ (y : PlainMatrix). IsSound (with_numbers y c.in_ok-turned.field-0.items)) (sym c.x.view_is)
    (subst (λ xs. IsSound (with_numbers c.args.x.now xs)) (sym e) (turned_sound c.args.x.now some c.requires))
