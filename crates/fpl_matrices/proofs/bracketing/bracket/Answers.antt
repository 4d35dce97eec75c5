use Rattle.std.proofs.Common.{◌≡◌, ◌*◌, ap, sym, subst, ◌∙◌, arith}
use Rattle.std.proofs.lemmas.Grind.{common_steps}
use Rattle.plain_matrices.specs.Plain.{PlainMatrix, size_of, turned, bracket_rows, bracket_numbers}
use Rattle.fpl_matrices.specs.Matrices.{IsSound, with_numbers}
use Rattle.fpl_matrices.proofs.Sound.{bracket_sound}
use Rattle.fpl_matrices.proofs.bracketing.bracket.Goals as goal

pub returns-clause-sound : goal.returns-clause-sound
returns-clause-sound c =
    let x = c.args.x.now in
    let y = c.args.y.now in
    let n = size_of x in
    let ts : c.turned.inside.numbers.items ≡ turned x.prime x.even n x.numbers (n * n) =
    ap (λ z. z.numbers) c.turned.view_is ∙ c.in_ok-turned.ensures.numbers in
    let r : c.loop-r.r ≡ size_of c.args.x.now = first_of (omega arith, grind (arith, common_steps)) in
    let e : c.loop-r.numbers.items ≡ bracket_numbers x.prime x.even n x.numbers y.numbers =
    c.loop-r.invariant ∙ ap (λ ts. bracket_rows x.prime x.even n x.numbers ts y.numbers c.loop-r.r) ts
    ∙ ap (bracket_rows x.prime x.even n x.numbers (turned x.prime x.even n x.numbers (n * n)) y.numbers) r in
    subst (λ (z : PlainMatrix). IsSound (with_numbers z c.loop-r.numbers.items)) (sym c.x.view_is)
    (subst (λ xs. IsSound (with_numbers c.args.x.now xs)) (sym e) (bracket_sound c.args.x.now c.args.y.now c.requires.x c.requires.y c.requires.alike))
