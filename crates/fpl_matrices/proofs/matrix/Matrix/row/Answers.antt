use Rattle.std.proofs.Common.{◌≡◌, length, ap, ap₂, sym, ◌∙◌, subst}
use Rattle.fpl_lanes.specs.Lanes.{AllBelow}
use Rattle.plain_matrices.specs.Plain.{row_at}
use Rattle.fpl_matrices.proofs.Sound.{row_length, row_below}
use Rattle.fpl_matrices.proofs.matrix.Matrix.row.Goals as goal

pub returns-clause-length : goal.returns-clause-length
returns-clause-length c =
    let e : c.deref.result.now ≡ c.args.self.now.numbers = c.deref.ensures.value ∙ ap (λ y. y.numbers) c.self.view_is in
    ap₂ (λ n xs. length (row_at n xs c.args.k)) c.size-size.ensures e ∙ row_length c.args.self.now c.args.k c.requires.sound c.requires.within

pub returns-clause-below : goal.returns-clause-below
returns-clause-below c =
    let e : c.deref.result.now ≡ c.args.self.now.numbers = c.deref.ensures.value ∙ ap (λ y. y.numbers) c.self.view_is in
    subst (λ xs. AllBelow c.args.self.now.prime (row_at c.size-size.result xs c.args.k)) (sym e)
    (subst (λ n. AllBelow c.args.self.now.prime (row_at n c.args.self.now.numbers c.args.k)) (sym c.size-size.ensures)
    (row_below c.args.self.now c.args.k c.requires.sound c.requires.within))
