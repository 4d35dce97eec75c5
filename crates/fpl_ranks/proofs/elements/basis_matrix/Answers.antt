use Rattle.std.proofs.Common.{◌≡◌, ◌<◌, ◌-◌, length, sym, ap, ◌∙◌, subst, arith}
use Rattle.math_algebra.specs.Table.{of_generator, of_pair}
use Rattle.fpl_table.specs.Plain.{plain_basis, symbol_in}
use Rattle.fpl_table.specs.Shape.{IsNumbered}
use Rattle.plain_matrices.specs.Plain.{PlainMatrix}
use Rattle.fpl_matrices.specs.Matrices.{IsSound, bracket_of}
use Rattle.fpl_matrices.proofs.Sound.{ok_more}
use Rattle.fpl_ranks.specs.Ranks.{basis_matrix}
use Rattle.fpl_ranks.proofs.Trees.{basis_sound, generator_matrix, pair_before, pair_matrix}
use Rattle.fpl_ranks.proofs.elements.basis_matrix.Goals as goal

pub bracket-requires-clause-x : goal.bracket-requires-clause-x
bracket-requires-clause-x c =
    let T = c.args.table.now in
    let a = c.args.a.now in
    let within : c.args.i - 1 < length T.basis = (let l = c.requires.within.0 in let m = c.requires.within.1 in omega arith) in
    let symbol : (plain_basis T (c.args.i - 1)).symbol ≡ of_pair (c.in-Pair.j - 1) (c.in-Pair.k - 1) =
    ap (λ b. b.symbol) (sym c.basis.ensures.value) ∙ ap symbol_in c.in-Pair.is in
    let before = pair_before T a c.requires.whose c.basis.ensures.shape (c.args.i - 1) (c.in-Pair.j - 1) (c.in-Pair.k - 1) within symbol in
    subst IsSound (sym (c.index-before-j.is ∙ c.requires.before.each (c.in-Pair.j - 1) before.0 c.index-before-j.result))
    (basis_sound T a c.requires.whose c.basis.ensures.shape (c.in-Pair.j - 1))

pub bracket-requires-clause-y : goal.bracket-requires-clause-y
bracket-requires-clause-y c =
    let T = c.args.table.now in
    let a = c.args.a.now in
    let within : c.args.i - 1 < length T.basis = (let l = c.requires.within.0 in let m = c.requires.within.1 in omega arith) in
    let symbol : (plain_basis T (c.args.i - 1)).symbol ≡ of_pair (c.in-Pair.j - 1) (c.in-Pair.k - 1) =
    ap (λ b. b.symbol) (sym c.basis.ensures.value) ∙ ap symbol_in c.in-Pair.is in
    let before = pair_before T a c.requires.whose c.basis.ensures.shape (c.args.i - 1) (c.in-Pair.j - 1) (c.in-Pair.k - 1) within symbol in
    subst IsSound (sym (c.index-before-k.is ∙ c.requires.before.each (c.in-Pair.k - 1) before.1 c.index-before-k.result))
    (basis_sound T a c.requires.whose c.basis.ensures.shape (c.in-Pair.k - 1))

pub returns-in-Gen : goal.returns-in-Gen
returns-in-Gen c =
    let T = c.args.table.now in
    let a = c.args.a.now in
    let within : c.args.i - 1 < length T.basis = (let l = c.requires.within.0 in let m = c.requires.within.1 in omega arith) in
    let symbol : (plain_basis T (c.args.i - 1)).symbol ≡ of_generator (c.in-Gen.g - 1) =
    ap (λ b. b.symbol) (sym c.basis.ensures.value) ∙ ap symbol_in c.in-Gen.is in
    let one = subst IsNumbered c.in-Gen.is c.basis.ensures.from_one in
    ok_more (λ (x : PlainMatrix). x ≡ c.matrix.result.now) (λ (x : PlainMatrix). x ≡ basis_matrix a T (c.args.i - 1)) c.copy.result
    (λ x e. e ∙ generator_matrix T a c.requires.whose c.basis.ensures.shape (c.args.i - 1) c.in-Gen.g c.matrix.result.now within symbol one c.matrix.ensures)
    c.copy.ensures

pub returns-in-Pair : goal.returns-in-Pair
returns-in-Pair c =
    let T = c.args.table.now in
    let a = c.args.a.now in
    let within : c.args.i - 1 < length T.basis = (let l = c.requires.within.0 in let m = c.requires.within.1 in omega arith) in
    let symbol : (plain_basis T (c.args.i - 1)).symbol ≡ of_pair (c.in-Pair.j - 1) (c.in-Pair.k - 1) =
    ap (λ b. b.symbol) (sym c.basis.ensures.value) ∙ ap symbol_in c.in-Pair.is in
    let before = pair_before T a c.requires.whose c.basis.ensures.shape (c.args.i - 1) (c.in-Pair.j - 1) (c.in-Pair.k - 1) within symbol in
    let x = c.index-before-j.result in
    let y = c.index-before-k.result in
    ok_more (λ (z : PlainMatrix). z ≡ bracket_of x y) (λ (z : PlainMatrix). z ≡ basis_matrix a T (c.args.i - 1)) c.bracket.result
    (λ z e.
    pair_matrix T a c.requires.whose c.basis.ensures.shape (c.args.i - 1) (c.in-Pair.j - 1) (c.in-Pair.k - 1) x y z within symbol
    (c.index-before-j.is ∙ c.requires.before.each (c.in-Pair.j - 1) before.0 x) (c.index-before-k.is ∙ c.requires.before.each (c.in-Pair.k - 1) before.1 y) e)
    c.bracket.ensures.value
