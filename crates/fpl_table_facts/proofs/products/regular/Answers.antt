use Rattle.std.proofs.Common.{◌≡◌, ◌<◌, ◌+◌, ◌-◌, length, ap, ap₂, sym, subst, ◌∙◌, arith}
use Rattle.math_algebra.specs.Table.{of_pair}
use Rattle.math_algebra.specs.Symbols.{place_of}
use Rattle.fpl_table.specs.Plain.{plain_basis}
use Rattle.fpl_table_facts.proofs.Levels.{basis_length, basis_small, weight_positive}
use Rattle.fpl_table_facts.proofs.Listed.{level_symbols, pair_listed}
use Rattle.fpl_table_facts.proofs.products.regular.Goals as goal

pub basis-left-requires : goal.basis-left-requires
basis-left-requires c = let e = basis_length c.requires.known in (omega arith, omega (arith, e, c.requires.first))

pub basis-right-requires : goal.basis-right-requires
basis-right-requires c = let e = basis_length c.requires.known in (omega arith, omega (arith, e, c.requires.second))

pub overflow_add-j : goal.overflow_add-j
overflow_add-j c = let e = basis_small c.requires.known in omega (arith, e, c.requires.second)

pub overflow_add-j-2 : goal.overflow_add-j-2
overflow_add-j-2 c = let e = basis_small c.requires.known in omega (arith, e, c.requires.second)

pub symbol_form-requires-clause-weight : goal.symbol_form-requires-clause-weight
symbol_form-requires-clause-weight c =
    let T = c.args.known.now.table in
    let back-i : c.args.i + 1 - 1 ≡ c.args.i = omega arith in
    let back-j : c.args.j + 1 - 1 ≡ c.args.j = omega arith in
    let left : c.basis-left.result.weight ≡ (plain_basis T c.args.i).weight =
    ap (λ b. b.weight) (c.basis-left.ensures.value ∙ ap (plain_basis T) back-i) in
    let right : c.basis-right.result.weight ≡ (plain_basis T c.args.j).weight =
    ap (λ b. b.weight) (c.basis-right.ensures.value ∙ ap (plain_basis T) back-j) in
    let some = weight_positive c.requires.known c.args.i c.requires.first in
    let most = c.requires.weight in
    (omega (arith, left, some), omega (arith, left, right, most))

pub symbol_form-requires-clause-listed : goal.symbol_form-requires-clause-listed
symbol_form-requires-clause-listed c =
    let T = c.args.known.now.table in
    let i = c.args.i in
    let j = c.args.j in
    let back-i : i + 1 - 1 ≡ i = omega arith in
    let back-j : j + 1 - 1 ≡ j = omega arith in
    let w = c.basis-left.result.weight + c.basis-right.result.weight in
    let left : c.basis-left.result.weight ≡ (plain_basis T i).weight =
    ap (λ b. b.weight) (c.basis-left.ensures.value ∙ ap (plain_basis T) back-i) in
    let right : c.basis-right.result.weight ≡ (plain_basis T j).weight =
    ap (λ b. b.weight) (c.basis-right.ensures.value ∙ ap (plain_basis T) back-j) in
    let some = weight_positive c.requires.known i c.requires.first in
    let e = basis_length c.requires.known in
    let at = pair_listed T i j w (omega (arith, e, c.requires.first)) (omega (arith, e, c.requires.second)) (sym (ap₂ (λ a b. a + b) left right))
    (omega (arith, left, some)) c.requires.regular in
    subst (λ x. place_of x (level_symbols T w) < length (level_symbols T w)) (sym (ap₂ of_pair back-i back-j)) at
