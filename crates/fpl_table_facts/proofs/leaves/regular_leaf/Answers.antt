use Rattle.std.proofs.Common.{◌≡◌, ◌+◌, ◌-◌, ◌<◌, length, subst, arith}
use Rattle.math_algebra.specs.Table.{of_pair}
use Rattle.math_algebra.specs.Symbols.{place_of}
use Rattle.fpl_table.specs.Plain.{symbols_in}
use Rattle.fpl_table_facts.proofs.Grown.{grows_known}
use Rattle.fpl_table_facts.proofs.Levels.{basis_length}
use Rattle.fpl_table_facts.proofs.LeafRows.{pair_next, regular_row}
use Rattle.fpl_table_facts.proofs.leaves.regular_leaf.Goals as goal

pub symbol_once-requires-clause-listed : goal.symbol_once-requires-clause-listed
symbol_once-requires-clause-listed c =
    let T = c.args.known.now.table in
    let i = c.args.i in
    let j = c.args.j in
    let long = basis_length c.requires.known in
    let a : i ≡ i + 1 - 1 = omega arith in
    let b : j ≡ j + 1 - 1 = omega arith in
    let first = c.requires.first in
    let second = c.requires.second in
    subst (λ a. place_of (of_pair a (j + 1 - 1)) (symbols_in T) < length (symbols_in T)) a
    (subst (λ b. place_of (of_pair i b) (symbols_in T) < length (symbols_in T)) b
    (pair_next T i j (omega (arith, first, long)) (omega (arith, second, long)) c.requires.weight c.requires.regular))

pub returns-clause-row : goal.returns-clause-row
returns-clause-row c =
    regular_row c.symbol_once.new.ledger c.args.known.now c.args.next.now (grows_known c.in_ok-row.ensures.grows c.requires.known).holds c.args.i c.args.j
    c.requires.weight c.requires.regular (c.args.i + 1 - 1) (c.args.j + 1 - 1) (omega arith) (omega arith) c.in_ok-row.row c.in_ok-row.ensures.row
