use Rattle.std.proofs.Common.{◌≡◌, ◌<◌, ◌-◌, length, get_or, refl, ap, sym, subst, ◌∙◌, arith}
use Rattle.std.proofs.lemmas.Option.{slice_get_read}
use Rattle.math_algebra.specs.Symbols.{place_of, no_symbol}
use Rattle.fpl_table.specs.Plain.{symbol_in}
use Rattle.fpl_table_facts.specs.Known.{IsFormOf, symbol_expr}
use Rattle.fpl_table_facts.proofs.Levels.{level_at, same_form}
use Rattle.fpl_table_facts.proofs.Listed.{level_symbols, symbol_there}
use Rattle.fpl_table_facts.proofs.known.symbol_form.Goals as goal

pub index-requires : goal.index-requires
index-requires c =
    let l = c.index-level.result.now in
    let h = level_at c.requires.known c.args.w l c.requires.weight.0 c.requires.weight.1 c.index-level.ensures in
    let n = c.in-Some.ensures in
    let count = h.count in
    let len = l.values.ok.0 in
    omega (arith, count, n.0, n.1, len)

pub unreachable-requires : goal.unreachable-requires
unreachable-requires c =
    let l = c.index-level.result.now in
    let h = level_at c.requires.known c.args.w l c.requires.weight.0 c.requires.weight.1 c.index-level.ensures in
    let n : place_of (symbol_in c.args.x) (level_symbols c.args.known.now.table c.args.w) ≡ length (level_symbols c.args.known.now.table c.args.w) =
    subst (λ xs. place_of (symbol_in c.args.x) xs ≡ length xs) h.symbols c.in-None.ensures in
    omega (arith, n, c.requires.listed)

pub returns : goal.returns
returns c =
    let k = c.args.known.now in
    let l = c.index-level.result.now in
    let h = level_at c.requires.known c.args.w l c.requires.weight.0 c.requires.weight.1 c.index-level.ensures in
    let n = c.in-Some.ensures in
    let xs = l.symbols.symbols in
    let x = symbol_in c.args.x in
    let f = c.index.result.now in
    let s = c.in-Some.s in
    let count = h.count in
    let lt : s - 1 < length l.values.items = omega (arith, count, n.0, n.1) in
    let within : place_of x xs < length xs = omega (arith, n.0, n.1, n.2) in
    let there : get_or xs (s - 1) no_symbol ≡ x = ap (λ i. get_or xs i no_symbol) (sym n.2) ∙ symbol_there x xs within in
    same_form c.in_ok-value-in-Some.ensures.line c.in_ok-value-in-Some.ensures.terms
    (subst (λ y. IsFormOf c.args.ledger.now k.basis.items (symbol_expr k.basis.items y) f) there
    (h.values (s - 1) f (slice_get_read l.values.items (length l.values.items) (s - 1) f refl lt c.index.ensures)))
