use Rattle.std.proofs.Common.{◌≡◌, ◌<◌, length, get_or, refl, ap, sym, subst, ◌∙◌, arith}
use Rattle.std.proofs.lemmas.List.{map-append, take_more, length-map}
use Rattle.std.proofs.Math.ListN.{get_or-map}
use Rattle.math_algebra.specs.Symbols.{no_symbol}
use Rattle.fpl_table.specs.declared.symbol.Symbol.TheVariants.{Gen}
use Rattle.fpl_table.specs.Plain.{symbol_in, symbols_in, basis_in}
use Rattle.fpl_table.specs.Shape.{IsOfTable, IsNumbered, symbol_tree_in, basis_trees}
use Rattle.fpl_table.specs.Push.{basis_of, new_basis}
use Rattle.fpl_table.proofs.Lists.{all_push}
use Rattle.fpl_table.proofs.Places.{symbol_of_table}
use Rattle.fpl_table.proofs.table.Table.new_elements.Goals as goal

pub new_element-requires-clause-symbol : goal.new_element-requires-clause-symbol
new_element-requires-clause-symbol g c =
    let place : get_or c.args.free.now c.loop-t.t-index 0 < length (symbols_in c.args.self.now) = c.requires.places c.loop-t.t-index 0 c.loop-t-test.true in
    let here : symbol_in (get_or c.args.symbols.now (get_or c.args.free.now c.loop-t.t-index 0) (Gen 0)) ≡
    get_or (symbols_in c.args.self.now) (get_or c.args.free.now c.loop-t.t-index 0) no_symbol =
    sym (get_or-map symbol_in c.args.symbols.now (get_or c.args.free.now c.loop-t.t-index 0) (Gen 0)) ∙
    ap (λ l. get_or l (get_or c.args.free.now c.loop-t.t-index 0) no_symbol) c.requires.symbols in
    let many : length c.args.symbols.now ≡ length (symbols_in c.args.self.now) = sym (length-map c.args.symbols.now symbol_in) ∙
    ap length c.requires.symbols in (
      subst (IsOfTable c.args.self.now) (sym here) (symbol_of_table c.args.self.now (get_or c.args.free.now c.loop-t.t-index 0) place),
      c.requires.numbered (get_or c.args.free.now c.loop-t.t-index 0) (Gen 0) (omega (arith, place, many)),
    )

pub loop-t-preserved : goal.loop-t-preserved
loop-t-preserved g c =
    let place : get_or c.args.free.now c.loop-t.t-index 0 < length (symbols_in c.args.self.now) = c.requires.places c.loop-t.t-index 0 c.loop-t-test.true in
    let here : symbol_in (get_or c.args.symbols.now (get_or c.args.free.now c.loop-t.t-index 0) (Gen 0)) ≡
    get_or (symbols_in c.args.self.now) (get_or c.args.free.now c.loop-t.t-index 0) no_symbol =
    sym (get_or-map symbol_in c.args.symbols.now (get_or c.args.free.now c.loop-t.t-index 0) (Gen 0)) ∙
    ap (λ l. get_or l (get_or c.args.free.now c.loop-t.t-index 0) no_symbol) c.requires.symbols in
    let many : length c.args.symbols.now ≡ length (symbols_in c.args.self.now) = sym (length-map c.args.symbols.now symbol_in) ∙ ap length c.requires.symbols in
    let numbered : IsNumbered (get_or c.args.symbols.now (get_or c.args.free.now c.loop-t.t-index 0) (Gen 0)) =
    c.requires.numbered (get_or c.args.free.now c.loop-t.t-index 0) (Gen 0) (omega (arith, place, many)) in
    let more = take_more c.args.free.now c.loop-t.t-index 0 (omega arith) in
    let basis : basis_in c.in_ok-element.element.basis ≡ new_basis c.args.self.now (get_or c.args.free.now c.loop-t.t-index 0) =
    c.in_ok-element.ensures.basis ∙ ap (basis_of c.args.self.now) here in
    let tree = c.in_ok-element.ensures.tree ∙ ap (symbol_tree_in (basis_trees c.args.self.now)) here in
    record {
      basis = rw (c.in_ok-push.ensures.items, map-append, c.loop-t.invariant.basis, basis, more, map-append) refl;
      trees = rw (c.in_ok-push.ensures.items, map-append, c.loop-t.invariant.trees, tree, more, map-append) refl;
      numbered = rw (c.in_ok-push.ensures.items, map-append) (all_push IsNumbered _ _ c.loop-t.invariant.numbered (rw c.in_ok-element.ensures.symbol numbered));
    }
