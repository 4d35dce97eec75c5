use Rattle.std.proofs.Common.{◌≡◌, ◌≤◌, ◌+◌, ℕ, suc, sym, ap, subst, arith, length, map, ◌∙◌}
use Rattle.math_algebra.specs.Symbols.{symbols_of}
use Rattle.fpl_table.specs.Plain.{PlainTable, table_in, shell_in}
use Rattle.fpl_table.proofs.Pushed.{symbols_next}
use Rattle.fpl_table_facts.specs.Known.{symbol_expr}
use Rattle.fpl_table_facts.proofs.Nexts.{basis_size, next_before, is_next}
use Rattle.fpl_table_facts.proofs.next.next_of.Goals as goal

pub symbols-requires-clause-few : goal.symbols-requires-clause-few
symbols-requires-clause-few c =
    let T = c.args.known.now.table in
    let w : suc T.weight ≡ c.weight.result + 1 = (let e = c.weight.ensures.value in omega (arith, e)) in
    subst (λ (w : ℕ). length (symbols_of (shell_in T.kind T) (table_in T.kind T) w) ≤ 2000000) w
    (subst (λ xs. length xs ≤ 2000000) (sym (symbols_next T)) c.requires.few)

named : (w : ℕ) (T : PlainTable) → w ≡ T.weight → w + 1 ≡ T.weight + 1
named w T e = omega (arith, e)

pub symbol_trees-requires : goal.symbol_trees-requires
symbol_trees-requires c =
    let k = c.args.known.now in
    next_before k.table c.in_ok-symbols.symbols.symbols (length c.deref.result.now) (c.in_ok-symbols.ensures.next (named c.weight.result k.table c.weight.ensures.value))
    (ap length c.deref.ensures.value ∙ basis_size c.requires.known.0 k c.requires.known.1)

pub returns : goal.returns
returns c =
    let k = c.args.known.now in
    record {
      next = λ L h.
          is_next L k (record { symbols = c.in_ok-symbols.symbols; trees = c.in_ok-trees.trees })
          (c.in_ok-symbols.ensures.value.0 ∙ (let e = c.weight.ensures.value in omega (arith, e)))
          (c.in_ok-symbols.ensures.next (named c.weight.result k.table c.weight.ensures.value))
          (c.in_ok-trees.ensures ∙ ap (λ es. map (symbol_expr es) c.in_ok-symbols.symbols.symbols) c.deref.ensures.value) h;
    }
