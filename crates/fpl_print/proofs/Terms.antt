-- Lists of symbols that are filtered.
use Rattle.std.proofs.Common.{◌≡◌, ℕ, ◌+◌, ◌<◌, List, [], ◌∷◌, ◌++◌, Bool, length, drop, get_or, map, sym, ◌∙◌, append_assoc, add-one, drop-cons}
use Rattle.std.specs.Prelude.{filter}
use Rattle.std.proofs.lemmas.List.Elements.{filter-append}
use Rattle.math_algebra.specs.Table.{Symbol}
use Rattle.fpl_table.specs.declared.symbol.Symbol as code
use Rattle.fpl_table.specs.Plain.{symbol_in}

-- one more symbol of a list that is filtered
pub valued_step : (p : Symbol → Bool) (all out next : List Symbol) (xs : List code.Symbol) (i : ℕ) (x d : code.Symbol) → i < length xs →
    x ≡ get_or xs i d → next ≡ out ++ filter p (symbol_in x ∷ []) →
    all ≡ out ++ filter p (map symbol_in (drop i xs)) → all ≡ next ++ filter p (map symbol_in (drop (i + 1) xs))
valued_step p all out next xs i x d lt is more so_far =
    let here : drop i xs ≡ x ∷ drop (i + 1) xs = rw (is, add-one) (drop-cons xs i d lt) in
    let parts : all ≡ out ++ filter p ((symbol_in x ∷ []) ++ map symbol_in (drop (i + 1) xs)) = rw here at so_far in
    let split : all ≡ out ++ (filter p (symbol_in x ∷ []) ++ filter p (map symbol_in (drop (i + 1) xs))) = rw filter-append at parts in
    rw more (split ∙ sym (append_assoc out (filter p (symbol_in x ∷ [])) (filter p (map symbol_in (drop (i + 1) xs)))))
