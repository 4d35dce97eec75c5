-- The places of the symbols of the next weight.
use Rattle.std.proofs.Common.{◌≡◌, ◌≤◌, ◌<◌, ◌+◌, ◌-◌, ◌++◌, inl, inr, ℕ, zero, suc, List, [], ◌∷◌, length, get_or, ap, sym, ◌∙◌, arith, append_assoc, append-nil, length-append}
use Rattle.fpl_numbers.specs.Kinds.{field_of}
use Rattle.math_algebra.specs.Table.{Symbol, of_generator, of_pair}
use Rattle.math_linear.specs.Lists.{joined}
use Rattle.math_algebra.specs.Symbols.{symbols, pairs_of, place_of, no_symbol, IsSymbol, is_generator, is_pair, symbols_of}
use Rattle.math_values.proofs.SymbolLists.{place_number, place_symbol}
use Rattle.fpl_table.specs.Plain.{PlainTable, plain_basis, generator_at, through, partner_from, table_in, shell_in, symbols_in}
use Rattle.fpl_table.specs.Shape.{HasShape, IsOfTable}
use Rattle.fpl_table.specs.Cells.{generator_cell, generator_cells, pair_cell, pair_cells, pairs_to}
use Rattle.fpl_table.proofs.Lists.{at_middle, nat_split}
use Rattle.fpl_table.proofs.Cells.{joined_ones, row_before, from_within, cell_within}
use Rattle.fpl_table.proofs.Weights.{through_within}
use Rattle.std.proofs.lemmas.Bool.Decides.{nat_tests}

-- a symbol that stands in the list, with what stands before it
pub record StandsAfter (T : PlainTable) (before : List Symbol) (x : Symbol) : Type 0 where
  pub after : List Symbol
  pub all : symbols_in T ≡ before ++ x ∷ after

module _ (T : PlainTable) (before : List Symbol) (x : Symbol) (at : StandsAfter T before x) where
  pub place_within : length before < length (symbols_in T)
  place_within = rw (at.all, length-append) (omega arith)

  pub symbol_here : get_or (symbols_in T) (length before) no_symbol ≡ x
  symbol_here = rw at.all (at_middle before x at.after no_symbol)

  pub place_here : place_of x (symbols_in T) ≡ length before
  place_here = ap (λ y. place_of y (symbols_in T)) (sym symbol_here) ∙ place_number (field_of T.kind) (shell_in T.kind T) (table_in T.kind T)
      (length before) place_within

pub joined_split : (f : ℕ → List Symbol) (n i : ℕ) → i < n → (tail : List Symbol) × (joined n f ≡ joined i f ++ (f i ++ tail))
unfolding joined
joined_split f zero i lt = absurd (omega (arith, lt))
joined_split f (suc n) i lt =
    elim (nat_split i n) [
      | inl below ↦ let r = joined_split f n i below in
          (r.0 ++ f n, rw r.1 (append_assoc (joined i f) (f i ++ r.0) (f n) ∙ ap (λ l. joined i f ++ l) (append_assoc (f i) r.0 (f n))))
      | inr above ↦ let same : n ≡ i = omega arith in ([], ap (λ k. joined k f ++ f k) same ∙ ap (λ l. joined i f ++ l) (sym (append-nil (f i))))
    ]

regroup : (a b c : List Symbol) (x : Symbol) (d e : List Symbol) → a ++ (b ++ ((c ++ x ∷ d) ++ e)) ≡ (a ++ (b ++ c)) ++ x ∷ (d ++ e)
regroup a b c x d e = simp append_assoc

module _ (T : PlainTable) where
  generator_stands : (g : ℕ) → g < length T.generators → (generator_at T g).weight ≡ suc T.weight →
      StandsAfter T (joined g (generator_cell T (suc T.weight))) (of_generator g)
  unfolding symbols symbols_of
  generator_stands g lt is =
      let r = joined_split (generator_cell T (suc T.weight)) (length T.generators) g lt in
      let one : generator_cell T (suc T.weight) g ≡ of_generator g ∷ [] = grind (arith, nat_tests) in
      record {
        after = r.0 ++ pairs_of (table_in T.kind T) (suc T.weight);
        all = ap (λ l. l ++ pairs_of (table_in T.kind T) (suc T.weight)) (r.1 ∙ ap (λ c. joined g (generator_cell T (suc T.weight)) ++ (c ++ r.0)) one)
            ∙ append_assoc (joined g (generator_cell T (suc T.weight))) (of_generator g ∷ r.0) (pairs_of (table_in T.kind T) (suc T.weight));
      }

  pub generator_within : (g : ℕ) → g < length T.generators → (generator_at T g).weight ≡ suc T.weight →
      length (joined g (generator_cell T (suc T.weight))) < length (symbols_in T)
  generator_within g lt is = place_within T _ _ (generator_stands g lt is)

  pub generator_place : (g : ℕ) → g < length T.generators → (generator_at T g).weight ≡ suc T.weight →
      place_of (of_generator g) (symbols_in T) ≡ length (joined g (generator_cell T (suc T.weight)))
  generator_place g lt is = place_here T _ _ (generator_stands g lt is)

module _ (T : PlainTable) (shape : HasShape T) (i : ℕ) (lti : i < length T.basis) where
  above : (plain_basis T i).weight < suc T.weight
  above = let h : (plain_basis T i).weight ≤ T.weight = shape.light i lti in omega arith

  module _ (j : ℕ) (from : partner_from T i (suc T.weight) ≤ j) (to : j < through T (suc T.weight - (plain_basis T i).weight)) where
    before : List Symbol
    before = generator_cells T (suc T.weight) ++ (pairs_to T (suc T.weight) i ++ joined j (pair_cell T (suc T.weight) i))

    pair_stands : StandsAfter T before (of_pair i j)
    unfolding symbols symbols_of before
    pair_stands =
        let within : through T (suc T.weight - (plain_basis T i).weight) ≤ length T.basis = through_within T shape (suc T.weight - (plain_basis T i).weight) in
        let r = joined_split (pair_cells T (suc T.weight)) (length T.basis) i lti in
        let q = joined_split (pair_cell T (suc T.weight) i) (length T.basis) j (omega arith) in
        let one : pair_cell T (suc T.weight) i j ≡ of_pair i j ∷ [] = cell_within T shape (suc T.weight) i lti above j from to in
        let row : pair_cells T (suc T.weight) i ≡ joined j (pair_cell T (suc T.weight) i) ++ of_pair i j ∷ q.0 =
        q.1 ∙ ap (λ c. joined j (pair_cell T (suc T.weight) i) ++ (c ++ q.0)) one in
        record {
          after = q.0 ++ r.0;
          all = ap (λ l. generator_cells T (suc T.weight) ++ l) (r.1 ∙ ap (λ c. pairs_to T (suc T.weight) i ++ (c ++ r.0)) row) ∙
              regroup (generator_cells T (suc T.weight)) (pairs_to T (suc T.weight) i) (joined j (pair_cell T (suc T.weight) i)) (of_pair i j) q.0 r.0;
        }

    length_before : length before ≡ length (generator_cells T (suc T.weight)) + length (pairs_to T (suc T.weight) i) + (j - partner_from T i (suc T.weight))
    unfolding before
    length_before =
        let none : joined (partner_from T i (suc T.weight)) (pair_cell T (suc T.weight) i) ≡ [] =
        row_before T shape (suc T.weight) i lti above (partner_from T i (suc T.weight)) (omega arith) (from_within T shape (suc T.weight) i lti above) in
        let same : partner_from T i (suc T.weight) + (j - partner_from T i (suc T.weight)) ≡ j = omega arith in
        let ones = joined_ones (pair_cell T (suc T.weight) i) (of_pair i) (partner_from T i (suc T.weight)) (j - partner_from T i (suc T.weight))
        (λ k above_from below. cell_within T shape (suc T.weight) i lti above k above_from (omega arith)) in
        let count = rw (same, none) at ones in
        rw (length-append, length-append) (omega (arith, count))

    pub pair_within : length (generator_cells T (suc T.weight)) + length (pairs_to T (suc T.weight) i) +
        (j - partner_from T i (suc T.weight)) < length (symbols_in T)
    pair_within = rw (← length_before) (place_within T _ _ pair_stands)

    pub pair_place : place_of (of_pair i j) (symbols_in T) ≡ length (generator_cells T (suc T.weight)) +
        length (pairs_to T (suc T.weight) i) + (j - partner_from T i (suc T.weight))
    pair_place = place_here T _ _ pair_stands ∙ length_before

of_table : (T : PlainTable) (x : Symbol) → IsSymbol (shell_in T.kind T) (table_in T.kind T) x → IsOfTable T x
of_table T _ (is_generator g lt e) = lt
of_table T _ (is_pair i j lti ltj e r) = (lti, ltj)

pub symbol_of_table : (T : PlainTable) (s : ℕ) → s < length (symbols_in T) → IsOfTable T (get_or (symbols_in T) s no_symbol)
symbol_of_table T s lt = of_table T _ (place_symbol (field_of T.kind) (shell_in T.kind T) (table_in T.kind T) s lt)
