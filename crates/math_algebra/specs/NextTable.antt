-- The next table as a function of the closed rows.
--
--   is_pivot                whether a place is one of the first n pivots
--   free_places             the places below m that are no pivot, ascending
--   new_basis               the basis element of the symbol at a place
--   free_list, means_next   the places of the new basis elements, and what a vector over symbols means
--   next_table              the table with one weight more
use Rattle.std.specs.Prelude.{ℕ, zero, suc, List, [], ◌∷◌, ◌++◌, map, ◌+◌, length, get_or, Bool, true, false, cond, nat_le, nat_eq}
use Rattle.math_fields.specs.Field.{Field}
use Rattle.math_linear.specs.Vector.{Vector, vzero, place}
use Rattle.math_algebra.specs.Tree.{Presentation, generator}
use Rattle.math_algebra.specs.Table.{Table, Basis, weight_at}
use Rattle.math_algebra.specs.Symbols.{symbols, symbol_at, pair_number, generator_number, symbol_parity}
use Rattle.math_algebra.specs.Built.{slot_of, meaning_of}

unfoldable pub is_pivot : ℕ → (ℕ → ℕ) → ℕ → Bool
is_pivot zero pivot s = false
is_pivot (suc n) pivot s = cond (nat_eq (pivot n) s) true (is_pivot n pivot s)

unfoldable pub free_places : ℕ → ℕ → (ℕ → ℕ) → List ℕ
free_places zero n pivot = []
free_places (suc m) n pivot = cond (is_pivot n pivot m) (free_places m n pivot) (free_places m n pivot ++ m ∷ [])

abbrev pub new_basis : {K : Field} → Presentation K.Carrier → Table K → ℕ → Basis
new_basis P T s = record { weight = suc T.weight; parity = symbol_parity P T (symbol_at P T s); symbol = symbol_at P T s }

module _ (K : Field) (P : Presentation K.Carrier) (T : Table K) (n : ℕ) (row : ℕ → Vector K) (pivot : ℕ → ℕ) where
  abbrev pub free_list : List ℕ
  free_list = free_places (length (symbols P T)) n pivot

  abbrev pub means_next : Vector K → Vector K
  means_next = meaning_of K (slot_of (length T.basis) (length (free_places (length (symbols P T)) n pivot))
      (λ i. get_or (free_places (length (symbols P T)) n pivot) i 0)) n row pivot

  unfoldable pub next_table : Table K
  next_table = record {
    weight = suc T.weight;
    basis = T.basis ++ map (new_basis P T) (free_places (length (symbols P T)) n pivot);
    image = λ g.
        cond (nat_le (generator P g).weight T.weight) (T.image g)
        (cond (nat_eq (generator P g).weight (suc T.weight)) (means_next (place K (generator_number P T g))) (vzero K));
    entry = λ i j. cond (nat_le (weight_at T i + weight_at T j) T.weight) (T.entry i j) (means_next (place K (pair_number P T i j)));
  }
