-- The symbols of a weight, cell by cell.
use Rattle.std.proofs.Common.{◌≡◌, ◌≢◌, ◌≤◌, ◌<◌, ◌+◌, ◌-◌, ◌++◌, ◌⊎◌, inl, inr, ℕ, zero, suc, List, [], ◌∷◌, length, map, get_or, cond, Bool, true, false, refl, ap, sym, ◌∙◌, arith, append-nil, length-append, add-suc, add-one}
use Rattle.std.proofs.lemmas.Bool.Decides.{nat_tests}
use Rattle.math_algebra.specs.Table.{Symbol, of_generator, of_pair}
use Rattle.math_linear.specs.Lists.{joined}
use Rattle.math_algebra.specs.Symbols.{is_odd, symbols_of}
use Rattle.math_algebra.specs.Tree.{no_generator}
use Rattle.fpl_table.specs.declared.shape.Shape.{Shape}
use Rattle.fpl_table.specs.Whole.{shape_in}
use Rattle.fpl_table.proofs.Lists.{map_at, nat_split}
use Rattle.fpl_table.specs.Plain.{PlainTable, through, first_partner, partner_from, plain_basis, generator_at, table_in, shell_in}
use Rattle.fpl_table.specs.Shape.{HasShape}
use Rattle.fpl_table.specs.Cells.{generator_cell, generator_cells, pair_cell, pair_cells, pairs_to}
use Rattle.fpl_table.proofs.Weights.{through_below, through_above, through_within}

-- lists joined one after the other
pub joined_one : (n : ℕ) (f : ℕ → List Symbol) → joined (n + 1) f ≡ joined n f ++ f n
unfolding joined
joined_one n f = rw add-one refl

pub joined_skip : (f : ℕ → List Symbol) (a k : ℕ) → ((j : ℕ) → a ≤ j → j < a + k → f j ≡ []) → joined (a + k) f ≡ joined a f
unfolding joined
joined_skip f a zero none = let same : a + 0 ≡ a = omega arith in ap (λ n. joined n f) same
joined_skip f a (suc k) none =
    rw (add-suc, none (a + k) (omega arith) (omega arith), append-nil)
    (joined_skip f a k (λ j from below. none j from (omega (arith, below))))

pub joined_none : (f : ℕ → List Symbol) (n : ℕ) → ((j : ℕ) → j < n → f j ≡ []) → joined n f ≡ []
unfolding joined
joined_none f zero none = refl
joined_none f (suc n) none = rw (none n (omega arith), append-nil) (joined_none f n (λ j below. none j (omega (arith, below))))

pub joined_ones : (f : ℕ → List Symbol) (x : ℕ → Symbol) (a k : ℕ) → ((j : ℕ) → a ≤ j → j < a + k → f j ≡ x j ∷ []) →
    length (joined (a + k) f) ≡ length (joined a f) + k
unfolding joined
joined_ones f x a zero ones =
    let same : a + 0 ≡ a = omega arith in
    let h : length (joined (a + 0) f) ≡ length (joined a f) = ap (λ n. length (joined n f)) same in
    omega arith
joined_ones f x a (suc k) ones =
    let h : length (joined (a + k) f) ≡ length (joined a f) + k = joined_ones f x a k (λ j from below. ones j from (omega (arith, below))) in
    rw (add-suc, ones (a + k) (omega arith) (omega arith), length-append) (omega arith)

pub generator_weight : (T : PlainTable) (shapes : List Shape) → map shape_in shapes ≡ T.generators → (g : ℕ) (x : Shape) → g < length shapes →
    x ≡ get_or shapes g x → (generator_at T g).weight ≡ x.weight
generator_weight T shapes is g x lt here = rw (← is) (ap (λ s. s.weight) (map_at shape_in shapes g no_generator x lt here))

module _ (T : PlainTable) (w g : ℕ) where
  pub generator_yes : (generator_at T g).weight ≡ w → joined (g + 1) (generator_cell T w) ≡ joined g (generator_cell T w) ++ of_generator g ∷ []
  generator_yes is = joined_one g (generator_cell T w) ∙ ap (λ c. joined g (generator_cell T w) ++ c) (grind (arith, nat_tests))

  pub generator_no : (generator_at T g).weight ≢ w → joined (g + 1) (generator_cell T w) ≡ joined g (generator_cell T w)
  generator_no not = joined_one g (generator_cell T w) ∙ ap (λ c. joined g (generator_cell T w) ++ c) (grind (arith, nat_tests)) ∙
      append-nil (joined g (generator_cell T w))

first_small : (b : Bool) (i n : ℕ) → i < n → cond b i (i + 1) ≤ n
first_small true i n lt = omega arith
first_small false i n lt = omega arith

module _ (T : PlainTable) (shape : HasShape T) (w i : ℕ) (lti : i < length T.basis) (above : (plain_basis T i).weight < w) where
  cell_regular : (j : ℕ) → (plain_basis T i).weight + (plain_basis T j).weight ≡ w → first_partner T i ≤ j → pair_cell T w i j ≡ of_pair i j ∷ []
  cell_regular j is from = grind (arith, nat_tests)

  cell_irregular : (j : ℕ) → j < first_partner T i → pair_cell T w i j ≡ []
  cell_irregular j below = grind (arith, nat_tests)

  cell_other : (j : ℕ) → (plain_basis T i).weight + (plain_basis T j).weight ≢ w → pair_cell T w i j ≡ []
  cell_other j not = grind (arith, nat_tests)

  pub before_other : (j : ℕ) → j < length T.basis → j < partner_from T i w → (j < first_partner T i) ⊎ ((plain_basis T i).weight + (plain_basis T j).weight ≢ w)
  before_other j ltj below =
      elim (nat_split j (first_partner T i)) [
        | inl small ↦ inl small
        | inr large ↦ inr (λ is. let h : (plain_basis T j).weight ≤ w - (plain_basis T i).weight - 1 =
            through_below T shape (w - (plain_basis T i).weight - 1) j (omega arith) in omega arith)
      ]

  pub after_other : (j : ℕ) → j < length T.basis → through T (w - (plain_basis T i).weight) ≤ j → (plain_basis T i).weight + (plain_basis T j).weight ≢ w
  after_other j ltj from is = let h : j < through T (w - (plain_basis T i).weight) = through_above T shape (w - (plain_basis T i).weight) j ltj
      (omega arith) in omega arith

  pub within_is : (j : ℕ) → partner_from T i w ≤ j → j < through T (w - (plain_basis T i).weight) → (plain_basis T i).weight + (plain_basis T j).weight ≡ w
  within_is j from below =
      let in_all : through T (w - (plain_basis T i).weight) ≤ length T.basis = through_within T shape (w - (plain_basis T i).weight) in
      let light : (plain_basis T j).weight ≤ w - (plain_basis T i).weight = through_below T shape (w - (plain_basis T i).weight) j below in
      let heavy : (plain_basis T j).weight ≤ w - (plain_basis T i).weight - 1 → j < through T (w - (plain_basis T i).weight - 1) =
      through_above T shape (w - (plain_basis T i).weight - 1) j (omega arith) in
      grind arith

  cell_before : (j : ℕ) → j < length T.basis → j < partner_from T i w → pair_cell T w i j ≡ []
  cell_before j ltj below = elim (before_other j ltj below) [ inl small ↦ cell_irregular j small | inr not ↦ cell_other j not ]

  cell_after : (j : ℕ) → j < length T.basis → through T (w - (plain_basis T i).weight) ≤ j → pair_cell T w i j ≡ []
  cell_after j ltj from = cell_other j (after_other j ltj from)

  pub cell_within : (j : ℕ) → partner_from T i w ≤ j → j < through T (w - (plain_basis T i).weight) → pair_cell T w i j ≡ of_pair i j ∷ []
  cell_within j from below = cell_regular j (within_is j from below) (omega arith)

  pub from_within : partner_from T i w ≤ length T.basis
  from_within =
      let first : first_partner T i ≤ length T.basis = first_small (is_odd (plain_basis T i).parity) i (length T.basis) lti in
      let rest : through T (w - (plain_basis T i).weight - 1) ≤ length T.basis = through_within T shape (w - (plain_basis T i).weight - 1) in
      omega arith

  -- the pairs of b_i up to place j, where partners begin at from
  pub row_before : (j : ℕ) → j ≤ partner_from T i w → j ≤ length T.basis → joined j (pair_cell T w i) ≡ []
  row_before j le within = joined_none (pair_cell T w i) j (λ k below. cell_before k (omega arith) (omega arith))

  pub row_after : (j : ℕ) → through T (w - (plain_basis T i).weight) ≤ j → j ≤ length T.basis → pair_cells T w i ≡ joined j (pair_cell T w i)
  row_after j le within =
      let same : j + (length T.basis - j) ≡ length T.basis = omega arith in
      rw (← same) (joined_skip (pair_cell T w i) j (length T.basis - j) (λ k from below. cell_after k (omega arith) (omega arith)))

  pub row_more : (j : ℕ) → partner_from T i w ≤ j → j < through T (w - (plain_basis T i).weight) →
      joined (j + 1) (pair_cell T w i) ≡ joined j (pair_cell T w i) ++ of_pair i j ∷ []
  row_more j from below = joined_one j (pair_cell T w i) ∙ ap (λ c. joined j (pair_cell T w i) ++ c) (cell_within j from below)

  -- how many pairs of weight w there are with b_i first
  pub row_length : length (pair_cells T w i) ≡ through T (w - (plain_basis T i).weight) - partner_from T i w
  row_length =
      let to_all : through T (w - (plain_basis T i).weight) ≤ length T.basis = through_within T shape (w - (plain_basis T i).weight) in
      elim (nat_split (partner_from T i w) (through T (w - (plain_basis T i).weight))) [
        | inl few ↦
            let same : partner_from T i w + (through T (w - (plain_basis T i).weight) - partner_from T i w) ≡
            through T (w - (plain_basis T i).weight) = omega arith in
            let all : pair_cells T w i ≡ joined (through T (w - (plain_basis T i).weight)) (pair_cell T w i) =
            row_after (through T (w - (plain_basis T i).weight)) (omega arith) to_all in
            let ones = joined_ones (pair_cell T w i) (of_pair i) (partner_from T i w) (through T (w - (plain_basis T i).weight) - partner_from T i w)
            (λ j from below. cell_within j from (omega arith)) in
            let none : joined (partner_from T i w) (pair_cell T w i) ≡ [] = row_before (partner_from T i w) (omega arith) (omega arith) in
            let count = rw (same, none) at ones in
            rw all (count ∙ omega arith)
        | inr none ↦
            let all : pair_cells T w i ≡ joined (through T (w - (plain_basis T i).weight)) (pair_cell T w i) =
            row_after (through T (w - (plain_basis T i).weight)) (omega arith) to_all in
            let empty : joined (through T (w - (plain_basis T i).weight)) (pair_cell T w i) ≡ [] =
            row_before (through T (w - (plain_basis T i).weight)) none to_all in
            rw (all, empty) (omega arith)
      ]

-- a basis element of weight w or more has no pair of weight w
pub row_above : (T : PlainTable) → HasShape T → (w i : ℕ) → i < length T.basis → w ≤ (plain_basis T i).weight → pair_cells T w i ≡ []
row_above T shape w i lti above =
    joined_none (pair_cell T w i) (length T.basis) (λ j ltj. let h : 1 ≤ (plain_basis T j).weight = shape.heavy j ltj in grind (arith, nat_tests))

module _ (T : PlainTable) (shape : HasShape T) (w : ℕ) where
  pub pairs_first : pairs_to T w 0 ≡ []
  pairs_first = joined_none (pair_cells T w) 0 (λ j below. absurd (omega (arith, below)))

  pub pairs_more : (i : ℕ) → pairs_to T w (i + 1) ≡ pairs_to T w i ++ pair_cells T w i
  pairs_more i = joined_one i (pair_cells T w)

  pub pairs_last : (i : ℕ) → through T (w - 1) ≤ i → i ≤ length T.basis → 1 ≤ w → symbols_of (shell_in T.kind T) (table_in T.kind T) w ≡
      generator_cells T w ++ pairs_to T w i
  unfolding symbols_of
  pairs_last i from le positive =
      let same : i + (length T.basis - i) ≡ length T.basis = omega arith in
      ap (λ all. generator_cells T w ++ all)
      (ap (λ n. joined n (pair_cells T w)) (sym same) ∙ joined_skip (pair_cells T w) i (length T.basis - i)
      (λ k above below. let lt : k < length T.basis = omega arith in
      row_above T shape w k lt (let h : (plain_basis T k).weight ≤ w - 1 → k < through T (w - 1) = through_above T shape (w - 1) k lt in grind arith)))

  pub symbols_none : w ≡ 0 → symbols_of (shell_in T.kind T) (table_in T.kind T) w ≡ generator_cells T w
  unfolding symbols_of
  symbols_none is =
      ap (λ all. generator_cells T w ++ all) (joined_none (pair_cells T w) (length T.basis) (λ i lt. row_above T shape w i lt (omega arith)))
      ∙ append-nil (generator_cells T w)
