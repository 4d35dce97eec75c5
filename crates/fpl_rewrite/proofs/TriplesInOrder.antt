-- The triples in lexicographic order, from one on.
use Rattle.std.proofs.Common.{◌≡◌, ◌<◌, ◌≤◌, ◌+◌, ◌*◌, ℕ, suc, List, [], ◌∷◌, ◌++◌, length, cond, refl, sym, ap, ◌∙◌, ◌⊎◌, inl, inr, arith}
use Rattle.std.specs.Prelude.{nat_lt}
use Rattle.std.proofs.lemmas.Bool.Decides.{nat_tests}
use Rattle.fpl_log.specs.declared.step.Origin.{Origin}
use Rattle.fpl_table.specs.Plain.{PlainTable, plain_basis, through}
use Rattle.fpl_table.specs.Shape.{HasShape}
use Rattle.math_linear.specs.Lists.{joined}
use Rattle.fpl_rewrite.specs.Origins.{triples_of}
use Rattle.fpl_rewrite.specs.Triples.{from_to, triple_at, thirds_from, seconds_from, firsts_from}
use Rattle.fpl_rewrite.proofs.Onward.{below_or_not, from_to_step, from_to_end, from_to_skip, from_to_none, from_to_same, joined_is}
use Rattle.fpl_rewrite.proofs.Thirds.{triple_none, thirds_none, heavy_past}

when_below : {A : Type 0} (j n : ℕ) (xs : List A) → j < n → cond (nat_lt j n) xs [] ≡ xs
when_below j n xs lt = grind (arith, nat_tests)

when_not_below : {A : Type 0} (j n : ℕ) (xs : List A) → n ≤ j → cond (nat_lt j n) xs [] ≡ []
when_not_below j n xs le = grind (arith, nat_tests)

-- from the start of a run on, all later runs follow
run_all : {A : Type 0} (f : ℕ → List A) (j n : ℕ) → cond (nat_lt j n) (f j) [] ++ from_to f (j + 1) n ≡ from_to f j n
run_all f j n = by (below_or_not j n)
  where
    by : (j < n) ⊎ (n ≤ j) → cond (nat_lt j n) (f j) [] ++ from_to f (j + 1) n ≡ from_to f j n
    by (inl lt) = ap (λ u. u ++ from_to f (j + 1) n) (when_below j n (f j) lt) ∙ sym (from_to_step f j n lt)
    by (inr le) = ap (λ u. u ++ from_to f (j + 1) n) (when_not_below j n (f j) le) ∙ from_to_end f (j + 1) n (omega arith) ∙ sym (from_to_end f j n le)

pub seconds_all : (T : PlainTable) (i j : ℕ) → seconds_from T i j j ≡ from_to (λ later. thirds_from T i later later) j (length T.basis)
unfolding seconds_from
seconds_all T i j = run_all (λ later. thirds_from T i later later) j (length T.basis)

pub firsts_all : (T : PlainTable) (i : ℕ) → firsts_from T i i i ≡ from_to (λ later. seconds_from T later later later) i (length T.basis)
unfolding firsts_from
firsts_all T i = run_all (λ later. seconds_from T later later later) i (length T.basis)

pub seconds_found : (T : PlainTable) (i j k next : ℕ) (o : Origin) → j < length T.basis → thirds_from T i j k ≡ o ∷ thirds_from T i j next →
    seconds_from T i j k ≡ o ∷ seconds_from T i j next
unfolding seconds_from
seconds_found T i j k next o lt e =
    rw (when_below j (length T.basis) (thirds_from T i j k) lt, when_below j (length T.basis) (thirds_from T i j next) lt, e) refl

pub seconds_next : (T : PlainTable) (i j k : ℕ) → j < length T.basis → thirds_from T i j k ≡ [] → seconds_from T i j k ≡ seconds_from T i (j + 1) (j + 1)
unfolding seconds_from
seconds_next T i j k lt e =
    rw (when_below j (length T.basis) (thirds_from T i j k) lt, e) (sym (run_all (λ later. thirds_from T i later later) (j + 1) (length T.basis)))

pub firsts_found : (T : PlainTable) (i j k first second next : ℕ) (o : Origin) → first ≡ i → i < length T.basis →
    seconds_from T i j k ≡ o ∷ seconds_from T first second next →
    firsts_from T i j k ≡ o ∷ firsts_from T first second next
unfolding firsts_from
firsts_found T i j k first second next o same lt e =
    let found : seconds_from T i j k ≡ o ∷ seconds_from T i second next = e ∙ ap (λ f. o ∷ seconds_from T f second next) same in
    rw (same, when_below i (length T.basis) (seconds_from T i j k) lt, when_below i (length T.basis) (seconds_from T i second next) lt, found) refl

pub firsts_next : (T : PlainTable) (i j k : ℕ) → i < length T.basis → seconds_from T i j k ≡ [] → firsts_from T i j k ≡ firsts_from T (i + 1) (i + 1) (i + 1)
unfolding firsts_from
firsts_next T i j k lt e =
    rw (when_below i (length T.basis) (seconds_from T i j k) lt, e) (sym (run_all (λ later. seconds_from T later later later) (i + 1) (length T.basis)))

empty_run : {A : Type 0} (f : ℕ → List A) (xs : List A) (j n : ℕ) → (j < n → xs ≡ []) → ((x : ℕ) → j ≤ x → x < n → f x ≡ []) →
    cond (nat_lt j n) xs [] ++ from_to f (j + 1) n ≡ []
empty_run f xs j n here later = by (below_or_not j n)
  where
    by : (j < n) ⊎ (n ≤ j) → cond (nat_lt j n) xs [] ++ from_to f (j + 1) n ≡ []
    by (inl lt) = ap (λ u. u ++ from_to f (j + 1) n) (when_below j n xs lt ∙ here lt) ∙ from_to_none f (j + 1) n (λ x l m. later x (omega arith) m)
    by (inr le) = ap (λ u. u ++ from_to f (j + 1) n) (when_not_below j n xs le) ∙ from_to_end f (j + 1) n (omega arith)

-- the third is at least as heavy as the second, so this second is too heavy
too_heavy : (T : PlainTable) (i j k h : ℕ) → HasShape T → suc T.weight < (plain_basis T i).weight + 2 * (h + 1) → h < (plain_basis T j).weight →
    j ≤ k → thirds_from T i j k ≡ []
too_heavy T i j k h shape bound heavy le = thirds_none T i j k (λ x l m. let up = shape.ascend j x (omega arith) m in omega arith)

pub seconds_end : (T : PlainTable) (i j k h : ℕ) → HasShape T → suc T.weight < (plain_basis T i).weight + 2 * (h + 1) → through T h ≤ j → j ≤ k →
    seconds_from T i j k ≡ []
unfolding seconds_from
seconds_end T i j k h shape bound past le =
    empty_run (λ later. thirds_from T i later later) (thirds_from T i j k) j (length T.basis)
    (λ lt. too_heavy T i j k h shape bound (heavy_past T h j shape past lt) le)
    (λ x l m. too_heavy T i x x h shape bound (heavy_past T h x shape (omega arith) m) (omega arith))

-- the second is at least as heavy as the first
pub first_too_heavy : (T : PlainTable) (i j k h : ℕ) → HasShape T → suc T.weight < 3 * (h + 1) → through T h ≤ i → i < length T.basis → i ≤ j →
    j ≤ k → seconds_from T i j k ≡ []
first_too_heavy T i j k h shape bound past lt le m =
    let heavy = heavy_past T h i shape past lt in
    seconds_end T i j k h shape (omega arith) (omega arith) m

pub firsts_end : (T : PlainTable) (i j k h : ℕ) → HasShape T → suc T.weight < 3 * (h + 1) → through T h ≤ i → i ≤ j → j ≤ k → firsts_from T i j k ≡ []
unfolding firsts_from
firsts_end T i j k h shape bound past le m =
    empty_run (λ later. seconds_from T later later later) (seconds_from T i j k) i (length T.basis)
    (λ lt. first_too_heavy T i j k h shape bound past lt le m)
    (λ x l n. first_too_heavy T x x x h shape bound (omega arith) n (omega arith) (omega arith))

-- the thirds below a second, and the seconds below a first, are no triples
thirds_whole : (T : PlainTable) (i j : ℕ) → joined (length T.basis) (triple_at T i j) ≡ thirds_from T i j j
unfolding thirds_from
thirds_whole T i j =
    joined_is (triple_at T i j) (length T.basis)
    ∙ from_to_skip (triple_at T i j) 0 j (length T.basis) (omega arith) (λ x l m lt. triple_none T i j x (λ _ n _. omega arith))

no_thirds : (T : PlainTable) (i j : ℕ) → j < i → thirds_from T i j j ≡ []
unfolding thirds_from
no_thirds T i j lt = from_to_none (triple_at T i j) j (length T.basis) (λ x l m. triple_none T i j x (λ n _ _. omega arith))

seconds_whole : (T : PlainTable) (i : ℕ) → joined (length T.basis) (λ j. joined (length T.basis) (triple_at T i j)) ≡ seconds_from T i i i
seconds_whole T i =
    joined_is (λ j. joined (length T.basis) (triple_at T i j)) (length T.basis)
    ∙ from_to_same (λ j. joined (length T.basis) (triple_at T i j)) (λ j. thirds_from T i j j) 0 (length T.basis) (λ j l m. thirds_whole T i j)
    ∙ from_to_skip (λ j. thirds_from T i j j) 0 i (length T.basis) (omega arith) (λ j l m lt. no_thirds T i j m)
    ∙ sym (seconds_all T i i)

pub triples_are : (T : PlainTable) → triples_of T ≡ firsts_from T 0 0 0
triples_are T =
    joined_is (λ i. joined (length T.basis) (λ j. joined (length T.basis) (triple_at T i j))) (length T.basis)
    ∙ from_to_same (λ i. joined (length T.basis) (λ j. joined (length T.basis) (triple_at T i j))) (λ i. seconds_from T i i i) 0 (length T.basis)
    (λ i l m. seconds_whole T i)
    ∙ sym (firsts_all T 0)
