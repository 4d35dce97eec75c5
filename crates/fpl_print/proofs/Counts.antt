-- How many basis elements of a weight there are, from those of all weights through it.
use Rattle.std.proofs.Common.{◌≡◌, ℕ, zero, suc, ◌+◌, ◌-◌, ◌<◌, ◌≤◌, List, [], ◌∷◌, Bool, true, false, cond, ◌&&◌, length, take, get_or, refl, ap, arith, nat_eq}
use Rattle.std.specs.Prelude.{count_by}
use Rattle.std.proofs.lemmas.Bool.Decides.{nat_tests}
use Rattle.std.proofs.lemmas.List.Sums.{sum_by-cons}
use Rattle.math_algebra.specs.Symbols.{is_odd}
use Rattle.math_algebra.specs.Table.{Basis, no_basis}
use Rattle.fpl_table.specs.Plain.{PlainTable, plain_basis, through}
use Rattle.fpl_table.specs.Shape.{HasShape}
use Rattle.fpl_table.proofs.Weights.{through_within, through_below, through_above}

-- q holds nowhere before place m and nowhere from place n on, and between them where p does
pub counted_between : {X : Type 0} (p q : X → Bool) (xs : List X) (m n : ℕ) (d : X) → m ≤ n → n ≤ length xs → ((i : ℕ) → i < m → q (get_or xs i d) ≡ false)
    → ((i : ℕ) → m ≤ i → i < n → q (get_or xs i d) ≡ p (get_or xs i d)) → ((i : ℕ) → n ≤ i → i < length xs → q (get_or xs i d) ≡ false)
    → count_by p (take n xs) ≡ count_by p (take m xs) + count_by q xs
counted_between p q [] zero zero d l k below here above = refl
counted_between p q [] zero (suc n) d l k below here above = absurd (omega arith)
counted_between p q [] (suc m) n d l k below here above = absurd (omega arith)
counted_between p q (x ∷ xs) zero zero d l k below here above =
    let no : q x ≡ false = above 0 (omega arith) (omega arith) in
    let rest : count_by p (take 0 xs) ≡ count_by p (take 0 xs) + count_by q xs = counted_between p q xs 0 0 d (omega arith) (omega arith)
    (λ i h. absurd (omega arith)) (λ i h j. absurd (omega arith)) (λ i h j. above (suc i) (omega arith) (omega arith)) in
    let one : count_by q (x ∷ xs) ≡ cond {A = ℕ} (q x) 1 0 + count_by q xs = sum_by-cons (λ y. cond {A = ℕ} (q y) 1 0) x xs in
    let none : cond {A = ℕ} (q x) 1 0 ≡ 0 = ap (λ b. cond {A = ℕ} b 1 0) no in
    omega (arith, one, none, rest)
counted_between p q (x ∷ xs) zero (suc n) d l k below here above =
    let same : q x ≡ p x = here 0 (omega arith) (omega arith) in
    let rest : count_by p (take n xs) ≡ count_by p (take 0 xs) + count_by q xs = counted_between p q xs 0 n d (omega arith) (omega arith)
    (λ i h. absurd (omega arith)) (λ i h j. here (suc i) (omega arith) (omega arith)) (λ i h j. above (suc i) (omega arith) (omega arith)) in
    let empty : count_by p (take 0 xs) ≡ 0 = refl in
    let nothing : count_by p (take 0 (x ∷ xs)) ≡ 0 = refl in
    let left : count_by p (take (suc n) (x ∷ xs)) ≡ cond {A = ℕ} (p x) 1 0 + count_by p (take n xs) = sum_by-cons (λ y. cond {A = ℕ} (p y) 1 0) x (take n xs) in
    let right : count_by q (x ∷ xs) ≡ cond {A = ℕ} (q x) 1 0 + count_by q xs = sum_by-cons (λ y. cond {A = ℕ} (q y) 1 0) x xs in
    let both : cond {A = ℕ} (q x) 1 0 ≡ cond {A = ℕ} (p x) 1 0 = ap (λ b. cond {A = ℕ} b 1 0) same in
    omega (arith, empty, nothing, left, right, both, rest)
counted_between p q (x ∷ xs) (suc m) zero d l k below here above = absurd (omega arith)
counted_between p q (x ∷ xs) (suc m) (suc n) d l k below here above =
    let no : q x ≡ false = below 0 (omega arith) in
    let rest : count_by p (take n xs) ≡ count_by p (take m xs) + count_by q xs = counted_between p q xs m n d (omega arith) (omega arith)
    (λ i h. below (suc i) (omega arith)) (λ i h j. here (suc i) (omega arith) (omega arith)) (λ i h j. above (suc i) (omega arith) (omega arith)) in
    let left : count_by p (take (suc n) (x ∷ xs)) ≡ cond {A = ℕ} (p x) 1 0 + count_by p (take n xs) = sum_by-cons (λ y. cond {A = ℕ} (p y) 1 0) x (take n xs) in
    let right : count_by p (take (suc m) (x ∷ xs)) ≡ cond {A = ℕ} (p x) 1 0 + count_by p (take m xs) =
    sum_by-cons (λ y. cond {A = ℕ} (p y) 1 0) x (take m xs) in
    let one : count_by q (x ∷ xs) ≡ cond {A = ℕ} (q x) 1 0 + count_by q xs = sum_by-cons (λ y. cond {A = ℕ} (q y) 1 0) x xs in
    let none : cond {A = ℕ} (q x) 1 0 ≡ 0 = ap (λ b. cond {A = ℕ} b 1 0) no in
    omega (arith, left, right, one, none, rest)

module _ (T : PlainTable) (shape : HasShape T) (s : Bool → Bool) where
  -- whether a basis element of weight w has a parity
  abbrev weighs : ℕ → Basis → Bool
  weighs w b = nat_eq b.weight w && s (is_odd b.parity)

  lighter : (v i : ℕ) → i < through T v → weighs (suc v) (plain_basis T i) ≡ false
  lighter v i lt =
      let few : (plain_basis T i).weight ≤ v = through_below T shape v i lt in
      let no : nat_eq (plain_basis T i).weight (suc v) ≡ false = grind (arith, nat_tests, few) in
      ap (λ b. b && s (is_odd (plain_basis T i).parity)) no

  heavier : (v i : ℕ) → through T (suc v) ≤ i → i < length T.basis → weighs (suc v) (plain_basis T i) ≡ false
  heavier v i le lt =
      let more : (plain_basis T i).weight ≤ suc v → i < through T (suc v) = through_above T shape (suc v) i lt in
      let no : nat_eq (plain_basis T i).weight (suc v) ≡ false = grind (arith, nat_tests) in
      ap (λ b. b && s (is_odd (plain_basis T i).parity)) no

  between : (v i : ℕ) → through T v ≤ i → i < through T (suc v) → weighs (suc v) (plain_basis T i) ≡ s (is_odd (plain_basis T i).parity)
  between v i le lt =
      let few : (plain_basis T i).weight ≤ suc v = through_below T shape (suc v) i lt in
      let within : through T (suc v) ≤ length T.basis = through_within T shape (suc v) in
      let more : (plain_basis T i).weight ≤ v → i < through T v = through_above T shape v i (omega arith) in
      let yes : nat_eq (plain_basis T i).weight (suc v) ≡ true = grind (arith, nat_tests) in
      ap (λ b. b && s (is_odd (plain_basis T i).parity)) yes

  pub through_up : (v : ℕ) → through T v ≤ through T (suc v)
  through_up v =
      let within : through T v ≤ length T.basis = through_within T shape v in
      let more : (i : ℕ) → i < through T v → i < through T (suc v) = λ i lt. let few : (plain_basis T i).weight ≤ v = through_below T shape v i lt in
      through_above T shape (suc v) i (omega arith) (omega arith) in
      le_from_below (through T v) (through T (suc v)) more
    where
      le_from_below : (m n : ℕ) → ((i : ℕ) → i < m → i < n) → m ≤ n
      le_from_below zero n h = omega arith
      le_from_below (suc m) n h = let l : m < n = h m (omega arith) in omega arith

  pub counted_of : (v : ℕ) → count_by (λ b. s (is_odd b.parity)) (take (through T (suc v)) T.basis) ≡
      count_by (λ b. s (is_odd b.parity)) (take (through T v) T.basis) + count_by (weighs (suc v)) T.basis
  counted_of v = counted_between (λ b. s (is_odd b.parity)) (weighs (suc v)) T.basis (through T v) (through T (suc v)) no_basis (through_up v)
      (through_within T shape (suc v)) (lighter v) (between v) (heavier v)
