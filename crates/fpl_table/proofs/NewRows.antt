-- The rows of a new weight, place by place.
use Rattle.std.proofs.Common.{◌≡◌, ◌≤◌, ◌<◌, ◌+◌, ◌-◌, ◌++◌, inl, inr, ℕ, zero, suc, List, [], ◌∷◌, length, drop, cond, nat_eq, nat_lt, ap, sym, ◌∙◌, arith, add-one}
use Rattle.std.proofs.Math.Seq.{drop-cons}
use Rattle.std.proofs.lemmas.Bool.Decides.{nat_tests}
use Rattle.fpl_numbers.specs.declared.number.Num.{Num}
use Rattle.math_algebra.specs.Tree.{no_generator}
use Rattle.math_algebra.specs.Table.{of_generator, of_pair, no_basis}
use Rattle.fpl_table.specs.Plain.{PlainTable, plain_basis, generator_at, through, first_partner, partner_from}
use Rattle.fpl_table.specs.Shape.{HasShape}
use Rattle.fpl_table.specs.Push.{row_of_symbol, new_images, new_partners, new_entries}
use Rattle.fpl_table.proofs.Lists.{drop_all, nat_split}
use Rattle.fpl_table.proofs.Cells.{before_other, after_other, within_is, from_within}
use Rattle.fpl_table.proofs.Weights.{through_within}

module _ (T : PlainTable) (rows : List (List Num)) where
  pub images_step : (g : ℕ) → g < length T.generators →
      new_images T rows g (drop g T.generators) ≡ cond (nat_eq (generator_at T g).weight (suc T.weight))
      (row_of_symbol T rows (of_generator g)) [] ∷ new_images T rows (g + 1) (drop (g + 1) T.generators)
  images_step g lt =
      ap (new_images T rows g) (drop-cons T.generators g no_generator lt)
      ∙ ap (λ k. cond (nat_eq (generator_at T g).weight (suc T.weight)) (row_of_symbol T rows (of_generator g)) [] ∷ new_images T rows (g + 1)
      (drop k T.generators)) (sym (add-one g))

  pub images_end : (g : ℕ) → length T.generators ≤ g → new_images T rows g (drop g T.generators) ≡ []
  images_end g le = ap (new_images T rows g) (drop_all T.generators g le)

  pub entries_step : (i : ℕ) → i < length T.basis → new_entries T rows i (drop i T.basis) ≡
      new_partners T rows i 0 T.basis ∷ new_entries T rows (i + 1) (drop (i + 1) T.basis)
  entries_step i lt = ap (new_entries T rows i) (drop-cons T.basis i no_basis lt) ∙
      ap (λ k. new_partners T rows i 0 T.basis ∷ new_entries T rows (i + 1) (drop k T.basis)) (sym (add-one i))

  pub entries_end : (i : ℕ) → length T.basis ≤ i → new_entries T rows i (drop i T.basis) ≡ []
  entries_end i le = ap (new_entries T rows i) (drop_all T.basis i le)

  partner_cell : ℕ → ℕ → List (List Num)
  partner_cell i j = cond (nat_eq ((plain_basis T i).weight + (plain_basis T j).weight) (suc T.weight))
      (cond (nat_lt j (first_partner T i)) [] (row_of_symbol T rows (of_pair i j) ∷ [])) []

  partners_step : (i j : ℕ) → j < length T.basis → new_partners T rows i j (drop j T.basis) ≡ partner_cell i j ++
      new_partners T rows i (j + 1) (drop (j + 1) T.basis)
  unfolding partner_cell
  partners_step i j lt = ap (new_partners T rows i j) (drop-cons T.basis j no_basis lt) ∙ ap
      (λ k. partner_cell i j ++ new_partners T rows i (j + 1) (drop k T.basis)) (sym (add-one j))

  partners_skip : (i a k : ℕ) → a + k ≤ length T.basis → ((j : ℕ) → a ≤ j → j < a + k → partner_cell i j ≡ []) →
      new_partners T rows i a (drop a T.basis) ≡ new_partners T rows i (a + k) (drop (a + k) T.basis)
  partners_skip i a zero le none = let same : a ≡ a + 0 = omega arith in ap (λ b. new_partners T rows i b (drop b T.basis)) same
  partners_skip i a (suc k) le none =
      let here : partner_cell i (a + k) ≡ [] = none (a + k) (omega arith) (omega arith) in
      let same : a + suc k ≡ a + k + 1 = omega arith in
      partners_skip i a k (omega arith) (λ j from below. none j from (omega (arith, below))) ∙ partners_step i (a + k) (omega arith) ∙
      ap (λ c. c ++ new_partners T rows i (a + k + 1) (drop (a + k + 1) T.basis)) here
      ∙ ap (λ b. new_partners T rows i b (drop b T.basis)) (sym same)

  module _ (shape : HasShape T) (i : ℕ) (lti : i < length T.basis) where
    above : (plain_basis T i).weight < suc T.weight
    above = let h : (plain_basis T i).weight ≤ T.weight = shape.light i lti in omega arith

    pub partners_first : partner_from T i (suc T.weight) ≤ length T.basis → new_partners T rows i 0 T.basis ≡
        new_partners T rows i (partner_from T i (suc T.weight)) (drop (partner_from T i (suc T.weight)) T.basis)
    unfolding partner_cell
    partners_first le =
        let same : 0 + partner_from T i (suc T.weight) ≡ partner_from T i (suc T.weight) = omega arith in
        partners_skip i 0 (partner_from T i (suc T.weight)) (omega arith)
        (λ j from below. elim (before_other T shape (suc T.weight) i lti above j (omega arith) (omega arith))
        [ inl small ↦ grind (arith, nat_tests) | inr not ↦ grind (arith, nat_tests) ])
        ∙ ap (λ b. new_partners T rows i b (drop b T.basis)) same

    pub partners_more : (j : ℕ) → j < length T.basis → partner_from T i (suc T.weight) ≤ j → j < through T (suc T.weight - (plain_basis T i).weight) →
        new_partners T rows i j (drop j T.basis) ≡ row_of_symbol T rows (of_pair i j) ∷ new_partners T rows i (j + 1) (drop (j + 1) T.basis)
    unfolding partner_cell
    partners_more j lt from to =
        let is : (plain_basis T i).weight + (plain_basis T j).weight ≡ suc T.weight = within_is T shape (suc T.weight) i lti above j from to in
        let here : partner_cell i j ≡ row_of_symbol T rows (of_pair i j) ∷ [] = grind (arith, nat_tests) in
        partners_step i j lt ∙ ap (λ c. c ++ new_partners T rows i (j + 1) (drop (j + 1) T.basis)) here

    pub partners_end : (j : ℕ) → j ≤ length T.basis → through T (suc T.weight - (plain_basis T i).weight) ≤ j → new_partners T rows i j (drop j T.basis) ≡ []
    unfolding partner_cell
    partners_end j le to =
        let same : j + (length T.basis - j) ≡ length T.basis = omega arith in
        partners_skip i j (length T.basis - j) (omega arith)
        (λ k from below. let not = after_other T shape (suc T.weight) i lti above k (omega arith) (omega arith) in grind (arith, nat_tests))
        ∙ ap (λ b. new_partners T rows i b (drop b T.basis)) same ∙ ap (new_partners T rows i (length T.basis))
        (drop_all T.basis (length T.basis) (omega arith))

    partners_from : (k j : ℕ) → partner_from T i (suc T.weight) ≤ j → j + k ≡ through T (suc T.weight - (plain_basis T i).weight) →
        length (new_partners T rows i j (drop j T.basis)) ≡ k
    partners_from zero j from to =
        let all : through T (suc T.weight - (plain_basis T i).weight) ≤ length T.basis = through_within T shape (suc T.weight - (plain_basis T i).weight) in
        ap length (partners_end j (omega arith) (omega arith))
    partners_from (suc k) j from to =
        let all : through T (suc T.weight - (plain_basis T i).weight) ≤ length T.basis = through_within T shape (suc T.weight - (plain_basis T i).weight) in
        ap length (partners_more j (omega arith) from (omega arith)) ∙ ap suc (partners_from k (j + 1) (omega (arith, from)) (omega (arith, to)))

    pub partners_length : length (new_partners T rows i 0 T.basis) ≡ through T (suc T.weight - (plain_basis T i).weight) - partner_from T i (suc T.weight)
    partners_length =
        let begin : partner_from T i (suc T.weight) ≤ length T.basis = from_within T shape (suc T.weight) i lti above in
        elim (nat_split (partner_from T i (suc T.weight)) (through T (suc T.weight - (plain_basis T i).weight))) [
          | inl few ↦ ap length (partners_first begin) ∙
              partners_from (through T (suc T.weight - (plain_basis T i).weight) - partner_from T i (suc T.weight)) (partner_from T i (suc T.weight))
              (omega arith) (omega arith)
          | inr none ↦ ap length (partners_first begin ∙ partners_end (partner_from T i (suc T.weight)) begin none) ∙ omega arith
        ]
