-- The terms of a packed row are those of its cells.
use Rattle.std.proofs.Common.{ℕ, zero, suc, ◌≡◌, ◌+◌, ◌-◌, ◌<◌, ◌≤◌, List, [], ◌∷◌, ◌++◌, length, drop, replicate, get_or, Bool, true, refl, sym, ap, ap₂, ◌∙◌, arith, append_assoc}
use Rattle.std.proofs.Math.ListN.{set}
use Rattle.fpl_numbers.specs.declared.number.Num.{Num}
use Rattle.fpl_numbers.specs.Numbers.{residue}
use Rattle.fpl_rows.specs.Packing.{spread, IsPacking}
use Rattle.fpl_rows.proofs.Spreads.{length-spread, spread_none}
use Rattle.fpl_print.specs.Combinations.{none_after, term_or_nothing, terms_text, combination_text}
use Rattle.fpl_print.specs.CellTexts.{cells_text, end_text}

module _ (name : ℕ → List ℕ) where
  on_zeros : (first : Bool) (s n : ℕ) → terms_text name first s (replicate n (residue 0)) ≡ end_text first
  on_zeros first s zero = refl
  on_zeros first s (suc n) = on_zeros first (s + 1) n

  -- a 0 in front is passed over
  passed : (first : Bool) (s : ℕ) (y : Num) (w : List Num) → y ≡ residue 0 → terms_text name first s (y ∷ w) ≡ terms_text name first (s + 1) w
  passed first s y w e = ap (λ z. terms_text name first s (z ∷ w)) e

  put : (first : Bool) (w : List Num) (s p : ℕ) (x : Num) → p < length w → ((t : ℕ) → t ≤ p → get_or w t (residue 0) ≡ residue 0) →
      terms_text name first s (set w p x) ≡ term_or_nothing name first (s + p) x ++ terms_text name (none_after first x) s w
  put first [] s p x l low = absurd (omega arith)
  put first (y ∷ w) s zero x l low =
      ap (λ v. term_or_nothing name first s x ++ v) (sym (passed (none_after first x) s y w (low 0 (omega arith))))
      ∙ ap (λ t. term_or_nothing name first t x ++ terms_text name (none_after first x) s (y ∷ w)) (let q : s ≡ s + 0 = omega arith in q)
  put first (y ∷ w) s (suc p) x l low =
      passed first s y (set w p x) (low 0 (omega arith)) ∙ put first w (s + 1) p x (omega arith) (λ t m. low (suc t) (omega arith))
      ∙ ap (λ v. term_or_nothing name first (s + 1 + p) x ++ v) (sym (passed (none_after first x) s y w (low 0 (omega arith))))
      ∙ ap (λ t. term_or_nothing name first t x ++ terms_text name (none_after first x) s (y ∷ w)) (let q : s + 1 + p ≡ s + suc p = omega arith in q)

  go : (first : Bool) (n : ℕ) (ps : List ℕ) (xs : List Num) → length ps ≡ length xs →
      ((i j : ℕ) → i < j → j < length ps → get_or ps i 0 < get_or ps j 0) →
      ((i : ℕ) → i < length ps → get_or ps i 0 < n) → terms_text name first 0 (spread n ps xs) ≡ cells_text name first ps xs
  go first n [] xs same ascend within = on_zeros first 0 n
  go first n (p ∷ ps) [] same ascend within = absurd (omega arith)
  go first n (p ∷ ps) (x ∷ xs) same ascend within =
      put first (spread n ps xs) 0 p x (let e = length-spread n ps xs in let w = within 0 (omega arith) in omega (arith, e, w))
      (λ t l. spread_none n ps xs t (λ k m e. (let a = ascend 0 (suc k) (omega arith) (omega arith) in omega (arith, a, e, l))))
      ∙ ap (λ t. term_or_nothing name first t x ++ terms_text name (none_after first x) 0 (spread n ps xs)) (let q : 0 + p ≡ p = omega arith in q)
      ∙ ap (λ v. term_or_nothing name first p x ++ v)
      (go (none_after first x) n ps xs (omega arith) (λ i j l m. ascend (suc i) (suc j) (omega arith) (omega arith)) (λ i l. within (suc i) (omega arith)))

  pub cells_terms : (n : ℕ) (ps : List ℕ) (xs row : List Num) → IsPacking n ps (length xs) → spread n ps xs ≡ row →
      cells_text name true ps xs ≡ combination_text name row
  cells_terms n ps xs row h is = sym (go true n ps xs h.same h.ascend h.within) ∙ ap (terms_text name true 0) is

  cell_next : (first : Bool) (ps : List ℕ) (xs : List Num) (k : ℕ) (d : Num) → k < length ps → length ps ≡ length xs →
      cells_text name first (drop k ps) (drop k xs) ≡
      term_or_nothing name first (get_or ps k 0) (get_or xs k d) ++ cells_text name (none_after first (get_or xs k d)) (drop (suc k) ps) (drop (suc k) xs)
  cell_next first [] xs k d l s = absurd (omega (arith, l))
  cell_next first (p ∷ ps) [] k d l s = absurd (omega (arith, s))
  cell_next first (p ∷ ps) (x ∷ xs) zero d l s = refl
  cell_next first (p ∷ ps) (x ∷ xs) (suc k) d l s = cell_next first ps xs k d (omega (arith, l)) (omega (arith, s))

  -- one more term
  pub cell_step : (all out next : List ℕ) (first later : Bool) (ps : List ℕ) (xs : List Num) (k : ℕ) (c d : Num) → k < length ps → length ps ≡ length xs →
      get_or xs k d ≡ c → later ≡ none_after first c → next ≡ out ++ term_or_nothing name first (get_or ps k 0 + 1 - 1) c →
      all ≡ out ++ cells_text name first (drop k ps) (drop k xs) →
      all ≡ next ++ cells_text name later (drop (suc k) ps) (drop (suc k) xs)
  cell_step all out next first later ps xs k c d l s is after more so_far =
      let p : get_or ps k 0 + 1 - 1 ≡ get_or ps k 0 = omega arith in
      so_far ∙ ap (λ w. out ++ w) (cell_next first ps xs k d l s
      ∙ ap (λ y. term_or_nothing name first (get_or ps k 0) y ++ cells_text name (none_after first y) (drop (suc k) ps) (drop (suc k) xs)) is)
      ∙ sym (append_assoc out (term_or_nothing name first (get_or ps k 0) c) (cells_text name (none_after first c) (drop (suc k) ps) (drop (suc k) xs)))
      ∙ ap (λ i. (out ++ term_or_nothing name first i c) ++ cells_text name (none_after first c) (drop (suc k) ps) (drop (suc k) xs)) (sym p)
      ∙ ap₂ (λ n b. n ++ cells_text name b (drop (suc k) ps) (drop (suc k) xs)) (sym more) (sym after)
