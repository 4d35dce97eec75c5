-- A text of a row of numbers that has a piece for each number that is not 0, in order.
use Rattle.std.proofs.Common.{ℕ, zero, suc, ◌≡◌, ◌+◌, ◌-◌, ◌<◌, ◌≤◌, List, [], ◌∷◌, ◌++◌, length, drop, get_or, Bool, true, ap, ◌∙◌, sym, arith}
use Rattle.std.proofs.Common.{append_assoc, add-one, drop-cons, drop_of_length-le}
use Rattle.std.specs.Prelude.{Some, None}
use Rattle.std.proofs.lemmas.List.{get_or-drop, length-drop, drop-drop}
use Rattle.fpl_numbers.specs.declared.number.Num.{Num}
use Rattle.fpl_numbers.specs.Numbers.{is_nought, residue}
use Rattle.fpl_rows.specs.Positions.{next_of}
use Rattle.fpl_rows.proofs.Firsts.{next_is_at, next_is_none}
use Rattle.fpl_print.specs.Combinations.{none_after}

module _ (text : Bool → ℕ → List Num → List ℕ) (piece : Bool → ℕ → Num → List ℕ)
    (unfolds : (first : Bool) (s : ℕ) (c : Num) (cs : List Num) → text first s (c ∷ cs) ≡ piece first s c ++ text (none_after first c) (s + 1) cs)
    (skips : (first : Bool) (s : ℕ) (c : Num) (cs : List Num) → is_nought c ≡ true → text first s (c ∷ cs) ≡ text first (s + 1) cs) where
  -- numbers that are 0 have no piece
  pass : (first : Bool) (xs : List Num) (t k : ℕ) → k ≤ length xs → ((i : ℕ) → i < k → is_nought (get_or xs i (residue 0)) ≡ true) →
      text first t xs ≡ text first (t + k) (drop k xs)
  pass first xs t zero l h = ap (λ n. text first n xs) (let q : t ≡ t + 0 = omega arith in q)
  pass first [] t (suc k) l h = absurd (omega arith)
  pass first (c ∷ cs) t (suc k) l h =
      skips first t c cs (h 0 (omega arith))
      ∙ pass first cs (t + 1) k (omega arith) (λ i m. h (suc i) (omega arith))
      ∙ ap (λ n. text first n (drop k cs)) (let q : t + 1 + k ≡ t + suc k = omega arith in q)

  past : (first : Bool) (row : List Num) (after k : ℕ) → after + k ≤ length row →
      ((t : ℕ) → after ≤ t → t < after + k → is_nought (get_or row t (residue 0)) ≡ true) →
      text first after (drop after row) ≡ text first (after + k) (drop (after + k) row)
  past first row after k l h =
      let long = length-drop after row in
      pass first (drop after row) after k (omega arith) (λ i m. ap is_nought (get_or-drop after row i (residue 0)) ∙ h (after + i) (omega arith) (omega arith))
      ∙ ap (λ xs. text first (after + k) xs) (drop-drop k after row)

  -- the text begins at the next number that is not 0
  pub to_next : (first : Bool) (row : List Num) (after s : ℕ) → Some s ≡ next_of row after →
      text first after (drop after row) ≡ text first (s - 1) (drop (s - 1) row)
  to_next first row after s e =
      let h = next_is_at row after s e in
      let from = h.from_one in
      let past_it = h.past in
      let end = h.to_end in
      let sum : after + (s - 1 - after) ≡ s - 1 = omega arith in
      past first row after (s - 1 - after) (omega arith) (λ t l m. h.before t l (omega arith)) ∙ ap (λ n. text first n (drop n row)) sum

  -- past the last there is none
  pub to_end : (first : Bool) (row : List Num) (after : ℕ) → after ≤ length row → None ≡ next_of row after →
      text first after (drop after row) ≡ text first (length row) []
  to_end first row after l e =
      let sum : after + (length row - after) ≡ length row = omega arith in
      past first row after (length row - after) (omega arith) (λ t m n. next_is_none row after e t m (omega arith))
      ∙ ap (λ n. text first n (drop n row)) sum
      ∙ ap (λ xs. text first (length row) xs) (drop_of_length-le row (omega arith))

  -- one more piece
  pub piece_step : (all out next : List ℕ) (first later : Bool) (row : List Num) (s : ℕ) (c d : Num) → s < length row → c ≡ get_or row s d →
      later ≡ none_after first c → next ≡ out ++ piece first s c → all ≡ out ++ text first s (drop s row) → all ≡ next ++ text later (s + 1) (drop (s + 1) row)
  piece_step all out next first later row s c d lt is after more so_far =
      let here : drop s row ≡ c ∷ drop (s + 1) row = rw (is, add-one) (drop-cons row s d lt) in
      let parts : all ≡ out ++ (piece first s c ++ text (none_after first c) (s + 1) (drop (s + 1) row)) =
      so_far ∙ ap (λ r. out ++ text first s r) here ∙ ap (λ w. out ++ w) (unfolds first s c (drop (s + 1) row)) in
      rw (more, after) (parts ∙ sym (append_assoc out (piece first s c) (text (none_after first c) (s + 1) (drop (s + 1) row))))
