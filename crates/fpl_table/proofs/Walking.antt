-- A sum over the numbers of a row that are not 0, from one position to the next: what stands at one is added, then the rest.
use Rattle.std.proofs.Common.{ℕ, zero, suc, ◌≡◌, ◌+◌, ◌-◌, ◌<◌, ◌≤◌, List, [], ◌∷◌, length, drop, get_or, true, ap, ap₂, ◌∙◌, arith, drop-cons, drop_of_length-le}
use Rattle.std.specs.Prelude.{Result, Ok, Some, None, if◌then◌else◌}
use Rattle.std.proofs.lemmas.List.{get_or-drop, length-drop, drop-drop}
use Rattle.fpl_numbers.specs.declared.number.Num.{Num}
use Rattle.fpl_numbers.specs.declared.number.Unfit.{Unfit}
use Rattle.fpl_numbers.specs.declared.number.Fault.{Fault}
use Rattle.fpl_numbers.specs.declared.number.Fault.TheVariants.{NoMemory}
use Rattle.fpl_numbers.specs.declared.number.Fault.TheVariants.{Unfit as Unfits}
use Rattle.fpl_numbers.specs.Numbers.{is_nought, residue}
use Rattle.fpl_numbers.specs.Results.{and_then, IsFault}
use Rattle.fpl_rows.specs.Positions.{next_of}
use Rattle.fpl_rows.proofs.Firsts.{next_is_at, next_is_none}
use Rattle.fpl_table.specs.Sums.{add_each}

module _ (add : ℕ → Num → List Num → Result (List Num) Unfit) where
  pass : (xs : List Num) (t k : ℕ) (v : List Num) → k ≤ length xs → ((i : ℕ) → i < k → is_nought (get_or xs i (residue 0)) ≡ true) →
      add_each add t xs v ≡ add_each add (t + k) (drop k xs) v
  pass xs t zero v l h = ap (λ n. add_each add n xs v) (let q : t ≡ t + 0 = omega arith in q)
  pass [] t (suc k) v l h = absurd (omega arith)
  pass (c ∷ cs) t (suc k) v l h =
      let here : is_nought c ≡ true = h 0 (omega arith) in
      ap (λ b. and_then (λ w. add_each add (t + 1) cs w) (if b then Ok v else add t c v)) here
      ∙ pass cs (t + 1) k v (omega arith) (λ i m. h (suc i) (omega arith))
      ∙ ap (λ n. add_each add n (drop k cs) v) (let q : t + 1 + k ≡ t + suc k = omega arith in q)

  past : (row : List Num) (after k : ℕ) (v : List Num) → after + k ≤ length row → ((t : ℕ) → after ≤ t → t < after + k →
      is_nought (get_or row t (residue 0)) ≡ true) →
      add_each add after (drop after row) v ≡ add_each add (after + k) (drop (after + k) row) v
  past row after k v l h =
      let long = length-drop after row in
      pass (drop after row) after k v (omega arith) (λ i m. ap is_nought (get_or-drop after row i (residue 0)) ∙ h (after + i) (omega arith) (omega arith))
      ∙ ap (λ xs. add_each add (after + k) xs v) (drop-drop k after row)

  -- the next number that is not 0 is added
  pub to_next : (row : List Num) (after s : ℕ) (v : List Num) → Some s ≡ next_of row after →
      add_each add after (drop after row) v ≡ and_then (λ w. add_each add s (drop s row) w) (add (s - 1) (get_or row (s - 1) (residue 0)) v)
  to_next row after s v e =
      let h = next_is_at row after s e in
      let from = h.from_one in
      let past_it = h.past in
      let end = h.to_end in
      let sum : after + (s - 1 - after) ≡ s - 1 = omega arith in
      let next : suc (s - 1) ≡ s = omega arith in
      let one : s - 1 + 1 ≡ s = omega arith in
      past row after (s - 1 - after) v (omega arith) (λ t l m. h.before t l (omega arith))
      ∙ ap (λ n. add_each add n (drop n row) v) sum
      ∙ ap (λ xs. add_each add (s - 1) xs v) (drop-cons row (s - 1) (residue 0) (omega arith))
      ∙ ap (λ b. and_then (λ w. add_each add (s - 1 + 1) (drop (suc (s - 1)) row) w) (if b then Ok v else
      add (s - 1) (get_or row (s - 1) (residue 0)) v)) h.filled
      ∙ ap₂ (λ m n. and_then (λ w. add_each add m (drop n row) w) (add (s - 1) (get_or row (s - 1) (residue 0)) v)) one next

  -- past the last nothing is
  pub to_end : (row : List Num) (after : ℕ) (v : List Num) → after ≤ length row → None ≡ next_of row after → add_each add after (drop after row) v ≡ Ok v
  to_end row after v l e =
      let sum : after + (length row - after) ≡ length row = omega arith in
      past row after (length row - after) v (omega arith) (λ t m n. next_is_none row after e t m (omega arith))
      ∙ ap (λ n. add_each add n (drop n row) v) sum
      ∙ ap (λ xs. add_each add (length row) xs v) (drop_of_length-le row (omega arith))

-- a fault in adding a number is one of the whole
pub fault_next : {U : Type 0} (f : List Num → Result U Unfit) (fault : Fault) (r : Result (List Num) Unfit) (e : Result U Unfit) → e ≡ and_then f r →
    IsFault fault r → IsFault fault e
fault_next f (Unfits u) r e is h = is ∙ ap (and_then f) h
fault_next f NoMemory r e is h = tt
