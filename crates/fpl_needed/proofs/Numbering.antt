-- The new numbers of marked lines, and what they lead to.
--
--   IsMoved f ls ms n i j   line i of ls has the new number n, which is that of line j of ms, with its sides and its rule renumbered
use Rattle.std.proofs.Common.{ℕ, zero, suc, ◌≡◌, ◌<◌, ◌+◌, List, [], ◌∷◌, length, slice_index, refl, arith, ap, ◌∙◌}
use Rattle.fpl_lines.specs.declared.line.Line.{Line}
use Rattle.fpl_needed.specs.Numbers.{IsAt, line_at, numbered, IsRenumbered, AreKept}

pub record IsMoved (f : ℕ → ℕ) (ls : List Line) (xs : List ℕ) (ms : List Line) (k i j : ℕ) : Type 0 where
  pub from : i < length ls
  pub marked : IsAt xs i
  pub to : j < length ms
  pub number : slice_index (numbered k xs) i ≡ suc (k + j)
  pub same : IsRenumbered f (line_at ls i) (line_at ms j)

module _ (f : ℕ → ℕ) where
  pub moved_to : (k : ℕ) (ls : List Line) (xs : List ℕ) (ms : List Line) → AreKept f ls (numbered k xs) ms → (i : ℕ) → i < length ls → IsAt xs i →
      (j : ℕ) × IsMoved f ls xs ms k i j
  moved_to k [] xs ms h i l a = absurd (omega (arith, l))
  moved_to k (x ∷ ls) [] ms h i l a = absurd h
  moved_to k (x ∷ ls) (zero ∷ xs) ms h zero l a = absurd (omega (arith, a))
  moved_to k (x ∷ ls) (zero ∷ xs) ms h (suc i) l a =
      let r = moved_to k ls xs ms h i (omega (arith, l)) a in
      (r.0, record { from = l; marked = a; to = r.1.to; number = r.1.number; same = r.1.same })
  moved_to k (x ∷ ls) (suc y ∷ xs) [] h i l a = absurd h
  moved_to k (x ∷ ls) (suc y ∷ xs) (m ∷ ms) h zero l a =
      (zero, record { from = l; marked = a; to = omega arith; number = omega arith; same = h.0 })
  moved_to k (x ∷ ls) (suc y ∷ xs) (m ∷ ms) h (suc i) l a =
      let r = moved_to (suc k) ls xs ms h.1 i (omega (arith, l)) a in
      let t = r.1.to in
      let n = r.1.number in
      (suc r.0, record { from = l; marked = a; to = omega (arith, t); number = n ∙ omega arith; same = r.1.same })

  pub moved_from : (k : ℕ) (ls : List Line) (xs : List ℕ) (ms : List Line) → AreKept f ls (numbered k xs) ms → (j : ℕ) → j < length ms →
      (i : ℕ) × IsMoved f ls xs ms k i j
  moved_from k [] xs [] h j l = absurd (omega (arith, l))
  moved_from k [] xs (m ∷ ms) h j l = absurd h
  moved_from k (x ∷ ls) [] ms h j l = absurd h
  moved_from k (x ∷ ls) (zero ∷ xs) ms h j l =
      let r = moved_from k ls xs ms h j l in
      let s = r.1.from in
      (suc r.0, record { from = omega (arith, s); marked = r.1.marked; to = l; number = r.1.number; same = r.1.same })
  moved_from k (x ∷ ls) (suc y ∷ xs) [] h j l = absurd h
  moved_from k (x ∷ ls) (suc y ∷ xs) (m ∷ ms) h zero l =
      (zero, record { from = omega arith; marked = omega arith; to = l; number = omega arith; same = h.0 })
  moved_from k (x ∷ ls) (suc y ∷ xs) (m ∷ ms) h (suc j) l =
      let r = moved_from (suc k) ls xs ms h.1 j (omega (arith, l)) in
      let s = r.1.from in
      let n = r.1.number in
      (suc r.0, record { from = omega (arith, s); marked = r.1.marked; to = l; number = n ∙ omega arith; same = r.1.same })

above : (k : ℕ) (xs : List ℕ) (i : ℕ) → IsAt xs i → k < slice_index (numbered k xs) i
above k [] i a = absurd (omega (arith, a))
above k (zero ∷ xs) zero a = absurd (omega (arith, a))
above k (zero ∷ xs) (suc i) a = above k xs i a
above k (suc y ∷ xs) zero a = omega arith
above k (suc y ∷ xs) (suc i) a = let h = above (suc k) xs i a in omega (arith, h)

pub rising : (k : ℕ) (xs : List ℕ) (i j : ℕ) → i < j → IsAt xs i → IsAt xs j → slice_index (numbered k xs) i < slice_index (numbered k xs) j
rising k [] i j l a b = absurd (omega (arith, a))
rising k (x ∷ xs) i zero l a b = absurd (omega (arith, l))
rising k (zero ∷ xs) zero (suc j) l a b = absurd (omega (arith, a))
rising k (zero ∷ xs) (suc i) (suc j) l a b = rising k xs i j (omega (arith, l)) a b
rising k (suc y ∷ xs) zero (suc j) l a b = above (suc k) xs j b
rising k (suc y ∷ xs) (suc i) (suc j) l a b = rising (suc k) xs i j (omega (arith, l)) a b

pub length-numbered : (k : ℕ) (xs : List ℕ) → length (numbered k xs) ≡ length xs
length-numbered k [] = refl
length-numbered k (zero ∷ xs) = ap suc (length-numbered k xs)
length-numbered k (suc x ∷ xs) = ap suc (length-numbered (suc k) xs)
