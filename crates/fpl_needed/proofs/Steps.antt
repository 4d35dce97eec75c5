-- Steps of loops.
use Rattle.std.proofs.Common.{ℕ, zero, suc, ◌≡◌, ◌≤◌, ◌<◌, ◌+◌, ◌++◌, List, [], ◌∷◌, length, map, reverse, take, drop, min, slice_index, slice_set, ap, subst, sym, ◌∙◌, refl, arith}
use Rattle.std.proofs.lemmas.List.{length-take, length-append, get_or_at, get_or-take, take_at, take-take, reverse-append}
use Rattle.fpl_lines.specs.declared.line.Line.{Line}
use Rattle.fpl_forms.specs.Ledgers.{no_line}
use Rattle.fpl_needed.specs.Numbers.{IsAt, line_at, IsRenumbered, AreKept}

at_mapped : (f : ℕ → ℕ) (ns : List ℕ) (i : ℕ) → i < length ns → slice_index (map f (take i ns) ++ drop i ns) i ≡ slice_index ns i
at_mapped f [] i l = absurd (omega (arith, l))
at_mapped f (n ∷ ns) zero l = refl
at_mapped f (n ∷ ns) (suc i) l = at_mapped f ns i (omega (arith, l))

set_mapped : (f : ℕ → ℕ) (ns : List ℕ) (i : ℕ) → i < length ns →
    slice_set (map f (take i ns) ++ drop i ns) i (f (slice_index ns i)) ≡ map f (take (suc i) ns) ++ drop (suc i) ns
set_mapped f [] i l = absurd (omega (arith, l))
set_mapped f (n ∷ ns) zero l = refl
set_mapped f (n ∷ ns) (suc i) l = ap (λ (xs : List ℕ). f n ∷ xs) (set_mapped f ns i (omega (arith, l)))

pub mapped_more : (f : ℕ → ℕ) (ns ms : List ℕ) (i : ℕ) → i < length ns → ms ≡ map f (take i ns) ++ drop i ns →
    slice_set ms i (f (slice_index ms i)) ≡ map f (take (i + 1) ns) ++ drop (i + 1) ns
mapped_more f ns ms i l is =
    let e : suc i ≡ i + 1 = omega arith in
    subst (λ (xs : List ℕ). slice_set xs i (f (slice_index xs i)) ≡ map f (take (i + 1) ns) ++ drop (i + 1) ns) (sym is)
    (ap (λ n. slice_set (map f (take i ns) ++ drop i ns) i (f n)) (at_mapped f ns i l) ∙ set_mapped f ns i l
    ∙ ap (λ k. map f (take k ns) ++ drop k ns) e)

-- the last of the first lines is taken off
pub record IsPopped (ls rest : List Line) (l : Line) : Type 0 where
  pub inside : length rest < length ls
  pub line : line_at ls (length rest) ≡ l
  pub left : rest ≡ take (length rest) ls

pub popped : (ls firsts rest : List Line) (l : Line) → firsts ≡ take (length firsts) ls → firsts ≡ rest ++ l ∷ [] → IsPopped ls rest l
popped ls firsts rest l front is =
    let longer : length firsts ≡ length rest + 1 = ap length is ∙ length-append rest (l ∷ []) in
    let short : length firsts ≡ min (length firsts) (length ls) = ap length front ∙ length-take (length firsts) ls in
    let low : length rest < length firsts = omega (arith, longer) in
    let within : length rest ≤ length firsts = omega (arith, longer) in
    let here : line_at firsts (length rest) ≡ l = ap (λ (xs : List Line). line_at xs (length rest)) is ∙ get_or_at rest l [] no_line (length rest) refl in
    record {
      inside = omega (arith, longer, short);
      line = sym (get_or-take (length firsts) ls (length rest) no_line low) ∙ sym (ap (λ (xs : List Line). line_at xs (length rest)) front) ∙ here;
      left = sym (take_at rest (l ∷ []) (length rest) refl) ∙ sym (ap (take (length rest)) is) ∙ ap (take (length rest)) front
          ∙ take-take (length rest) (length firsts) ls within;
    }

module _ (f : ℕ → ℕ) where
  kept_next : (ls : List Line) (xs : List ℕ) (ms : List Line) (m : Line) (i : ℕ) → i < length ls → IsAt xs i → IsRenumbered f (line_at ls i) m →
      AreKept f (drop (suc i) ls) (drop (suc i) xs) ms → AreKept f (drop i ls) (drop i xs) (m ∷ ms)
  kept_next [] xs ms m i l a r h = absurd (omega (arith, l))
  kept_next (x ∷ ls) [] ms m i l a r h = absurd (omega (arith, a))
  kept_next (x ∷ ls) (zero ∷ xs) ms m zero l a r h = absurd (omega (arith, a))
  kept_next (x ∷ ls) (suc y ∷ xs) ms m zero l a r h = (r, h)
  kept_next (x ∷ ls) (y ∷ xs) ms m (suc i) l a r h = kept_next ls xs ms m i (omega (arith, l)) a r h

  kept_past : (ls : List Line) (xs : List ℕ) (ms : List Line) (i : ℕ) → i < length ls → i < length xs → slice_index xs i ≤ 0 →
      AreKept f (drop (suc i) ls) (drop (suc i) xs) ms → AreKept f (drop i ls) (drop i xs) ms
  kept_past [] xs ms i l k a h = absurd (omega (arith, l))
  kept_past (x ∷ ls) [] ms i l k a h = absurd (omega (arith, k))
  kept_past (x ∷ ls) (zero ∷ xs) ms zero l k a h = h
  kept_past (x ∷ ls) (suc y ∷ xs) ms zero l k a h = absurd (omega (arith, a))
  kept_past (x ∷ ls) (y ∷ xs) ms (suc i) l k a h = kept_past ls xs ms i (omega (arith, l)) (omega (arith, k)) a h

  module _ (ls firsts rest : List Line) (l : Line) (p : IsPopped ls rest l) (is : firsts ≡ rest ++ l ∷ []) (xs : List ℕ) (ms : List Line)
      (h : AreKept f (drop (length firsts) ls) (drop (length firsts) xs) (reverse ms)) where
    at_next : AreKept f (drop (suc (length rest)) ls) (drop (suc (length rest)) xs) (reverse ms)
    at_next =
        let longer : length firsts ≡ length rest + 1 = ap length is ∙ length-append rest (l ∷ []) in
        let e : length firsts ≡ suc (length rest) = omega (arith, longer) in
        subst (λ n. AreKept f (drop n ls) (drop n xs) (reverse ms)) e h

    pub keeps : (m : Line) → IsAt xs (length rest) → IsRenumbered f l m → AreKept f (drop (length rest) ls) (drop (length rest) xs) (reverse (ms ++ m ∷ []))
    keeps m a r =
        subst (AreKept f (drop (length rest) ls) (drop (length rest) xs)) (sym (reverse-append ms (m ∷ [])))
        (kept_next ls xs (reverse ms) m (length rest) p.inside a (subst (λ (x : Line). IsRenumbered f x m) (sym p.line) r) at_next)

    pub leaves_out : length xs ≡ length ls → slice_index xs (length rest) ≤ 0 → AreKept f (drop (length rest) ls) (drop (length rest) xs) (reverse ms)
    leaves_out count a = let i = p.inside in kept_past ls xs (reverse ms) (length rest) i (omega (arith, i, count)) a at_next
