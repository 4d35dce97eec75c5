-- What a map text gives is an assignment.
use Rattle.std.proofs.Common.{◌≡◌, ◌<◌, ◌≤◌, ◌+◌, ◌-◌, ◌*◌, ◌/◌, ◌%◌, ℕ, zero, suc, List, [], ◌∷◌, ◌++◌, length, get_or, map, refl, sym, ap, ◌∙◌, subst, arith, append_assoc, inl, inr}
use Rattle.std.specs.Prelude.{◌⊎◌, All, Ok, Err, Bool, true, false, ◌&&◌, ◌||◌, nat_eq, nat_lt, nat_le, if◌then◌else◌, codes}
use Rattle.std.proofs.lemmas.List.{length-append, length-map, get_or_append_left, get_or-append_right}
use Rattle.std.proofs.lemmas.Grind.{get_or_default_zero}
use native.Mathlib.Decide.{dec_lt}
use Rattle.fpl_numbers.specs.Results.{and_then, map_ok}
use Rattle.fpl_numbers.specs.declared.number.Kind.TheVariants.{Prime}
use Rattle.fpl_numbers.specs.Numbers.{IsListed}
use Rattle.math_algebra.specs.Tree.{Parity, even, odd, no_generator}
use Rattle.math_algebra.specs.Degrees.{same_parity}
use Rattle.math_matrices.specs.Matrices.{block}
use Rattle.fpl_model.specs.declared.presentation.Presentation.{Presentation}
use Rattle.fpl_model.specs.declared.presentation.Generator.{Generator}
use Rattle.fpl_model.specs.Meaning.{parity_in, generator_in}
use Rattle.plain_matrices.specs.Plain.{PlainMatrix, IsSquare}
use Rattle.fpl_matrices.specs.declared.fault.MapError.{MapError}
use Rattle.fpl_matrices.specs.Matrices.{Assigned, IsShape, IsAssignment, prime_in}
use Rattle.fpl_matrices.specs.MapText.{Read, start_of, sized, is_size, judged, matrix_with, assigned, read_word, read_number, read_even, read_odd, read_entry, read_entries, read_matrix, read_matrices, read_end, map_of}
use Rattle.fpl_matrices.proofs.Steps.{passed, mapped, test_passed, ok_value, no_err}
use Rattle.std.proofs.lemmas.Bool.{and_parts}
use Rattle.math_algebra.proofs.Degrees.{either_true}

pub same_is : (s t : Parity) → same_parity s t ≡ true → s ≡ t
same_is even even e = refl
same_is even odd e = absurd (let k : ⊥ = cc in k)
same_is odd even e = absurd (let k : ⊥ = cc in k)
same_is odd odd e = refl

module _ (p m n : ℕ) (t : Parity) where
  abbrev Stands : (s x : ℕ) → Type 0
  Stands s x = (x ≡ 0) ⊎ (block m (s / n) (s % n) ≡ t)

  judged_is : (s place : ℕ) (x y : Read ℕ) → judged p m n t s place x ≡ Ok y → (y.value < p) × Stands s y.value
  judged_is s place x y e = go (nat_lt x.value p) refl e
    where
      inside : (b : Bool) → (nat_eq x.value 0 || same_parity (block m (s / n) (s % n)) t) ≡ b → x.value < p →
          (if b then Ok x else Err (MapError.Parity place)) ≡ Ok y → (y.value < p) × Stands s y.value
      inside true f l e =
          subst (λ z. (z.value < p) × Stands s z.value) (ok_value e) (
            l,
            elim (either_true (nat_eq x.value 0) (same_parity (block m (s / n) (s % n)) t) f) [
              | inl a ↦ inl (grind arith)
              | inr a ↦ inr (same_is (block m (s / n) (s % n)) t a)
            ],
          )
      inside false f l e = absurd (no_err e)

      go : (b : Bool) → nat_lt x.value p ≡ b →
          (if b then (if nat_eq x.value 0 || same_parity (block m (s / n) (s % n)) t then Ok x else Err (MapError.Parity place)) else Err
          (MapError.Number place)) ≡ Ok y →
          (y.value < p) × Stands s y.value
      go true f e = inside (nat_eq x.value 0 || same_parity (block m (s / n) (s % n)) t) refl (grind arith) e
      go false f e = absurd (no_err e)

  record Good (xs : List ℕ) : Type 0 where
    below : (s : ℕ) → s < length xs → get_or xs s 0 < p
    stands : (s : ℕ) → s < length xs → Stands s (get_or xs s 0)

  good_none : Good []
  good_none = record { below = λ s l. absurd (omega arith); stands = λ s l. absurd (omega arith) }

  good_more : (xs : List ℕ) (x : ℕ) → Good xs → x < p → Stands (length xs) x → Good (xs ++ x ∷ [])
  good_more xs x g b h = record { below = below; stands = stands }
    where
      size : length (xs ++ x ∷ []) ≡ length xs + 1
      size = length-append xs (x ∷ [])

      last : get_or (xs ++ x ∷ []) (length xs) 0 ≡ x
      last = get_or-append_right xs (x ∷ []) (length xs) (length xs) 0 refl (omega arith) ∙
          ap (λ w. get_or (x ∷ []) w 0) (let e : length xs - length xs ≡ 0 = omega arith in e)

      at : (P : ℕ → ℕ → Type 0) → ((s : ℕ) → s < length xs → P s (get_or xs s 0)) → P (length xs) x → (s : ℕ) → s < length (xs ++ x ∷ []) →
          P s (get_or (xs ++ x ∷ []) s 0)
      at P before here s l = go (dec_lt s (length xs))
        where
          go : Dec (s < length xs) → P s (get_or (xs ++ x ∷ []) s 0)
          go (yes k) = subst (P s) (sym (get_or_append_left xs (x ∷ []) 0 s k)) (before s k)
          go (no k) =
              let e : length xs ≡ s = omega (arith, size) in
              subst (λ j. P j (get_or (xs ++ x ∷ []) j 0)) e (subst (P (length xs)) (sym last) here)

      below : (s : ℕ) → s < length (xs ++ x ∷ []) → get_or (xs ++ x ∷ []) s 0 < p
      below s l = at (λ s y. y < p) g.below b s l

      stands : (s : ℕ) → s < length (xs ++ x ∷ []) → Stands s (get_or (xs ++ x ∷ []) s 0)
      stands s l = at Stands g.stands h s l

  entries_are : (bytes : List ℕ) (before : List ℕ) (count at : ℕ) (r : Read (List ℕ)) → Good before → read_entries bytes p m n t before count at ≡ Ok r →
      Good r.value × (length r.value ≡ length before + count)
  entries_are bytes before zero at r g e =
      subst (λ z. Good z.value × (length z.value ≡ length before + 0)) (ok_value e) (g, omega arith)
  entries_are bytes before (suc count) at r g e =
      let x = passed (λ x. read_entries bytes p m n t (before ++ x.value ∷ []) count x.next) (read_entry bytes p m n t (length before) at) r e in
      let y = passed (judged p m n t (length before) (start_of bytes at)) (read_number bytes at) x.value x.was in
      let j = judged_is (length before) (start_of bytes at) y.value x.value y.gives in
      let f = entries_are bytes (before ++ x.value.value ∷ []) count x.value.next r (good_more before x.value.value g j.0 j.1) x.gives in
      (f.0, f.1 ∙ (let s : length (before ++ x.value.value ∷ []) ≡ length before + 1 = length-append before (x.value.value ∷ []) in omega arith))

-- ---- matrices
module _ (p m n : ℕ) where
  pub record IsFor (g : Generator) (x : PlainMatrix) : Type 0 where
    pub prime : x.prime ≡ p
    pub even : x.even ≡ m
    pub odd : x.odd ≡ n - m
    pub square : IsSquare p n x.numbers
    pub stands : (s : ℕ) → s < n * n → (get_or x.numbers s 0 ≡ 0) ⊎ (block m (s / n) (s % n) ≡ parity_in g.parity)

  matrix_is : (bytes : List ℕ) (g : Generator) (at : ℕ) (r : Read PlainMatrix) → read_matrix bytes p m n g at ≡ Ok r → IsFor g r.value
  matrix_is bytes g at r e =
      let x = mapped (matrix_with p m n) (and_then (λ next. read_entries bytes p m n (parity_in g.parity) [] (n * n) next) (read_word bytes g.name at)) r e in
      let y = passed (λ next. read_entries bytes p m n (parity_in g.parity) [] (n * n) next) (read_word bytes g.name at) x.value x.was in
      let f = entries_are p m n (parity_in g.parity) bytes [] (n * n) y.value x.value (good_none p m n (parity_in g.parity)) y.gives in
      let size : length x.value.value ≡ n * n = f.1 ∙ omega arith in
      subst (λ z. IsFor g z.value) x.gives (record {
        prime = refl;
        even = refl;
        odd = refl;
        square = record {
          places = size;
          below = λ i d l. subst (λ w. w < p) (sym (get_or_default_zero x.value.value i d l)) (f.0.below i l);
        };
        stands = λ s l. f.0.stands s (omega arith);
      })

  abbrev AllFor : List Generator → List PlainMatrix → Type 0
  AllFor [] [] = Unit {0}
  AllFor [] (x ∷ xs) = ⊥
  AllFor (g ∷ gs) [] = ⊥
  AllFor (g ∷ gs) (x ∷ xs) = IsFor g x × AllFor gs xs

  record AreRead (before : List PlainMatrix) (gs : List Generator) (all : List PlainMatrix) : Type 0 where
    more : List PlainMatrix
    is : all ≡ before ++ more
    for : AllFor gs more

  matrices_are : (bytes : List ℕ) (before : List PlainMatrix) (gs : List Generator) (at : ℕ) (r : Read (List PlainMatrix)) →
      read_matrices bytes p m n before gs at ≡ Ok r → AreRead before gs r.value
  matrices_are bytes before [] at r e = record { more = []; is = sym (ap (λ z. z.value) (ok_value e)) ∙ sym (append_nil before); for = tt }
    where
      append_nil : (xs : List PlainMatrix) → xs ++ [] ≡ xs
      append_nil [] = refl
      append_nil (x ∷ xs) = ap (λ w. x ∷ w) (append_nil xs)
  matrices_are bytes before (g ∷ gs) at r e =
      let x = passed (λ x. read_matrices bytes p m n (before ++ x.value ∷ []) gs x.next) (read_matrix bytes p m n g at) r e in
      let f = matrices_are bytes (before ++ x.value.value ∷ []) gs x.value.next r x.gives in
      record {
        more = x.value.value ∷ f.more;
        is = f.is ∙ append_assoc before (x.value.value ∷ []) f.more;
        for = (matrix_is bytes g at x.value x.was, f.for);
      }

  for_length : (gs : List Generator) (xs : List PlainMatrix) → AllFor gs xs → length xs ≡ length gs
  for_length [] [] h = refl
  for_length [] (x ∷ xs) h = absurd h
  for_length (g ∷ gs) [] h = absurd h
  for_length (g ∷ gs) (x ∷ xs) h = ap suc (for_length gs xs h.1)

  for_squares : (gs : List Generator) (xs : List PlainMatrix) → AllFor gs xs → All (IsSquare p n) (map (λ x. x.numbers) xs)
  for_squares [] [] h i d l = absurd (omega arith)
  for_squares [] (x ∷ xs) h i d l = absurd h
  for_squares (g ∷ gs) [] h i d l = absurd h
  for_squares (g ∷ gs) (x ∷ xs) h zero d l = h.0.square
  for_squares (g ∷ gs) (x ∷ xs) h (suc i) d l = for_squares gs xs h.1 i d (omega arith)

  for_alike : (gs : List Generator) (xs : List PlainMatrix) → AllFor gs xs → All (λ x. (x.prime ≡ p) × (x.even ≡ m) × (x.odd ≡ n - m)) xs
  for_alike [] [] h i d l = absurd (omega arith)
  for_alike [] (x ∷ xs) h i d l = absurd h
  for_alike (g ∷ gs) [] h i d l = absurd h
  for_alike (g ∷ gs) (x ∷ xs) h zero d l = (h.0.prime, h.0.even, h.0.odd)
  for_alike (g ∷ gs) (x ∷ xs) h (suc i) d l = for_alike gs xs h.1 i d (omega arith)

  for_stands : (gs : List Generator) (xs : List PlainMatrix) → AllFor gs xs → (i s : ℕ) → i < length gs → s < n * n →
      (get_or (get_or (map (λ x. x.numbers) xs) i []) s 0 ≡ 0) ⊎ (block m (s / n) (s % n) ≡ (get_or (map generator_in gs) i no_generator).parity)
  for_stands [] xs h i s l k = absurd (omega arith)
  for_stands (g ∷ gs) [] h i s l k = absurd h
  for_stands (g ∷ gs) (x ∷ xs) h zero s l k = h.0.stands s k
  for_stands (g ∷ gs) (x ∷ xs) h (suc i) s l k = for_stands gs xs h.1 i s (omega arith) k

size_is : (m : ℕ) (place : ℕ) (x y : Read ℕ) → m ≤ 32 → sized place (is_size m) x ≡ Ok y → IsShape m (m + y.value)
size_is m place x y h e =
    let f = test_passed (is_size m x.value) x (MapError.Size place) y e in
    let b = and_parts (nat_le x.value 32 && nat_le 1 (m + x.value)) (nat_le (m + x.value) 32) f.0 in
    let c = and_parts (nat_le x.value 32) (nat_le 1 (m + x.value)) b.0 in
    let some : 1 ≤ m + x.value = grind arith in
    let most : m + x.value ≤ 32 = grind arith in
    subst (λ z. IsShape m (m + z.value)) f.1 (record { even = omega arith; some = some; most = most })

pub map_gives : (p : Presentation) (bytes : List ℕ) (from : ℕ) (a : Assigned) → p.field ≡ Prime (prime_in p.field) → IsListed (prime_in p.field) →
    map_of p bytes from ≡ Ok a → IsAssignment p a
map_gives p bytes from a field listed e =
    let q = prime_in p.field in
    let s = passed (λ start. and_then (λ m. and_then (λ n. and_then (read_end bytes) (map_ok (assigned m.value n.value)
    (read_matrices bytes q m.value (m.value + n.value) [] p.generators n.next))) (read_odd bytes m.value m.next)) (read_even bytes start))
    (read_word bytes (codes "size") from) a e in
    let m = passed (λ m. and_then (λ n. and_then (read_end bytes) (map_ok (assigned m.value n.value)
    (read_matrices bytes q m.value (m.value + n.value) [] p.generators n.next))) (read_odd bytes m.value m.next)) (read_even bytes s.value) a s.gives in
    let n = passed (λ n. and_then (read_end bytes) (map_ok (assigned m.value.value n.value)
    (read_matrices bytes q m.value.value (m.value.value + n.value) [] p.generators n.next))) (read_odd bytes m.value.value m.value.next) a m.gives in
    let r = passed (read_end bytes) (map_ok (assigned m.value.value n.value.value)
    (read_matrices bytes q m.value.value (m.value.value + n.value.value) [] p.generators n.value.next)) a n.gives in
    let x = mapped (assigned m.value.value n.value.value)
    (read_matrices bytes q m.value.value (m.value.value + n.value.value) [] p.generators n.value.next) r.value r.was in
    let all = matrices_are q m.value.value (m.value.value + n.value.value) bytes [] p.generators n.value.next x.value x.was in
    let end = test_passed (nat_eq (start_of bytes r.value.next) (length bytes)) r.value.value (MapError.Syntax (start_of bytes r.value.next)) a r.gives in
    let even = passed (sized (start_of bytes s.value) (λ m. nat_le m 32)) (read_number bytes s.value) m.value m.was in
    let even_passed = test_passed (nat_le even.value.value 32) even.value (MapError.Size (start_of bytes s.value)) m.value even.gives in
    let small : even.value.value ≤ 32 = (let t = even_passed.0 in grind arith) in
    let low : m.value.value ≤ 32 = subst (λ z. z.value ≤ 32) even_passed.1 small in
    let odd = passed (sized (start_of bytes m.value.next) (is_size m.value.value)) (read_number bytes m.value.next) n.value n.was in
    let shape = size_is m.value.value (start_of bytes m.value.next) odd.value n.value low odd.gives in
    subst (IsAssignment p) (ap (λ z. z.value) x.gives ∙ end.1)
    (of_all p m.value.value n.value.value x.value.value field listed shape all.more all.is all.for)
  where
    of_all : (p : Presentation) (m n : ℕ) (xs : List PlainMatrix) → p.field ≡ Prime (prime_in p.field) → IsListed (prime_in p.field) → IsShape m (m + n) →
        (ys : List PlainMatrix) → xs ≡ [] ++ ys → AllFor (prime_in p.field) m (m + n) p.generators ys →
        IsAssignment p (record { even = m; odd = n; matrices = xs })
    of_all p m n xs field listed shape ys is for = subst (λ zs. IsAssignment p (record { even = m; odd = n; matrices = zs })) (sym is) (record {
      matrices = record {
        field = field;
        listed = listed;
        count = length-map ys (λ x. x.numbers) ∙ for_length (prime_in p.field) m (m + n) p.generators ys for;
        squares = for_squares (prime_in p.field) m (m + n) p.generators ys for;
        parities = λ g s l k. for_stands (prime_in p.field) m (m + n) p.generators ys for g s l k;
      };
      alike = λ i d l. let f = for_alike (prime_in p.field) m (m + n) p.generators ys for i d l in (f.0, f.1, f.2 ∙ omega arith);
      shape = shape;
    })
