-- The next table as a function of the closed rows is a next table.
use Rattle.std.specs.Prelude.{ℕ, zero, suc, ◌≡◌, ◌≢◌, ◌<◌, ◌≤◌, ◌+◌, List, [], ◌∷◌, ◌++◌, map, length, get_or, Bool, true, false, cond}
use mathlib.Core.Path.{sym, refl, ap, ◌∙◌, subst}
use native.Mathlib.Omega.{arith}
use native.Mathlib.Decide.{ℕ_discrete, dec_lt}
use Rattle.std.proofs.lemmas.List.{length-append, get_or_append_left, get_or-append-add}
use Rattle.math_fields.specs.Field.{Field}
use Rattle.math_linear.specs.Vector.{Vector, vzero, place}
use Rattle.math_algebra.specs.Tree.{Presentation, generator}
use Rattle.math_algebra.specs.Table.{Table, basis_at, no_basis, weight_at}
use Rattle.math_linear.specs.Closed.{IsClosedForm}
use Rattle.math_algebra.specs.Symbols.{symbols, pair_number, generator_number}
use Rattle.math_algebra.specs.SourceRows.{IsSource}
use Rattle.math_algebra.specs.Extending.{AreThose}
use Rattle.math_algebra.specs.Built.{IsNext}
use Rattle.math_algebra.specs.NextTable.{is_pivot, free_places, new_basis, free_list, means_next, next_table}

pub pivot_is : (n : ℕ) (pivot : ℕ → ℕ) (s : ℕ) → is_pivot n pivot s ≡ true → (i : ℕ) × (i < n) × (pivot i ≡ s)
unfolding is_pivot
pivot_is zero pivot s e = grind arith
pivot_is (suc n) pivot s e = go (ℕ_discrete (pivot n) s) (pivot_is n pivot s)
  where
    go : Dec (pivot n ≡ s) → (is_pivot n pivot s ≡ true → (i : ℕ) × (i < n) × (pivot i ≡ s)) → (i : ℕ) × (i < suc n) × (pivot i ≡ s)
    go (yes d) h = (n, omega arith, d)
    go (no d) h = let r = h (grind arith) in (r.0, omega (arith, r.1), r.2)

pub no_pivot_is : (n : ℕ) (pivot : ℕ → ℕ) (s : ℕ) → is_pivot n pivot s ≡ false → (i : ℕ) → i < n → pivot i ≢ s
unfolding is_pivot
no_pivot_is zero pivot s e = λ i l d. absurd (omega arith)
no_pivot_is (suc n) pivot s e = go (ℕ_discrete (pivot n) s) (no_pivot_is n pivot s)
  where
    go : Dec (pivot n ≡ s) → (is_pivot n pivot s ≡ false → (i : ℕ) → i < n → pivot i ≢ s) → (i : ℕ) → i < suc n → pivot i ≢ s
    go (yes d) h i l = absurd (grind arith)
    go (no d) h i l = elim (ℕ_discrete i n) [ yes f ↦ (λ g. d (ap pivot (sym f) ∙ g)) | no f ↦ h (grind arith) i (omega arith) ]

abbrev Free : ℕ → (ℕ → ℕ) → ℕ → Type 0
Free n pivot s = (i : ℕ) → i < n → pivot i ≢ s

pub free_are : (m n : ℕ) (pivot : ℕ → ℕ) → AreThose m (Free n pivot) (length (free_places m n pivot)) (λ i. get_or (free_places m n pivot) i 0)
unfolding free_places
free_are zero n pivot = record { there = λ i l. absurd (omega arith); ascend = λ i j l k. absurd (omega arith); all = λ s l h. absurd (omega arith) }
free_are (suc m) n pivot = go (is_pivot n pivot m) refl (free_are m n pivot)
  where
    L : List ℕ
    L = free_places m n pivot

    go : (b : Bool) → is_pivot n pivot m ≡ b → AreThose m (Free n pivot) (length (free_places m n pivot)) (λ i. get_or (free_places m n pivot) i 0) →
        AreThose (suc m) (Free n pivot) (length (cond b (free_places m n pivot) (free_places m n pivot ++ m ∷ [])))
        (λ i. get_or (cond b (free_places m n pivot) (free_places m n pivot ++ m ∷ [])) i 0)
    go true e h = record {
      there = λ i l. let f = h.there i l in (omega (arith, f.0), f.1);
      ascend = h.ascend;
      all = λ s l f. elim (ℕ_discrete s m) [
        | yes d ↦ (let r = pivot_is n pivot m e in absurd (f r.0 r.1 (r.2 ∙ sym d)))
        | no d ↦ h.all s (omega arith) f
      ];
    }
    go false e h = record {
      there = λ i l. there i l (dec_lt i (length (free_places m n pivot)));
      ascend = λ i j l k. ascend i j l k (dec_lt j (length (free_places m n pivot)));
      all = λ s l f. elim (ℕ_discrete s m) [
        | yes d ↦ (length (free_places m n pivot), omega (arith, long), last ∙ sym d)
        | no d ↦ (let r = h.all s (omega arith) f in (r.0, omega (arith, r.1, long), get_or_append_left (free_places m n pivot) (m ∷ []) 0 r.0 r.1 ∙ r.2))
      ];
    }
      where
        long : length (free_places m n pivot ++ m ∷ []) ≡ length (free_places m n pivot) + 1
        long = length-append (free_places m n pivot) (m ∷ [])

        last : get_or (free_places m n pivot ++ m ∷ []) (length (free_places m n pivot)) 0 ≡ m
        last =
            let f : length (free_places m n pivot) + 0 ≡ length (free_places m n pivot) = omega arith in
            ap (λ w. get_or (free_places m n pivot ++ m ∷ []) w 0) (sym f) ∙ get_or-append-add (free_places m n pivot) (m ∷ []) 0 0

        at_end : (i : ℕ) → i < length (free_places m n pivot ++ m ∷ []) → length (free_places m n pivot) ≤ i → get_or (free_places m n pivot ++ m ∷ []) i 0 ≡ m
        at_end i l k = let f : i ≡ length (free_places m n pivot) = omega (arith, l, k, long) in ap (λ w. get_or (free_places m n pivot ++ m ∷ []) w 0) f ∙ last

        there : (i : ℕ) → i < length (free_places m n pivot ++ m ∷ []) → Dec (i < length (free_places m n pivot)) →
            (get_or (free_places m n pivot ++ m ∷ []) i 0 < suc m) × Free n pivot (get_or (free_places m n pivot ++ m ∷ []) i 0)
        there i l (yes k) =
            subst (λ w. (w < suc m) × Free n pivot w) (sym (get_or_append_left (free_places m n pivot) (m ∷ []) 0 i k))
            (let f = h.there i k in (omega (arith, f.0), f.1))
        there i l (no k) = subst (λ w. (w < suc m) × Free n pivot w) (sym (at_end i l (omega arith))) (omega arith, no_pivot_is n pivot m e)

        ascend : (i j : ℕ) → i < j → j < length (free_places m n pivot ++ m ∷ []) → Dec (j < length (free_places m n pivot)) →
            get_or (free_places m n pivot ++ m ∷ []) i 0 < get_or (free_places m n pivot ++ m ∷ []) j 0
        ascend i j l k (yes d) =
            omega (
              arith,
              get_or_append_left (free_places m n pivot) (m ∷ []) 0 i (omega arith),
              get_or_append_left (free_places m n pivot) (m ∷ []) 0 j d,
              h.ascend i j l d,
            )
        ascend i j l k (no d) =
            let o : i < length (free_places m n pivot) = omega (arith, l, k, long, d) in
            omega (arith, get_or_append_left (free_places m n pivot) (m ∷ []) 0 i o, at_end j k (omega arith), (h.there i o).0)

pub length_map : {A B : Type 0} (f : A → B) (xs : List A) → length (map f xs) ≡ length xs
length_map f [] = refl
length_map f (x ∷ xs) = ap (λ w. suc w) (length_map f xs)

pub get_or_map : {A B : Type 0} (f : A → B) (xs : List A) (i : ℕ) (a : A) (b : B) → i < length xs → get_or (map f xs) i b ≡ f (get_or xs i a)
get_or_map f [] i a b l = absurd (omega arith)
get_or_map f (x ∷ xs) zero a b l = refl
get_or_map f (x ∷ xs) (suc i) a b l = get_or_map f xs i a b (omega arith)

module _ (K : Field) (P : Presentation K.Carrier) (T : Table K) (n : ℕ) (row : ℕ → Vector K) (pivot : ℕ → ℕ) where
  pub image_kept : (g : ℕ) → (generator P g).weight ≤ T.weight → (next_table K P T n row pivot).image g ≡ T.image g
  unfolding next_table
  image_kept g l = grind arith

  pub image_filled : (g : ℕ) → (generator P g).weight ≡ suc T.weight → (next_table K P T n row pivot).image g ≡
      means_next K P T n row pivot (place K (generator_number P T g))
  unfolding next_table
  image_filled g l = grind arith

  pub image_past : (g : ℕ) → suc T.weight < (generator P g).weight → (next_table K P T n row pivot).image g ≡ vzero K
  unfolding next_table
  image_past g l = grind arith

  pub entry_kept : (i j : ℕ) → weight_at T i + weight_at T j ≤ T.weight → (next_table K P T n row pivot).entry i j ≡ T.entry i j
  unfolding next_table
  entry_kept i j l = grind arith

  pub entry_filled : (i j : ℕ) → weight_at T i + weight_at T j ≡ suc T.weight → (next_table K P T n row pivot).entry i j ≡
      means_next K P T n row pivot (place K (pair_number P T i j))
  unfolding next_table
  entry_filled i j l = grind arith

  basis_old : (i : ℕ) → i < length T.basis → basis_at (next_table K P T n row pivot) i ≡ basis_at T i
  unfolding next_table
  basis_old i l = get_or_append_left T.basis (map (new_basis P T) (free_list K P T n row pivot)) no_basis i l

  basis_new : (i : ℕ) → i < length (free_list K P T n row pivot) → basis_at (next_table K P T n row pivot) (length T.basis + i) ≡
      new_basis P T (get_or (free_list K P T n row pivot) i 0)
  unfolding next_table
  basis_new i l =
      get_or-append-add T.basis (map (new_basis P T) (free_list K P T n row pivot)) i no_basis ∙
      get_or_map (new_basis P T) (free_list K P T n row pivot) i 0 no_basis l

  basis_more : length (next_table K P T n row pivot).basis ≡ length T.basis + length (free_list K P T n row pivot)
  unfolding next_table
  basis_more = length-append T.basis (map (new_basis P T) (free_list K P T n row pivot)) ∙ ap (λ w. length T.basis + w)
      (length_map (new_basis P T) (free_list K P T n row pivot))

  pub weight_next : (next_table K P T n row pivot).weight ≡ suc T.weight
  unfolding next_table
  weight_next = refl

  pub next_is : IsClosedForm K (length (symbols P T)) (IsSource K P T) n row pivot → IsNext K P T (next_table K P T n row pivot)
  next_is form = record {
    number_of_rows = n;
    row = row;
    pivot = pivot;
    count = length (free_list K P T n row pivot);
    slot = λ i. get_or (free_list K P T n row pivot) i 0;
    form = form;
    free = free_are (length (symbols P T)) n pivot;
    basis = record { weight = weight_next; more = basis_more; old = basis_old; added = basis_new };
    keeps = record { images = λ g l w. image_kept g w; entries = λ i j l k r w. entry_kept i j w; past = λ g l w. image_past g w };
    images = λ g l w. image_filled g w;
    entries = λ i j l k r w. entry_filled i j w;
  }
