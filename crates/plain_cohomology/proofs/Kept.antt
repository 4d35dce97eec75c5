-- What a filter keeps, and rows that are all formed.
use Rattle.std.specs.Prelude.{◌≡◌, ◌≢◌, ℕ, zero, suc, ◌<◌, ◌⊎◌, List, [], ◌∷◌, length, get_or, filter, nat_eq, Bool, true, false, cond, Result, Ok, Err}
use mathlib.Core.Logic.{inl, inr}
use mathlib.Core.Path.{sym, refl, ap, ◌∙◌, subst}
use native.Mathlib.Omega.{arith}
use Rattle.fpl_numbers.specs.declared.number.Num.{Num}
use Rattle.fpl_numbers.specs.declared.number.Unfit.{Unfit}
use Rattle.fpl_rows.specs.Meaning.{pivot_of, pivot_in}
use Rattle.fpl_rows.proofs.Fits.{ok_same, ok_not_err, part_fits}
use Rattle.plain_spans.proofs.Among.{Among}
use Rattle.plain_cohomology.specs.Plain.{all_of, is_pivot}

-- ys are those of xs at the places slot 0 < slot 1 < .., which are those that pass the test
pub record IsKept {X : Type 0} (test : X → Bool) (xs ys : List X) (d : X) (slot : ℕ → ℕ) : Type 0 where
  pub there : (k : ℕ) → k < length ys → (slot k < length xs) × (test (get_or xs (slot k) d) ≡ true)
  pub ascend : (k l : ℕ) → k < l → l < length ys → slot k < slot l
  pub all : (s : ℕ) → s < length xs → test (get_or xs s d) ≡ true → (k : ℕ) × (k < length ys) × (slot k ≡ s)
  pub is : (k : ℕ) → k < length ys → get_or ys k d ≡ get_or xs (slot k) d

abbrev pub later : (ℕ → ℕ) → ℕ → ℕ
later slot k = suc (slot k)

abbrev pub first_then : (ℕ → ℕ) → ℕ → ℕ
first_then slot zero = 0
first_then slot (suc k) = suc (slot k)

bool_no : false ≡ true → ⊥
bool_no e = cc

module _ {X : Type 0} (test : X → Bool) (x : X) (xs ys : List X) (d : X) (slot : ℕ → ℕ) (h : IsKept test xs ys d slot) where
  keeps : test x ≡ true → IsKept test (x ∷ xs) (x ∷ ys) d (first_then slot)
  keeps t = record { there = there; ascend = ascend; all = all; is = is }
    where
      there : (k : ℕ) → k < length (x ∷ ys) → (first_then slot k < length (x ∷ xs)) × (test (get_or (x ∷ xs) (first_then slot k) d) ≡ true)
      there zero l = (omega arith, t)
      there (suc k) l = (let r = h.there k (omega arith) in (omega (arith, r.0), r.1))

      ascend : (k l : ℕ) → k < l → l < length (x ∷ ys) → first_then slot k < first_then slot l
      ascend k zero m n = absurd (omega arith)
      ascend zero (suc l) m n = omega arith
      ascend (suc k) (suc l) m n = (let a = h.ascend k l (omega arith) (omega arith) in omega arith)

      all : (s : ℕ) → s < length (x ∷ xs) → test (get_or (x ∷ xs) s d) ≡ true → (k : ℕ) × (k < length (x ∷ ys)) × (first_then slot k ≡ s)
      all zero l e = (0, (omega arith), refl)
      all (suc s) l e = (let r = h.all s (omega arith) e in (suc r.0, (omega (arith, r.1)), ap suc r.2))

      is : (k : ℕ) → k < length (x ∷ ys) → get_or (x ∷ ys) k d ≡ get_or (x ∷ xs) (first_then slot k) d
      is zero l = refl
      is (suc k) l = h.is k (omega arith)

  skips : test x ≡ false → IsKept test (x ∷ xs) ys d (later slot)
  skips f = record {
    there = λ k l. let r = h.there k l in (omega (arith, r.0), r.1);
    ascend = λ k l m n. (let a = h.ascend k l m n in omega arith);
    all = all;
    is = h.is;
  }
    where
      all : (s : ℕ) → s < length (x ∷ xs) → test (get_or (x ∷ xs) s d) ≡ true → (k : ℕ) × (k < length ys) × (later slot k ≡ s)
      all zero l e = absurd (bool_no (sym f ∙ e))
      all (suc s) l e = (let r = h.all s (omega arith) e in (r.0, r.1, ap suc r.2))

pub kept_slots : {X : Type 0} (test : X → Bool) (xs : List X) (d : X) → (slot : ℕ → ℕ) × IsKept test xs (filter test xs) d slot
kept_slots test [] d = (
  (λ k. 0),
  record {
    there = λ k l. absurd (omega arith);
    ascend = λ k l m n. absurd (omega arith);
    all =
        λ s l. absurd (omega arith);
    is = λ k l. absurd (omega arith);
  },
)
kept_slots {X} test (x ∷ xs) d = go (test x) refl (kept_slots test xs d)
  where
    go : (b : Bool) → test x ≡ b → (slot : ℕ → ℕ) × IsKept test xs (filter test xs) d slot →
        (slot : ℕ → ℕ) × IsKept test (x ∷ xs) (cond b (x ∷ filter test xs) (filter test xs)) d slot
    go true t r = (first_then r.0, keeps test x xs (filter test xs) d r.0 r.1 t)
    go false t r = (later r.0, skips test x xs (filter test xs) d r.0 r.1 t)

-- pivots of rows
pub pivot_among : (rows : List (List Num)) (q : ℕ) → is_pivot rows q ≡ true → (j : ℕ) × (j < length rows) × (pivot_in rows j ≡ q)
pivot_among [] q e = absurd (bool_no e)
pivot_among (r ∷ rs) q e = go (nat_eq (pivot_of r) q) refl e (pivot_among rs q)
  where
    go : (b : Bool) → nat_eq (pivot_of r) q ≡ b → cond b true (is_pivot rs q) ≡ true → (is_pivot rs q ≡ true →
        (j : ℕ) × (j < length rs) × (pivot_in rs j ≡ q)) → (j : ℕ) × (j < length (r ∷ rs)) × (pivot_in (r ∷ rs) j ≡ q)
    go true t e k = (0, (omega arith), (let a : pivot_of r ≡ q = grind arith in a))
    go false t e k = (let p = k e in (suc p.0, (omega (arith, p.1)), p.2))

pub pivot_not : (rows : List (List Num)) (q : ℕ) → is_pivot rows q ≡ false → (j : ℕ) → j < length rows → pivot_in rows j ≢ q
pivot_not [] q e j l f = absurd (omega arith)
pivot_not (r ∷ rs) q e j l f = go (nat_eq (pivot_of r) q) refl e (λ e j l. pivot_not rs q e j l) j l f
  where
    go : (b : Bool) → nat_eq (pivot_of r) q ≡ b → cond b true (is_pivot rs q) ≡ false → (is_pivot rs q ≡ false → (j : ℕ) → j < length rs →
        pivot_in rs j ≢ q) → (j : ℕ) → j < length (r ∷ rs) → pivot_in (r ∷ rs) j ≡ q → ⊥
    go true t e further j l f = bool_no (sym e)
    go false t e further zero l f = bool_no (sym t ∙ subst (λ p. nat_eq p q ≡ true) (sym f) (itself q))
      where
        itself : (q : ℕ) → nat_eq q q ≡ true
        itself q = grind arith
    go false t e further (suc j) l f = further e j (omega arith) f

-- rows that are all formed
pub all_among : (rs : List (Result (List Num) Unfit)) (rows : List (List Num)) → all_of rs ≡ Ok rows → (row : List Num) → Among rows row → Among rs (Ok row)
all_among [] rows e row h = absurd (subst (λ rows. Among rows row) (sym (ok_same e)) h)
all_among (Err u ∷ rs) rows e row h = absurd (ok_not_err (sym e))
all_among (Ok r ∷ rs) rows e row h =
    let p : (rest : List (List Num)) × ((all_of rs ≡ Ok rest) × (rows ≡ r ∷ rest)) = part_fits (λ rows. r ∷ rows) (all_of rs) rows e in
    let k : (r ≡ row) ⊎ Among p.0 row = subst (λ rows. Among rows row) p.1.1 h in
    elim k [
      | inl a ↦ inl (ap Ok a)
      | inr a ↦ inr (all_among rs p.0 p.1.0 row a)
    ]

pub among_all : (rs : List (Result (List Num) Unfit)) (rows : List (List Num)) → all_of rs ≡ Ok rows → (x : Result (List Num) Unfit) → Among rs x →
    (row : List Num) × (x ≡ Ok row) × Among rows row
among_all [] rows e x h = absurd h
among_all (Err u ∷ rs) rows e x h = absurd (ok_not_err (sym e))
among_all (Ok r ∷ rs) rows e x h =
    let p : (rest : List (List Num)) × ((all_of rs ≡ Ok rest) × (rows ≡ r ∷ rest)) = part_fits (λ rows. r ∷ rows) (all_of rs) rows e in
    elim h [
      | inl a ↦ (r, sym a, subst (λ rows. Among rows r) (sym p.1.1) (inl refl))
      | inr a ↦ let q = among_all rs p.0 p.1.0 x a in (q.0, q.1, subst (λ rows. Among rows q.0) (sym p.1.1) (inr q.2))
    ]
