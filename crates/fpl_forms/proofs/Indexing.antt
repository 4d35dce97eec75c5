-- How lines are found by their sides, and that those that are put differ.
use Rattle.std.proofs.Common.{◌≡◌, ◌≢◌, ◌≤◌, ◌<◌, ◌+◌, ◌-◌, ◌++◌, ℕ, zero, suc, List, [], ◌∷◌, Bool, true, false, cond, nat_eq, Option, Some, unwrap_or, length, take, get_or, refl, ap, ap₂, sym, subst, ◌∙◌, arith, All}
use native.Mathlib.Decide.{dec_le, dec_lt}
use Rattle.std.proofs.lemmas.List.{get_or_append_left, length-append, length-take-le, get_or-take}
use Rattle.std.proofs.Math.Seq.{get_or-append_seam}
use Rattle.fpl_model.specs.declared.expr.Expr.{Expr}
use Rattle.fpl_lines.specs.declared.line.Line.{Line}
use Rattle.fpl_forms.specs.Ledgers.{no_line}
use Rattle.fpl_forms.specs.Distinct.{line_number, HasSides, HaveNot, AreDistinct, sides_key, key_at, IsLast, IsIndexed}

pub sides_same : (l : Line) (e f : Expr) → HasSides l e f → sides_key l.left l.right ≡ sides_key e f
sides_same l e f h = ap₂ (λ e f. sides_key e f) h.0 h.1

-- what is not among the numbers from n on isn't among those from m on either, where the numbers between have another key
abbrev pub HaveNotAfter : List Line → ℕ → Expr → Expr → Type 0
HaveNotAfter ls n e f = (i : ℕ) → n < i → i ≤ length ls → HasSides (line_number ls i) e f → ⊥

pub none_after_last : (ls : List Line) (e f : Expr) (m : ℕ) → IsLast (key_at ls) (sides_key e f) (length ls) m → HaveNotAfter ls m e f
none_after_last ls e f m h i lt le s = h.none_after i lt le (sides_same (line_number ls i) e f s)

pub none_after_before : (ls : List Line) (e f : Expr) (n m : ℕ) → 1 ≤ n → n ≤ length ls → key_at ls n ≡ sides_key e f →
    (HasSides (line_number ls n) e f → ⊥) → HaveNotAfter ls n e f → IsLast (key_at ls) (key_at ls n) (n - 1) m → HaveNotAfter ls m e f
none_after_before ls e f n m from le key not after h i lt to s = go (dec_lt i n) (dec_lt n i)
  where
    go : Dec (i < n) → Dec (n < i) → ⊥
    go (yes before) d = h.none_after i lt (omega (arith, before)) (sides_same (line_number ls i) e f s ∙ sym key)
    go (no ge) (yes past) = after i past to s
    go (no ge) (no le) = let is : i ≡ n = omega (arith, ge, le) in not (subst (λ j. HasSides (line_number ls j) e f) is s)

-- a line more
module _ (ls : List Line) (l : Line) where
  abbrev all : List Line
  all = ls ++ l ∷ []

  abbrev N : ℕ
  N = length ls

  one_longer : length all ≡ N + 1
  one_longer = length-append ls (l ∷ [])

  old_line : (n : ℕ) → 1 ≤ n → n ≤ N → line_number all n ≡ line_number ls n
  old_line n from le = get_or_append_left ls (l ∷ []) no_line (n - 1) (omega (arith, from, le))

  new_line : (n : ℕ) → n ≡ N + 1 → line_number all n ≡ l
  new_line n is = let at : n - 1 ≡ N = omega (arith, is) in ap (λ i. get_or all i no_line) at ∙ get_or-append_seam ls l [] no_line

  old_key : (n : ℕ) → 1 ≤ n → n ≤ N → key_at all n ≡ key_at ls n
  old_key n from le = ap (λ (l : Line). sides_key l.left l.right) (old_line n from le)

  new_key : (n : ℕ) → n ≡ N + 1 → key_at all n ≡ sides_key l.left l.right
  new_key n is = ap (λ (l : Line). sides_key l.left l.right) (new_line n is)

  pub distinct_more : AreDistinct ls → HaveNot ls l.left l.right → AreDistinct all
  distinct_more h not n m from lt le s = go (dec_le m N)
    where
      go : Dec (m ≤ N) → ⊥
      go (yes old) =
          let a = old_line n from (omega (arith, lt, old)) in
          let b = old_line m (omega (arith, lt)) old in
          h n m from lt old
          (ap (λ (l : Line). l.left) (sym a) ∙ s.0 ∙ ap (λ (l : Line). l.left) b, ap (λ (l : Line). l.right) (sym a) ∙ s.1 ∙ ap (λ (l : Line). l.right) b)
      go (no new) =
          let longer = one_longer in
          let last : m ≡ N + 1 = omega (arith, new, le, longer) in
          let a = old_line n from (omega (arith, lt, last)) in
          let b = new_line m last in
          not n from (omega (arith, lt, last))
          (ap (λ (l : Line). l.left) (sym a) ∙ s.0 ∙ ap (λ (l : Line). l.left) b, ap (λ (l : Line). l.right) (sym a) ∙ s.1 ∙ ap (λ (l : Line). l.right) b)

  last_stays : (h n m : ℕ) → n ≤ N → IsLast (key_at ls) h n m → IsLast (key_at all) h n m
  last_stays h n m le x = record {
    within = x.within;
    key = λ some. let w = x.within in old_key m (omega (arith, some)) (omega (arith, w, le)) ∙ x.key some;
    none_after = λ i lt to e. x.none_after i lt to (sym (old_key i (omega (arith, lt)) (omega (arith, to, le))) ∙ e);
  }

  last_is_new : (h : ℕ) → sides_key l.left l.right ≡ h → IsLast (key_at all) h (length all) (N + 1)
  last_is_new h e =
      let longer = one_longer in
      record {
        within = omega (arith, longer);
        key = λ some. new_key (N + 1) refl ∙ e;
        none_after = λ i lt to. absurd (omega (arith, lt, to, longer));
      }

  last_is_old : (h m : ℕ) → (sides_key l.left l.right ≡ h → ⊥) → IsLast (key_at ls) h N m → IsLast (key_at all) h (length all) m
  last_is_old h m other x =
      let longer = one_longer in
      let w = x.within in
      record {
        within = omega (arith, w, longer);
        key = λ some. old_key m (omega (arith, some)) w ∙ x.key some;
        none_after = λ i lt to e. go i lt (dec_le i N) (let f : i ≤ N + 1 = omega (arith, to, longer) in f) e;
      }
    where
      go : (i : ℕ) → m < i → Dec (i ≤ N) → i ≤ N + 1 → key_at all i ≡ h → ⊥
      go i lt (yes old) to e = x.none_after i lt old (sym (old_key i (omega (arith, lt)) old) ∙ e)
      go i lt (no new) to e = other (sym (new_key i (omega (arith, new, to))) ∙ e)

  module _ (last next : ℕ → Option ℕ) (before : List ℕ) (key m : ℕ) (is : key ≡ sides_key l.left l.right) (prior : IsLast (key_at ls) key N m)
      (put : (h : ℕ) → next h ≡ cond (nat_eq key h) (Some (N + 1)) (last h)) where
    lasts_more : IsIndexed ls last before → (h : ℕ) → IsLast (key_at all) h (length all) (unwrap_or (next h) 0)
    lasts_more x h = subst (λ o. IsLast (key_at all) h (length all) (unwrap_or o 0)) (sym (put h)) (go (nat_eq key h) refl)
      where
        go : (b : Bool) → nat_eq key h ≡ b → IsLast (key_at all) h (length all) (unwrap_or (cond b (Some (N + 1)) (last h)) 0)
        go true e = last_is_new h (let same : key ≡ h = grind (arith, e) in sym is ∙ same)
        go false e = last_is_old h (unwrap_or (last h) 0) (λ f. let same : key ≡ h = is ∙ f in grind (arith, e, same)) (x.lasts h)

    pub indexed_more : IsIndexed ls last before → IsIndexed all next (before ++ m ∷ [])
    indexed_more x = record {
      count = length-append before (m ∷ []) ∙ ap (λ n. n + 1) x.count ∙ sym one_longer;
      lasts = lasts_more x;
      befores = λ n from to. go n from to (dec_le n N);
    }
      where
        go : (n : ℕ) → 1 ≤ n → n ≤ length all → Dec (n ≤ N) → IsLast (key_at all) (key_at all n) (n - 1) (get_or (before ++ m ∷ []) (n - 1) 0)
        go n from to (yes old) =
            let count = x.count in
            subst (λ m. IsLast (key_at all) (key_at all n) (n - 1) m)
            (sym (get_or_append_left before (m ∷ []) 0 (n - 1) (omega (arith, from, old, count))))
            (subst (λ h. IsLast (key_at all) h (n - 1) (get_or before (n - 1) 0)) (sym (old_key n from old))
            (last_stays (key_at ls n) (n - 1) (get_or before (n - 1) 0) (omega (arith, old)) (x.befores n from old)))
        go n from to (no new) =
            let count = x.count in
            let longer = one_longer in
            let end : n ≡ N + 1 = omega (arith, new, to, longer) in
            let at : n - 1 ≡ length before = omega (arith, end, count) in
            let same : n - 1 ≡ N = omega (arith, end) in
            subst (λ m. IsLast (key_at all) (key_at all n) (n - 1) m)
            (sym (ap (λ i. get_or (before ++ m ∷ []) i 0) at ∙ get_or-append_seam before m [] 0))
            (subst (λ h. IsLast (key_at all) h (n - 1) m) (is ∙ sym (new_key n end))
            (subst (λ i. IsLast (key_at all) key i m) (sym same) (last_stays key N m (omega arith) prior)))

pub no_lines_indexed : (last : ℕ → Option ℕ) → ((h : ℕ) → unwrap_or (last h) 0 ≡ 0) → AreDistinct [] × IsIndexed [] last []
no_lines_indexed last none = (
  λ n m from lt le s. absurd (omega (arith, lt, le)),
  record {
    count = refl;
    lasts = λ h. subst (IsLast (key_at []) h 0) (sym (none h))
        (record { within = omega arith; key = λ some. absurd (omega (arith, some)); none_after = λ i lt le. absurd (omega (arith, lt, le)) });
    befores = λ n from le. absurd (omega (arith, from, le));
  },
)

pub first_distinct : (ls : List Line) (n : ℕ) → n ≤ length ls → AreDistinct ls → AreDistinct (take n ls)
first_distinct ls n le h i j from lt to s =
    let count = length-take-le n ls le in
    let same : (m : ℕ) → 1 ≤ m → m ≤ n → line_number (take n ls) m ≡ line_number ls m = λ m f t. get_or-take n ls (m - 1) no_line (omega (arith, f, t)) in
    let a = same i from (omega (arith, lt, to, count)) in
    let b = same j (omega (arith, lt)) (omega (arith, to, count)) in
    h i j from lt (omega (arith, to, count, le))
    (ap (λ (l : Line). l.left) (sym a) ∙ s.0 ∙ ap (λ (l : Line). l.left) b, ap (λ (l : Line). l.right) (sym a) ∙ s.1 ∙ ap (λ (l : Line). l.right) b)
