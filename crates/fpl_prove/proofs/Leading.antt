-- The symbols that are no lead, which the new basis elements stand for.
use Rattle.std.proofs.Common.{◌≡◌, ◌≢◌, ◌<◌, ◌+◌, ◌++◌, ℕ, zero, suc, List, [], ◌∷◌, length, map, get_or, refl, ap, sym, subst, ◌∙◌, arith, Bool, true, false, cond, nat_eq}
use native.Mathlib.Decide.{ℕ_discrete}
use Rattle.std.proofs.lemmas.Bool.Decides.{nat_tests}
use Rattle.std.proofs.lemmas.List.{append_assoc}
use Rattle.fpl_numbers.specs.declared.number.Num.{Num}
use Rattle.fpl_rows.specs.Meaning.{pivot_of}
use Rattle.fpl_table.specs.Push.{is_lead, free_in}
use Rattle.fpl_model.specs.declared.expr.Expr.{Expr}
use Rattle.fpl_model.specs.declared.expr.Expr.TheVariants.{Zero}
use Rattle.fpl_prove.specs.Learning.{is_named, free_below, trees_at}

pub named_some : (leads : List ℕ) (k s : ℕ) → k < length leads → get_or leads k 0 ≡ s → is_named leads s ≡ true
named_some [] k s l e = absurd (omega (arith, l))
named_some (x ∷ leads) zero s l e = let is : nat_eq x s ≡ true = grind (arith, nat_tests, e) in ap (λ b. cond b true (is_named leads s)) is
named_some (x ∷ leads) (suc k) s l e = go (nat_eq x s) (named_some leads k s (omega (arith, l)) e)
  where
    go : (b : Bool) → is_named leads s ≡ true → cond b true (is_named leads s) ≡ true
    go true h = refl
    go false h = h

pub named_none : (leads : List ℕ) (s : ℕ) → ((k : ℕ) → k < length leads → get_or leads k 0 ≢ s) → is_named leads s ≡ false
named_none [] s h = refl
named_none (x ∷ leads) s h =
    let other : x ≢ s = h 0 (omega arith) in
    let is : nat_eq x s ≡ false = grind (arith, nat_tests, other) in
    ap (λ b. cond b true (is_named leads s)) is ∙ named_none leads s (λ k l. h (suc k) (omega (arith, l)))

pub free_start : (leads : List ℕ) → free_below leads 0 ≡ []
unfolding free_below
free_start leads = refl

free_suc : (leads : List ℕ) (m : ℕ) → free_below leads (suc m) ≡ cond (is_named leads m) (free_below leads m) (free_below leads m ++ m ∷ [])
unfolding free_below
free_suc leads m = refl

pub free_named : (leads : List ℕ) (m j : ℕ) → j ≡ suc m → is_named leads m ≡ true → free_below leads j ≡ free_below leads m
free_named leads m j e h = ap (free_below leads) e ∙ free_suc leads m ∙ ap (λ b. cond b (free_below leads m) (free_below leads m ++ m ∷ [])) h

pub free_other : (leads : List ℕ) (m j : ℕ) → j ≡ suc m → is_named leads m ≡ false → free_below leads j ≡ free_below leads m ++ m ∷ []
free_other leads m j e h = ap (free_below leads) e ∙ free_suc leads m ∙ ap (λ b. cond b (free_below leads m) (free_below leads m ++ m ∷ [])) h

-- the same by the rows that have these leads
lead_named : (rows : List (List Num)) (s : ℕ) → is_lead rows s ≡ is_named (map pivot_of rows) s
lead_named [] s = refl
lead_named (row ∷ rows) s = ap (cond (nat_eq (pivot_of row) s) true) (lead_named rows s)

pub free_same : (rows : List (List Num)) (m : ℕ) → free_in rows m ≡ free_below (map pivot_of rows) m
unfolding free_in free_below
free_same rows zero = refl
free_same rows (suc m) =
    ap (λ b. cond b (free_in rows m) (free_in rows m ++ m ∷ [])) (lead_named rows m)
    ∙ ap (λ xs. cond (is_named (map pivot_of rows) m) xs (xs ++ m ∷ [])) (free_same rows m)

-- a place that is no lead stands after those below it
pub free_split : (leads : List ℕ) (m n : ℕ) → m < n → is_named leads m ≡ false → (tail : List ℕ) × (free_below leads n ≡ free_below leads m ++ m ∷ tail)
free_split leads m zero l h = absurd (omega (arith, l))
free_split leads m (suc n) l h = elim (ℕ_discrete m n) [
  | yes e ↦ ([], ap (λ n. free_below leads (suc n)) (sym e) ∙ free_other leads m (suc m) refl h)
  | no e ↦
      let r = free_split leads m n (omega (arith, l, e)) h in
      go (is_named leads n) r.0 r.1 (free_suc leads n)
]
  where
    go : (b : Bool) (tail : List ℕ) → free_below leads n ≡ free_below leads m ++ m ∷ tail →
        free_below leads (suc n) ≡ cond b (free_below leads n) (free_below leads n ++ n ∷ []) →
        (tail : List ℕ) × (free_below leads (suc n) ≡ free_below leads m ++ m ∷ tail)
    go true tail e f = (tail, f ∙ e)
    go false tail e f = (tail ++ n ∷ [], f ∙ ap (λ xs. xs ++ n ∷ []) e ∙ append_assoc (free_below leads m) (m ∷ tail) (n ∷ []))

at_seam : (old : List Expr) (f : ℕ → Expr) (xs tail : List ℕ) (m i : ℕ) (d : Expr) → i ≡ length old + length xs →
    (i < length (old ++ map f (xs ++ m ∷ tail))) × (get_or (old ++ map f (xs ++ m ∷ tail)) i d ≡ f m)
at_seam [] f [] tail m zero d e = (omega arith, refl)
at_seam [] f [] tail m (suc i) d e = absurd (omega (arith, e))
at_seam [] f (x ∷ xs) tail m zero d e = absurd (omega (arith, e))
at_seam [] f (x ∷ xs) tail m (suc i) d e = let h = at_seam [] f xs tail m i d (omega (arith, e)) in ((let l = h.0 in omega (arith, l)), h.1)
at_seam (o ∷ old) f xs tail m zero d e = absurd (omega (arith, e))
at_seam (o ∷ old) f xs tail m (suc i) d e = let h = at_seam old f xs tail m i d (omega (arith, e)) in ((let l = h.0 in omega (arith, l)), h.1)

-- the basis element that a symbol is which is no lead
pub element_here : (old basis trees : List Expr) (leads : List ℕ) (m i n : ℕ) → n ≡ length trees → basis ≡ old ++ trees_at trees (free_below leads n) → m < n →
    is_named leads m ≡ false → i ≡ length old + length (free_below leads m) →
    (i < length basis) × (get_or basis i Zero ≡ get_or trees m Zero)
element_here old basis trees leads m i n count is l h e =
    let split = free_split leads m n l h in
    subst (λ (es : List Expr). (i < length es) × (get_or es i Zero ≡ get_or trees m Zero)) (sym (is ∙ ap (λ ss. old ++ trees_at trees ss) split.1))
    (at_seam old (λ s. get_or trees s Zero) (free_below leads m) split.0 m i Zero e)
