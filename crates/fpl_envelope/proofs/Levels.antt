-- Rows that are kept, level by level.
use Rattle.std.proofs.Common.{ℕ, suc, ◌≡◌, ◌<◌, ◌≤◌, ◌+◌, ◌-◌, List, [], ◌∷◌, ◌++◌, length, get_or, map, sym, ap, ◌∙◌, subst, arith}
use Rattle.std.proofs.lemmas.List.{length-map, length-append, get_or_append_left}
use native.Mathlib.Decide.{dec_lt}
use Rattle.fpl_numbers.specs.declared.number.Num.{Num}
use Rattle.fpl_table.specs.Plain.{PlainTable, plain_basis, through}
use Rattle.fpl_table.proofs.Lists.{map_at, at_default, at_middle}
use Rattle.fpl_envelope.specs.Counts.{skipped_in, AreCounts}
use Rattle.fpl_envelope.specs.Action.{StandsFor, acted}
use Rattle.fpl_envelope.specs.Kept.{IsElementRows, HasElement, IsLevelFrom, Kept, AreProducts}

pub kept_row : {R : Type 0} (T : PlainTable) (w i : ℕ) (f : R → List (List Num)) (elements : List R) (level : List (List (List Num))) →
    level ≡ map f elements →
    (p : ℕ) → through T w - suc i ≡ p → (k : ℕ) → HasElement T w i level → k < skipped_in T (w - (plain_basis T i).weight) i →
    (rows : R) → rows ≡ get_or elements p rows → (row : List Num) → row ≡ get_or (f rows) k row →
    StandsFor T w (acted T i (w - (plain_basis T i).weight) k) row
kept_row T w i f elements level seen p place k has l rows at row is =
    subst (StandsFor T w (acted T i (w - (plain_basis T i).weight) k))
    (ap (λ r. get_or r k []) there ∙ at_default (f rows) k [] row (subst (λ r. k < length r) there inside) is) (has.rows.stand k inside)
  where
    inside : k < length (get_or level (through T w - suc i) [])
    inside = let q : length (get_or level (through T w - suc i) []) ≡ skipped_in T (w - (plain_basis T i).weight) i = has.rows.long in omega (arith, q, l)

    there : get_or level (through T w - suc i) [] ≡ f rows
    there =
        ap (λ n. get_or level n []) place ∙ ap (λ xs. get_or xs p []) seen
        ∙ map_at f elements p [] rows
        (let q : length level ≡ length elements = ap length seen ∙ length-map elements f in let r : through T w - suc i < length level = has.within in
        omega (arith, q, r, place)) at

-- one item more at the end
pub rows_more : {A : Type 0} (P : ℕ → A → Type 0) (d : A) (xs : List A) (x : A) (n : ℕ) → length xs ≡ n → ((k : ℕ) → k < n → P k (get_or xs k d)) → P n x →
    (k : ℕ) → k < n + 1 → P k (get_or (xs ++ x ∷ []) k d)
rows_more P d xs x n l h p k m = by_last (dec_lt k n)
  where
    by_last : Dec (k < n) → P k (get_or (xs ++ x ∷ []) k d)
    by_last (yes q) = subst (P k) (sym (get_or_append_left xs (x ∷ []) d k (omega arith))) (h k q)
    by_last (no q) = let e : n ≡ k = omega arith in
        subst (λ k. P k (get_or (xs ++ x ∷ []) k d)) e (subst (λ n. P n (get_or (xs ++ x
        ∷ []) n d)) l (subst (P (length xs)) (sym (at_middle xs x [] d)) (subst (λ n. P n x) (sym l) p)))

-- the level with the element before
pub level_more : (T : PlainTable) (w n i : ℕ) (level : List (List (List Num))) (rows : List (List Num)) → suc i ≡ n → IsLevelFrom T w n level →
    IsElementRows T w i rows → IsLevelFrom T w i (level ++ rows ∷ [])
level_more T w n i level rows e h r = record {
  long = let q = length-append level (rows ∷ []) in let l : length level + n ≡ through T w = h.long in omega (arith, q, l, e);
  has = λ m l k. by_last m l k (dec_lt i m);
}
  where
    by_last : (m : ℕ) → i ≤ m → m < through T w → Dec (i < m) → HasElement T w m (level ++ rows ∷ [])
    by_last m l k (yes d) =
        let old = h.has m (omega arith) k in
        let within : through T w - suc m < length level = old.within in
        let q = length-append level (rows ∷ []) in
        record {
          within = omega (arith, within, q);
          rows = subst (IsElementRows T w m) (sym (get_or_append_left level (rows ∷ []) [] (through T w - suc m) within)) old.rows;
        }
    by_last m l k (no d) =
        let q = length-append level (rows ∷ []) in
        let a : length level + n ≡ through T w = h.long in
        let same : i ≡ m = omega arith in
        let place : length level ≡ through T w - suc m = omega (arith, a, e, same) in
        record {
          within = omega (arith, place, q);
          rows = subst (λ p. IsElementRows T w m (get_or (level ++ rows ∷ []) p [])) place
              (subst (IsElementRows T w m) (sym (at_middle level rows [] [])) (subst (λ m. IsElementRows T w m rows) same r));
        }

pub products_more : (T : PlainTable) (kept new : Kept) (w : ℕ) (level : List (List (List Num))) → AreProducts T kept → w ≡ length kept.levels →
    w < length kept.counts → IsLevelFrom T w 0 level → new ≡ record { counts = kept.counts; levels = kept.levels ++ level ∷ [] } → AreProducts T new
products_more T kept new w level h e l r is = subst (AreProducts T) (sym is) (record {
  counts = h.counts;
  levels = λ v m. rows_more (λ v x. IsLevelFrom T v 0 x) [] kept.levels level w (sym e) (λ v k. h.levels v (omega arith)) r v
      (let q = length-append kept.levels (level ∷ []) in omega (arith, q, m, e));
  within = let q = length-append kept.levels (level ∷ []) in omega (arith, q, e, l);
})
