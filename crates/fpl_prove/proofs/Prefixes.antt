-- The sections that raised a table: each is accepted over what those before it raise.
use Rattle.std.specs.Prelude.{ℕ, zero, suc, ◌+◌, ◌≡◌, ◌≤◌, ◌<◌, List, [], ◌∷◌, ◌++◌, length, take, slice_get, Some, None}
use mathlib.Core.Path.{refl, sym, ap, subst, ◌∙◌}
use native.Mathlib.Omega.{arith}
use native.Mathlib.Decide.{dec_lt}
use Rattle.std.proofs.lemmas.List.{length-append, length-take-le, take-append-le}
use Rattle.std.proofs.lemmas.Option.{slice_get_within, get_or_from_slice_get}
use Rattle.std.proofs.Math.Seq.{take-append_seam, take-suc}
use Rattle.fpl_numbers.specs.declared.number.Num.{Num}
use Rattle.fpl_log.specs.declared.section.Section.{Section}
use Rattle.fpl_model.specs.declared.presentation.Presentation.{Presentation}
use Rattle.fpl_model.specs.Sound.{IsSound}
use Rattle.fpl_table.specs.Plain.{PlainTable, symbols_in}
use Rattle.fpl_table.specs.Push.{push_of}
use Rattle.fpl_table.specs.Standard.{start_of, count_through}
use Rattle.plain_tables.specs.Holds.{Holds}
use Rattle.plain_tables.proofs.Holding.{start_holds, push_holds}
use Rattle.plain_sources.proofs.HeldTables.{is_field}
use Rattle.fpl_rewrite.proofs.SymbolCounts.{symbols_counted}
use Rattle.plain_weights.proofs.Counts.{counts_pushed}
use Rattle.fpl_check.specs.Premises.{IsSectionFor}
use Rattle.fpl_check.specs.Check.{Accepts, rows_stored}
use Rattle.fpl_check.proofs.PassedRows.{passes}
use Rattle.fpl_check.proofs.LawsPassed.{accepted_closed, accepted_spans}
use Rattle.fpl_complete.specs.State.{AreAccepted}
use Rattle.fpl_complete.specs.State.AreAccepted.{at_start, one_more}
use Rattle.fpl_prove.specs.Prefixes.{after, IsNextSection, AreNextSections}

slice_front : {X : Type 0} (xs ys : List X) (k : ℕ) → k < length xs → slice_get (xs ++ ys) k ≡ slice_get xs k
slice_front [] ys k l = absurd (omega (arith, l))
slice_front (x ∷ xs) ys zero l = refl
slice_front (x ∷ xs) ys (suc k) l = slice_front xs ys k (omega (arith, l))

slice_seam : {X : Type 0} (xs : List X) (y : X) (ys : List X) → slice_get (xs ++ y ∷ ys) (length xs) ≡ Some y
slice_seam [] y ys = refl
slice_seam (x ∷ xs) y ys = slice_seam xs y ys

some_is : {X : Type 0} {x y : X} → Some x ≡ Some y → x ≡ y
some_is e = cc

pub after_more : (T : PlainTable) (ss : List Section) (s : Section) → after T (ss ++ s ∷ []) ≡ push_of (after T ss) (rows_stored (after T ss) s)
after_more T [] s = refl
after_more T (r ∷ ss) s = after_more (push_of T (rows_stored T r)) ss s

pub after_weight : (T : PlainTable) (ss : List Section) → (after T ss).weight ≡ T.weight + length ss
after_weight T [] = omega arith
after_weight T (s ∷ ss) = let e = after_weight (push_of T (rows_stored T s)) ss in omega (arith, e)

pub weight_after : (p : Presentation) (ss : List Section) (n : ℕ) (T : PlainTable) → T ≡ after (start_of p) (take n ss) → n ≤ length ss → T.weight ≡ n
weight_after p ss n T is l =
    let a = ap (λ (B : PlainTable). B.weight) is in
    let b = after_weight (start_of p) (take n ss) in
    let d = length-take-le n ss l in
    omega (arith, a, b, d)

module _ (p : Presentation) where
  rows_are : (T : PlainTable) (s : Section) (rows : List (List Num)) → Holds p T → IsSectionFor T s → Accepts T p s rows → rows_stored T s ≡ rows
  rows_are T s rows holds section accepts = (passes T (is_field p T holds) p s section rows accepts).are

  -- the table that accepted sections raise is one
  pub raised_is : (T : PlainTable) (ss : List Section) → AreAccepted p T ss → after (start_of p) ss ≡ T
  raised_is _ _ at_start = refl
  raised_is _ _ (one_more T ss s rows before holds section accepts) =
      after_more (start_of p) ss s ∙ ap (λ B. push_of B (rows_stored B s)) (raised_is T ss before) ∙ ap (push_of T) (rows_are T s rows holds section accepts)

  pub kind_is : (T : PlainTable) (ss : List Section) → AreAccepted p T ss → T.kind ≡ p.field
  kind_is _ _ at_start = refl
  kind_is _ _ (one_more T ss s rows before holds section accepts) = kind_is T ss before

  -- one weight less, and its symbols
  few_below : (T : PlainTable) (rows : List (List Num)) → Holds p T → count_through (push_of T rows) (suc T.weight) ≤ 2000000 →
      (count_through T T.weight ≤ 2000000) × (length (symbols_in T) ≤ 2000000)
  few_below T rows holds few =
      let e = counts_pushed T holds.shape rows (suc T.weight) (omega arith) in
      let s = symbols_counted T in
      (omega (arith, e, few), omega (arith, e, s, few))

  pub all_hold : (T : PlainTable) (ss : List Section) → IsSound p → AreAccepted p T ss → T.weight ≤ 1000 → count_through T T.weight ≤ 2000000 → Holds p T
  all_hold _ _ sound at_start light few = start_holds p sound
  all_hold _ _ sound (one_more T ss s rows before holds section accepts) light few =
      push_holds p T rows holds (omega (arith, light)) (few_below T rows holds few).1 (accepted_closed p T s holds section rows accepts)
      (accepted_spans p T s holds section rows accepts)

  next_at : (T : PlainTable) (s r : Section) (rows : List (List Num)) → Holds p T → T.weight < 1000 → length (symbols_in T) ≤ 2000000 →
      IsSectionFor T s → Accepts T p s rows → s ≡ r → IsNextSection p T r
  next_at T s r rows holds light few section accepts e = record {
    weight = light;
    few = few;
    section = subst (IsSectionFor T) e section;
    accepted = subst (λ x. Accepts T p x (rows_stored T x)) e (subst (Accepts T p s) (sym (rows_are T s rows holds section accepts)) accepts);
  }

  pub next_sections : (T : PlainTable) (ss : List Section) → AreAccepted p T ss → T.weight ≤ 1000 → count_through T T.weight ≤ 2000000 → AreNextSections p ss
  next_sections _ _ at_start light few k s e = cc
  next_sections _ _ (one_more T ss s rows before holds section accepts) light few k r e =
      go (dec_lt k (length ss)) (next_sections T ss before (omega (arith, light)) (few_below T rows holds few).0 k r)
    where
      go : Dec (k < length ss) → (slice_get ss k ≡ Some r → IsNextSection p (after (start_of p) (take k ss)) r) →
          IsNextSection p (after (start_of p) (take k (ss ++ s ∷ []))) r
      go (yes l) below =
          subst (λ xs. IsNextSection p (after (start_of p) xs) r) (sym (take-append-le k ss (s ∷ []) (omega (arith, l))))
          (below (sym (slice_front ss (s ∷ []) k l) ∙ e))
      go (no n) below =
          let w = slice_get_within (ss ++ s ∷ []) k r e in
          let m : k ≡ length ss = omega (arith, n, w, length-append ss (s ∷ [])) in
          subst (λ xs. IsNextSection p (after (start_of p) xs) r) (sym (ap (λ i. take i (ss ++ s ∷ [])) m ∙ take-append_seam ss (s ∷ [])))
          (subst (λ B. IsNextSection p B r) (sym (raised_is T ss before))
          (next_at T s r rows holds (omega (arith, light)) (few_below T rows holds few).1 section accepts
          (some_is (sym (slice_seam ss s []) ∙ ap (slice_get (ss ++ s ∷ [])) (sym m) ∙ e))))

pub none_past : {X : Type 0} (xs : List X) (k : ℕ) → k < length xs → slice_get xs k ≡ None → ⊥
none_past [] k l e = omega (arith, l)
none_past (x ∷ xs) zero l e = cc
none_past (x ∷ xs) (suc k) l e = none_past xs k (omega (arith, l)) e

module _ (p : Presentation) (ss : List Section) (k : ℕ) (s : Section) (T : PlainTable) (is : T ≡ after (start_of p) (take k ss))
    (e : slice_get ss k ≡ Some s) where
  pub next_here : AreNextSections p ss → IsNextSection p T s
  next_here h = subst (λ B. IsNextSection p B s) (sym is) (h k s e)

  pub after_here : (U : PlainTable) → U ≡ push_of T (rows_stored T s) → U ≡ after (start_of p) (take (k + 1) ss)
  after_here U new =
      let more : take (suc k) ss ≡ take k ss ++ s ∷ [] =
      take-suc ss k s (slice_get_within ss k s e) ∙ ap (λ x. take k ss ++ x ∷ []) (get_or_from_slice_get ss k s s e) in
      let up : suc k ≡ k + 1 = omega arith in
      new ∙ ap (λ B. push_of B (rows_stored B s)) is ∙ sym (after_more (start_of p) (take k ss) s)
      ∙ sym (ap (λ n. after (start_of p) (take n ss)) (sym up) ∙ ap (after (start_of p)) more)
