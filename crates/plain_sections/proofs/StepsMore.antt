-- One step more: what stood before stands on, and its conclusion comes last.
use Rattle.std.specs.Prelude.{◌≡◌, ℕ, zero, suc, ◌+◌, ◌-◌, ◌<◌, ◌≤◌, List, [], ◌∷◌, ◌++◌, length, get_or, slice_get, Option, Some, None, Ok, Bool, true, ◌&&◌, nat_le, nat_lt, All}
use mathlib.Core.Path.{refl, sym, ap, ◌∙◌, subst}
use native.Mathlib.Omega.{arith}
use Rattle.std.proofs.lemmas.List.{append_assoc, append-nil, length-append, get_or_append_left, get_or_push}
use Rattle.fpl_numbers.specs.declared.number.Num.{Num}
use Rattle.fpl_rows.proofs.Fits.{none_some, all_head, all_tail}
use Rattle.fpl_model.specs.declared.presentation.Presentation.{Presentation}
use Rattle.fpl_log.specs.declared.terms.Term.{Term}
use Rattle.fpl_log.specs.declared.step.Step.{Step}
use Rattle.fpl_log.specs.declared.step.Step.TheVariants.{Insert, Close}
use Rattle.plain_elimination.specs.Plain.{PivotRow}
use Rattle.fpl_table.specs.Plain.{PlainTable}
use Rattle.fpl_check.specs.declared.cites.Cited.{Cited}
use Rattle.fpl_check.specs.declared.cites.Cited.TheVariants.{Inserts, Closes}
use Rattle.fpl_check.specs.declared.fault.Spot.TheVariants.{Step as AtStep}
use Rattle.fpl_check.specs.declared.fault.Why.TheVariants.{BadCite}
use Rattle.fpl_check.specs.Refusal.{passing, demand}
use Rattle.fpl_check.specs.Cited.{named}
use Rattle.fpl_check.specs.Steps.{is_insert, is_close, test_cites}
use Rattle.fpl_check.specs.ClosedRows.{close_rows}
use Rattle.fpl_check.proofs.Loops.{both_true}
use Rattle.fpl_check.proofs.RowLoops.{and_true, below_true}
use Rattle.plain_sections.proofs.Tests.{most_true}
use Rattle.fpl_check.proofs.StepParts.{all_cited, StepParts}
use Rattle.fpl_check.proofs.Conclusions.{Concludes}

-- a step of the sort
abbrev pub is_sort : Cited → Option Step → Bool
is_sort Inserts o = is_insert o
is_sort Closes o = is_close o

none_sort : (sort : Cited) → is_sort sort None ≡ true → ⊥
none_sort Inserts e = cc
none_sort Closes e = cc

got_more : {X : Type 0} (xs ys : List X) (i : ℕ) (x : X) → slice_get xs i ≡ Some x → slice_get (xs ++ ys) i ≡ Some x
got_more [] ys i x e = absurd (none_some e)
got_more (y ∷ xs) ys zero x e = e
got_more (y ∷ xs) ys (suc i) x e = got_more xs ys i x e

got_last : {X : Type 0} (xs : List X) (x : X) → slice_get (xs ++ x ∷ []) (length xs) ≡ Some x
got_last [] x = refl
got_last (y ∷ xs) x = got_last xs x

sort_more : (sort : Cited) (steps more : List Step) (i : ℕ) → is_sort sort (slice_get steps i) ≡ true → is_sort sort (slice_get (steps ++ more) i) ≡ true
sort_more sort steps more i e = go (slice_get steps i) refl e
  where
    go : (o : Option Step) → slice_get steps i ≡ o → is_sort sort o ≡ true → is_sort sort (slice_get (steps ++ more) i) ≡ true
    go None f h = absurd (none_sort sort h)
    go (Some x) f h = ap (is_sort sort) (got_more steps more i x f) ∙ h

split_named : (sort : Cited) (steps : List Step) (n m : ℕ) → named sort steps n m ≡ (nat_le 1 m && nat_lt m n && is_sort sort (slice_get steps (m - 1)))
split_named Inserts steps n m = refl
split_named Closes steps n m = refl

within_true : (n m : ℕ) → 1 ≤ m → m < n → (nat_le 1 m && nat_lt m n) ≡ true
within_true n m a b = and_true (nat_le 1 m) (nat_lt m n) (most_true 1 m a) (below_true m n b)

pub named_is : (sort : Cited) (steps : List Step) (n m : ℕ) → 1 ≤ m → m < n → is_sort sort (slice_get steps (m - 1)) ≡ true → named sort steps n m ≡ true
named_is sort steps n m a b e = split_named sort steps n m
    ∙ and_true (nat_le 1 m && nat_lt m n) (is_sort sort (slice_get steps (m - 1))) (within_true n m a b) e

pub named_sort : (sort : Cited) (steps : List Step) (n m : ℕ) → named sort steps n m ≡ true → is_sort sort (slice_get steps (m - 1)) ≡ true
named_sort sort steps n m e = (both_true (nat_le 1 m && nat_lt m n) (is_sort sort (slice_get steps (m - 1))) (sym (split_named sort steps n m) ∙ e)).1

named_more : (sort : Cited) (steps more : List Step) (n m : ℕ) → named sort steps n m ≡ true → named sort (steps ++ more) n m ≡ true
named_more sort steps more n m e =
    let a = both_true (nat_le 1 m && nat_lt m n) (is_sort sort (slice_get steps (m - 1))) (sym (split_named sort steps n m) ∙ e) in
    split_named sort (steps ++ more) n m
    ∙ and_true (nat_le 1 m && nat_lt m n) (is_sort sort (slice_get (steps ++ more) (m - 1))) a.0 (sort_more sort steps more (m - 1) a.1)

pub cites_all : (named : ℕ → Bool) (n : ℕ) (ts : List Term) → All (λ t. named t.step ≡ true) ts → test_cites named n ts ≡ Ok tt
cites_all named n [] all = refl
cites_all named n (t ∷ ts) all =
    ap (λ b. passing (demand b (AtStep n) (BadCite t.step)) (test_cites named n ts)) (all_head (λ t. named t.step ≡ true) t ts all)
    ∙ cites_all named n ts (all_tail (λ t. named t.step ≡ true) t ts all)

cites_more : (sort : Cited) (steps more : List Step) (n : ℕ) (ts : List Term) → test_cites (named sort steps n) n ts ≡ Ok tt →
    test_cites (named sort (steps ++ more) n) n ts ≡ Ok tt
cites_more sort steps more n ts e = cites_all (named sort (steps ++ more) n) n ts
    (λ i d l. named_more sort steps more n (get_or ts i d).step (all_cited (named sort steps n) n ts e i d l))

pub close_rows_more : (ss : List Step) (rest : List (List Num)) (s : Step) (row : List Num) → length rest ≡ length ss →
    close_rows (ss ++ s ∷ []) (rest ++ row ∷ []) ≡ close_rows ss rest ++ close_rows (s ∷ []) (row ∷ [])
close_rows_more [] [] s row e = refl
close_rows_more [] (x ∷ rest) s row e = absurd (omega (arith, e))
close_rows_more (r ∷ ss) [] s row e = absurd (omega (arith, e))
close_rows_more ((Insert o ts k) ∷ ss) (x ∷ rest) s row e = close_rows_more ss rest s row (omega (arith, e))
close_rows_more ((Close of ts) ∷ ss) (x ∷ rest) s row e = ap (λ xs. x ∷ xs) (close_rows_more ss rest s row (omega (arith, e)))

module _ (T : PlainTable) (p : Presentation) where
  parts_more : (steps more : List Step) (earlier : List (List Num)) (s : Step) (row : List Num) → StepParts T p steps earlier s row →
      StepParts T p (steps ++ more) earlier s row
  parts_more steps more earlier (Insert o ts k) row h =
      record {
        origin_is = h.origin_is;
        cites = cites_more Inserts steps more (length earlier + 1) ts h.cites;
        source = h.source;
        reads = h.reads;
        concludes = h.concludes;
        dependent = h.dependent;
      }
  parts_more steps more earlier (Close of ts) row h =
      record {
        of_named = named_more Inserts steps more (length earlier + 1) of h.of_named;
        cites = cites_more Closes steps more (length earlier + 1) ts h.cites;
        concludes = h.concludes;
      }

  concludes_more : (steps more : List Step) (ss : List Step) (earlier rest : List (List Num)) → Concludes T p steps earlier ss rest →
      Concludes T p (steps ++ more) earlier ss rest
  concludes_more steps more [] earlier [] h = tt
  concludes_more steps more [] earlier (x ∷ rest) h = absurd h
  concludes_more steps more (s ∷ ss) earlier [] h = absurd h
  concludes_more steps more (s ∷ ss) earlier (x ∷ rest) h = (parts_more steps more earlier s x h.0, concludes_more steps more ss (earlier ++ x ∷ []) rest h.1)

  concludes_last : (steps ss : List Step) (earlier rest : List (List Num)) (s : Step) (row : List Num) → Concludes T p steps earlier ss rest →
      StepParts T p steps (earlier ++ rest) s row → Concludes T p steps earlier (ss ++ s ∷ []) (rest ++ row ∷ [])
  concludes_last steps [] earlier [] s row h last = (subst (λ e. StepParts T p steps e s row) (append-nil earlier) last, tt)
  concludes_last steps [] earlier (x ∷ rest) s row h last = absurd h
  concludes_last steps (r ∷ ss) earlier [] s row h last = absurd h
  concludes_last steps (r ∷ ss) earlier (x ∷ rest) s row h last = (
    h.0,
    concludes_last steps ss (earlier ++ x ∷ []) rest s row h.1
        (subst (λ e. StepParts T p steps e s row) (sym (append_assoc earlier (x ∷ []) rest)) last),
  )

  -- the conclusions of all steps so far
  pub record Told (steps : List Step) (rest : List (List Num)) : Type 0 where
    pub long : length rest ≡ length steps
    pub conclude : Concludes T p steps [] steps rest

  pub told_more : (steps : List Step) (rest : List (List Num)) (s : Step) (row : List Num) → Told steps rest →
      StepParts T p (steps ++ s ∷ []) rest s row → Told (steps ++ s ∷ []) (rest ++ row ∷ [])
  told_more steps rest s row h last = record {
    long = length-append rest (row ∷ []) ∙ ap (λ k. k + 1) h.long ∙ sym (length-append steps (s ∷ []));
    conclude = concludes_last (steps ++ s ∷ []) steps [] rest s row (concludes_more steps (s ∷ []) steps [] rest h.conclude) last;
  }

-- a row is the conclusion of its step, of the sort
pub record IsStepOf (sort : Cited) (steps : List Step) (rest : List (List Num)) (q : PivotRow) : Type 0 where
  pub from_one : 1 ≤ q.step
  pub to_end : q.step ≤ length steps
  pub sort_is : is_sort sort (slice_get steps (q.step - 1)) ≡ true
  pub row : get_or rest (q.step - 1) [] ≡ q.row

pub step_more : (sort : Cited) (steps : List Step) (rest : List (List Num)) (s : Step) (row : List Num) (q : PivotRow) → length rest ≡ length steps →
    IsStepOf sort steps rest q → IsStepOf sort (steps ++ s ∷ []) (rest ++ row ∷ []) q
step_more sort steps rest s row q long h = record {
  from_one = h.from_one;
  to_end = (let a = h.to_end in let b = length-append steps (s ∷ []) in omega (arith, a, b));
  sort_is = sort_more sort steps (s ∷ []) (q.step - 1) h.sort_is;
  row = get_or_append_left rest (row ∷ []) [] (q.step - 1) (let a = h.to_end in let b = h.from_one in omega (arith, a, b, long)) ∙ h.row;
}

pub all_steps_more : (sort : Cited) (steps : List Step) (rest : List (List Num)) (s : Step) (row : List Num) (qs : List PivotRow) →
    length rest ≡ length steps → All (IsStepOf sort steps rest) qs → All (IsStepOf sort (steps ++ s ∷ []) (rest ++ row ∷ [])) qs
all_steps_more sort steps rest s row qs long h i d l = step_more sort steps rest s row (get_or qs i d) long (h i d l)

pub step_last : (sort : Cited) (steps : List Step) (rest : List (List Num)) (s : Step) (row : List Num) (lead : ℕ) → length rest ≡ length steps →
    is_sort sort (Some s) ≡ true →
    IsStepOf sort (steps ++ s ∷ []) (rest ++ row ∷ []) (record { lead = lead; step = length steps + 1; row = row })
step_last sort steps rest s row lead long e =
    let at : length steps ≡ length steps + 1 - 1 = omega arith in
    record {
      from_one = omega arith;
      to_end = (let b = length-append steps (s ∷ []) in omega (arith, b));
      sort_is = ap (λ i. is_sort sort (slice_get (steps ++ s ∷ []) i)) (sym at) ∙ ap (is_sort sort) (got_last steps s) ∙ e;
      row = get_or_push rest row [] (length steps + 1 - 1) (long ∙ at);
    }

-- such a step may be cited by the next one
pub step_named : (sort : Cited) (steps more : List Step) (rest : List (List Num)) (q : PivotRow) → length rest ≡ length steps →
    IsStepOf sort steps rest q → named sort (steps ++ more) (length rest + 1) q.step ≡ true
step_named sort steps more rest q long h = named_is sort (steps ++ more) (length rest + 1) q.step h.from_one
    (let a = h.to_end in omega (arith, a, long)) (sort_more sort steps more (q.step - 1) h.sort_is)
