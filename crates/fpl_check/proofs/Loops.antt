-- How each test of a list goes on past an element, and where it stops.
use Rattle.std.specs.Prelude.{◌≡◌, ℕ, zero, suc, ◌+◌, ◌-◌, ◌<◌, ◌≤◌, ◌⊎◌, List, [], ◌∷◌, ◌++◌, length, drop, slice_get, Option, Some, None, Result, Ok, Err, Bool, true, false, not, ◌&&◌, if◌then◌else◌, nat_lt, nat_le}
use mathlib.Core.Path.{refl, sym, ap, ap₂, ◌∙◌}
use mathlib.Core.Logic.{inl, inr}
use native.Mathlib.Omega.{arith}
use Rattle.std.proofs.lemmas.Bool.Decides.{nat_tests}
use Rattle.fpl_numbers.specs.declared.number.Num.{Num}
use Rattle.fpl_numbers.specs.Numbers.{is_nought}
use Rattle.fpl_numbers.specs.Results.{and_then}
use Rattle.fpl_rows.proofs.Fits.{none_some}
use Rattle.fpl_log.proofs.TermsTaken.{drop_next}
use Rattle.fpl_log.specs.declared.terms.Term.{Term}
use Rattle.fpl_log.specs.declared.step.Step.{Step}
use Rattle.fpl_log.specs.declared.step.Step.TheVariants.{Insert, Close}
use Rattle.fpl_log.specs.declared.closed.Coefficient.{Coefficient}
use Rattle.fpl_model.specs.declared.presentation.Presentation.{Presentation}
use Rattle.fpl_table.specs.Plain.{PlainTable}
use Rattle.fpl_check.specs.declared.fault.CheckFault.{CheckFault}
use Rattle.fpl_check.specs.declared.fault.Spot.TheVariants.{Step as AtStep, Closed as AtClosed}
use Rattle.fpl_check.specs.declared.fault.Why.TheVariants.{BadCite, RowForm}
use Rattle.fpl_check.specs.declared.fault.CheckFault.TheVariants.{Bad, NoMemory}
use Rattle.fpl_check.specs.declared.fault.CheckFault.TheVariants.{Unfit as Unfits}
use Rattle.fpl_check.specs.Refusal.{Refusal, bad, unfit, passing, demand, IsRefusal}
use Rattle.fpl_check.specs.Steps.{test_cites, is_close, conclusion_of_step, conclusions_from}
use Rattle.fpl_check.specs.ClosedRows.{close_count, is_formed, test_forms, close_rows, test_same, test_at, test_conclusions}
use Rattle.fpl_check.proofs.Composed.{passed, first_refused, same_refusal, rest_at}

-- citations
pub cites_next : (named : ℕ → Bool) (n : ℕ) (ts : List Term) (j k : ℕ) (t : Term) → j ≡ suc k → Some t ≡ slice_get ts k → named t.step ≡ true →
    test_cites named n (drop k ts) ≡ test_cites named n (drop j ts)
cites_next named n ts j k t is e h =
    ap (test_cites named n) (rest_at ts j k t is e) ∙ ap (λ b. passing (demand b (AtStep n) (BadCite t.step)) (test_cites named n (drop j ts))) h

pub cites_stop : (named : ℕ → Bool) (n : ℕ) (ts : List Term) (k : ℕ) (t : Term) → Some t ≡ slice_get ts k → named t.step ≡ false →
    test_cites named n (drop k ts) ≡ Err (bad (AtStep n) (BadCite t.step))
cites_stop named n ts k t e h =
    ap (test_cites named n) (drop_next ts k t e) ∙ ap (λ b. passing (demand b (AtStep n) (BadCite t.step)) (test_cites named n (drop (suc k) ts))) h

-- steps
module _ (T : PlainTable) (p : Presentation) (steps : List Step) where
  pub steps_next : (earlier : List (List Num)) (row : List Num) (ss : List Step) (j k : ℕ) (s : Step) → j ≡ suc k → Some s ≡ slice_get ss k →
      conclusion_of_step T p steps earlier s ≡ Ok row →
      conclusions_from T p steps earlier (drop k ss) ≡ conclusions_from T p steps (earlier ++ row ∷ []) (drop j ss)
  steps_next earlier row ss j k s is e h =
      ap (conclusions_from T p steps earlier) (rest_at ss j k s is e) ∙ ap (and_then (λ row. conclusions_from T p steps (earlier ++ row ∷ []) (drop j ss))) h

  pub steps_stop : (fault : CheckFault) (earlier : List (List Num)) (ss : List Step) (k : ℕ) (s : Step) → Some s ≡ slice_get ss k →
      IsRefusal fault (conclusion_of_step T p steps earlier s) →
      IsRefusal fault (conclusions_from T p steps earlier (drop k ss))
  steps_stop fault earlier ss k s e h =
      same_refusal fault _ _ (ap (conclusions_from T p steps earlier) (drop_next ss k s e))
      (first_refused fault (λ row. conclusions_from T p steps (earlier ++ row ∷ []) (drop (suc k) ss)) (conclusion_of_step T p steps earlier s) h)

-- the coefficients of a row
formed_is : (a b z r : Bool) → a ≡ true → b ≡ true → z ≡ false → (a && b && not z && r) ≡ r
formed_is a b z r e f g = rw (e, f, g) refl

formed_not : (a b z r : Bool) → (a ≡ false) ⊎ ((b ≡ false) ⊎ (z ≡ true)) → (a && b && not z && r) ≡ false
formed_not a b z r (inl e) = rw e refl
formed_not true b z r (inr (inl e)) = rw e refl
formed_not false b z r (inr (inl e)) = refl
formed_not true true z r (inr (inr e)) = rw e refl
formed_not true false z r (inr (inr e)) = refl
formed_not false b z r (inr (inr e)) = refl

pub below_is : (a b : ℕ) → a < b → nat_lt a b ≡ true
below_is a b l = grind (arith, nat_tests)

pub below_not : (a b : ℕ) → b ≤ a → nat_lt a b ≡ false
below_not a b l = grind (arith, nat_tests)

most_is : (a b : ℕ) → a ≤ b → nat_le a b ≡ true
most_is a b l = grind (arith, nat_tests)

most_not : (a b : ℕ) → b < a → nat_le a b ≡ false
most_not a b l = grind (arith, nat_tests)

pub is_below : (a b : ℕ) → nat_lt a b ≡ true → a < b
is_below a b e = grind (arith, nat_tests)

pub is_most : (a b : ℕ) → nat_le a b ≡ true → a ≤ b
is_most a b e = grind (arith, nat_tests)

pub formed_next : (n after : ℕ) (row : List Coefficient) (j k : ℕ) (c : Coefficient) → j ≡ suc k → Some c ≡ slice_get row k → after < c.symbol →
    c.symbol ≤ n → is_nought c.number ≡ false →
    is_formed n after (drop k row) ≡ is_formed n c.symbol (drop j row)
formed_next n after row j k c is e above within some =
    ap (is_formed n after) (rest_at row j k c is e) ∙ formed_is _ _ _ _ (below_is after c.symbol above) (most_is c.symbol n within) some

pub formed_stop : (n after : ℕ) (row : List Coefficient) (k : ℕ) (c : Coefficient) → Some c ≡ slice_get row k → (c.symbol ≤ after) ⊎
    ((n < c.symbol) ⊎ (is_nought c.number ≡ true)) → is_formed n after (drop k row) ≡ false
formed_stop n after row k c e h = ap (is_formed n after) (drop_next row k c e) ∙ formed_not _ _ _ _ (why h)
  where
    why : (c.symbol ≤ after) ⊎ ((n < c.symbol) ⊎ (is_nought c.number ≡ true)) → (nat_lt after c.symbol ≡ false) ⊎
        ((nat_le c.symbol n ≡ false) ⊎ (is_nought c.number ≡ true))
    why (inl l) = inl (below_not after c.symbol l)
    why (inr (inl l)) = inr (inl (most_not c.symbol n l))
    why (inr (inr z)) = inr (inr z)

and_left : (a b : Bool) → (a && b) ≡ true → a ≡ true
and_left true b e = refl
and_left false b e = e

and_right : (a b : Bool) → (a && b) ≡ true → b ≡ true
and_right true b e = e
and_right false b e = absurd (let k : ⊥ = cc in k)

pub both_true : (a b : Bool) → (a && b) ≡ true → (a ≡ true) × (b ≡ true)
both_true a b e = (and_left a b e, and_right a b e)

pub record IsCoefficient (n after : ℕ) (c : Coefficient) : Type 0 where
  pub above : after < c.symbol
  pub within : c.symbol ≤ n
  pub some : not (is_nought c.number) ≡ true

-- the first coefficient, and the others
pub formed_cons : (n after : ℕ) (c : Coefficient) (cs : List Coefficient) → is_formed n after (c ∷ cs) ≡ true → IsCoefficient n after c ×
    (is_formed n c.symbol cs ≡ true)
formed_cons n after c cs e =
    let a = both_true _ _ e in
    let b = both_true _ _ a.0 in
    let d = both_true _ _ b.0 in
    (record { above = is_below after c.symbol d.0; within = is_most c.symbol n d.1; some = b.1 }, a.1)

pub formed_again : (n after : ℕ) (c : Coefficient) (cs : List Coefficient) → after < c.symbol → c.symbol ≤ n → not (is_nought c.number) ≡ true →
    is_formed n c.symbol cs ≡ true → is_formed n after (c ∷ cs) ≡ true
formed_again n after c cs above within some rest = rw (below_is after c.symbol above, most_is c.symbol n within, some, rest) refl

-- forms of rows
pub forms_next : (n i : ℕ) (rows : List (List Coefficient)) (j k : ℕ) (row : List Coefficient) → j ≡ suc k → Some row ≡ slice_get rows k →
    is_formed n 0 row ≡ true → test_forms n i (drop k rows) ≡ test_forms n (i + 1) (drop j rows)
forms_next n i rows j k row is e h =
    ap (test_forms n i) (rest_at rows j k row is e) ∙ ap (λ b. passing (demand b (AtClosed i) RowForm) (test_forms n (i + 1) (drop j rows))) h

pub forms_stop : (n i : ℕ) (rows : List (List Coefficient)) (k : ℕ) (row : List Coefficient) → Some row ≡ slice_get rows k →
    is_formed n 0 row ≡ false → test_forms n i (drop k rows) ≡ Err (bad (AtClosed i) RowForm)
forms_stop n i rows k row e h =
    ap (test_forms n i) (drop_next rows k row e) ∙ ap (λ b. passing (demand b (AtClosed i) RowForm) (test_forms n (i + 1) (drop (suc k) rows))) h

drop_none : {X : Type 0} (k : ℕ) → ◌≡◌ {A = List X} (drop k []) []
drop_none zero = refl
drop_none (suc k) = refl

-- Close steps
pub count_close : (steps : List Step) (k : ℕ) → is_close (slice_get steps k) ≡ true → close_count (drop k steps) ≡ 1 + close_count (drop (suc k) steps)
count_close [] k e = absurd (let k : ⊥ = cc in k)
count_close ((Insert origin terms scale) ∷ ss) zero e = absurd (let k : ⊥ = cc in k)
count_close ((Close of terms) ∷ ss) zero e = refl
count_close (s ∷ ss) (suc k) e = count_close ss k e

pub count_other : (steps : List Step) (k : ℕ) → is_close (slice_get steps k) ≡ false → close_count (drop k steps) ≡ close_count (drop (suc k) steps)
count_other [] k e = ap close_count (drop_none k ∙ sym (drop_none (suc k)))
count_other ((Insert origin terms scale) ∷ ss) zero e = refl
count_other ((Close of terms) ∷ ss) zero e = absurd (let k : ⊥ = cc in k)
count_other (s ∷ ss) (suc k) e = count_other ss k e

pub no_closes : (steps : List Step) → close_rows steps [] ≡ []
no_closes [] = refl
no_closes (s ∷ ss) = refl

pub closes_next : (steps : List Step) (rows : List (List Num)) (row : List Num) →
    close_rows steps (rows ++ row ∷ []) ≡ (if is_close (slice_get steps (length rows)) then close_rows steps rows ++ row ∷ [] else close_rows steps rows)
closes_next [] rows row = refl
closes_next ((Insert origin terms scale) ∷ ss) [] row = no_closes ss
closes_next ((Close of terms) ∷ ss) [] row = ap (λ rs. row ∷ rs) (no_closes ss)
closes_next ((Insert origin terms scale) ∷ ss) (r ∷ rows) row = closes_next ss rows row
closes_next ((Close of terms) ∷ ss) (r ∷ rows) row = ap (λ rs. r ∷ rs) (closes_next ss rows row) ∙ more (is_close (slice_get ss (length rows)))
  where
    more : (b : Bool) →
        ◌≡◌ {A = List (List Num)} (r ∷ (if b then close_rows ss rows ++ row ∷ [] else close_rows ss rows))
        (if b then r ∷ (close_rows ss rows ++ row ∷ []) else r ∷ close_rows ss rows)
    more true = refl
    more false = refl

gone : {X : Type 0} (xs : List X) (k : ℕ) → slice_get xs k ≡ None → (drop k xs ≡ []) × (drop (suc k) xs ≡ [])
gone [] k e = (drop_none k, drop_none (suc k))
gone (x ∷ xs) zero e = absurd (none_some (sym e))
gone (x ∷ xs) (suc k) e = gone xs k e

untested : (i : ℕ) (xs : List (List Num)) → test_conclusions i xs [] ≡ Ok tt
untested i [] = refl
untested i (x ∷ xs) = refl

-- closed rows and conclusions, at place k
module _ (i k : ℕ) (xs rows : List (List Num)) where
  abbrev now : Result (Unit {0}) Refusal
  now = test_conclusions i (drop k xs) (drop k rows)

  abbrev next : Result (Unit {0}) Refusal
  next = test_conclusions (i + 1) (drop (suc k) xs) (drop (suc k) rows)

  both : (x row : List Num) → slice_get xs k ≡ Some x → slice_get rows k ≡ Some row → now ≡ passing (test_same i 1 x row) next
  both x row e f = ap₂ (test_conclusions i) (drop_next xs k x (sym e)) (drop_next rows k row (sym f))

  at_next : (o q : Option (List Num)) → slice_get xs k ≡ o → slice_get rows k ≡ q → test_at i o q ≡ Ok tt → now ≡ next
  at_next None q e f h =
      let a = gone xs k e in
      ap (λ l. test_conclusions i l (drop k rows)) a.0 ∙ sym (ap (λ l. test_conclusions (i + 1) l (drop (suc k) rows)) a.1)
  at_next (Some x) None e f h =
      let a = gone rows k f in
      ap (test_conclusions i (drop k xs)) a.0 ∙ untested i (drop k xs)
      ∙ sym (ap (test_conclusions (i + 1) (drop (suc k) xs)) a.1 ∙ untested (i + 1) (drop (suc k) xs))
  at_next (Some x) (Some row) e f h = both x row e f ∙ passed (test_same i 1 x row) next h

  pub conclusions_next : test_at i (slice_get xs k) (slice_get rows k) ≡ Ok tt → now ≡ next
  conclusions_next h = at_next (slice_get xs k) (slice_get rows k) refl refl h

  at_stop : (r : Refusal) (o q : Option (List Num)) → slice_get xs k ≡ o → slice_get rows k ≡ q → test_at i o q ≡ Err r → now ≡ Err r
  at_stop r None q e f h = absurd (let z : ⊥ = cc in z)
  at_stop r (Some x) None e f h = absurd (let z : ⊥ = cc in z)
  at_stop r (Some x) (Some row) e f h = both x row e f ∙ ap (λ t. passing t next) h

  pub conclusions_stop : (fault : CheckFault) → IsRefusal fault (test_at i (slice_get xs k) (slice_get rows k)) → IsRefusal fault now
  conclusions_stop (Bad spot why) h = at_stop (bad spot why) (slice_get xs k) (slice_get rows k) refl refl h
  conclusions_stop (Unfits u) h = at_stop (unfit u) (slice_get xs k) (slice_get rows k) refl refl h
  conclusions_stop NoMemory h = tt
