-- A row swept by walking it: closed rows whose leads it doesn't meet leave it as it is, so what is left is what all closed rows leave.
use Rattle.std.specs.Prelude.{◌≡◌, ℕ, zero, suc, ◌-◌, ◌<◌, ◌≤◌, List, [], ◌∷◌, length, get_or, drop, slice_get, Option, Some, None, IfSome, Result, Ok, Err, Bool, true, false, cond, unwrap_or}
use Rattle.std.specs.List.{find}
use mathlib.Core.Path.{refl, sym, ap, ◌∙◌, subst}
use native.Mathlib.Omega.{arith}
use native.Mathlib.Decide.{ℕ_discrete, dec_lt}
use Rattle.std.proofs.lemmas.Bool.Decides.{nat_tests}
use Rattle.fpl_numbers.specs.declared.number.Num.{Num}
use Rattle.fpl_numbers.specs.declared.number.Kind.{Kind}
use Rattle.fpl_numbers.specs.declared.number.Unfit.{Unfit}
use Rattle.fpl_numbers.specs.declared.number.Fault.{Fault}
use Rattle.fpl_numbers.specs.declared.number.Fault.TheVariants.{NoMemory}
use Rattle.fpl_numbers.specs.declared.number.Fault.TheVariants.{Unfit as Unfits}
use Rattle.fpl_numbers.specs.Numbers.{is_nought, residue, negative_of}
use Rattle.fpl_numbers.specs.Results.{IsFault}
use Rattle.fpl_scalar.specs.Vectors.{axpy_of}
use Rattle.fpl_rows.specs.Meaning.{IsRowOf, AreRows, IsClosedList, pivot_of}
use Rattle.fpl_rows.specs.Positions.{lead_below, lead_of}
use Rattle.fpl_rows.proofs.Fits.{some_same, none_some}
use Rattle.fpl_rows.proofs.Leads.{lead_is, lead_none, lead_place}
use Rattle.plain_elimination.specs.Plain.{take_at, take_row, sweep_rows}
use Rattle.plain_elimination.proofs.RowSweeps.{got_row, got_is, sweep_next, sweep_stops}
use Rattle.fpl_echelon.specs.Leads.{is_at, leads_at, take_if}

-- the row that is found for a lead
pub record Found (s : ℕ) (us : List (List Num)) (u : List Num) : Type 0 where
  pub at : ℕ
  pub got : Some u ≡ slice_get us at
  pub leads : lead_of u ≡ Some s

at_is : (s : ℕ) (o : Option ℕ) → is_at s o ≡ true → o ≡ Some s
at_is s None e = absurd (let k : ⊥ = cc in k)
at_is s (Some t) e = ap Some (let h : t ≡ s = grind (arith, nat_tests) in h)

is_at_same : (s : ℕ) → is_at s (Some s) ≡ true
is_at_same s = grind (arith, nat_tests)

found : (s : ℕ) (us : List (List Num)) (u : List Num) → find (leads_at s) us ≡ Some u → Found s us u
found s [] u e = absurd (none_some e)
found s (y ∷ ys) u e = go (leads_at s y) refl (found s ys u) e
  where
    go : (b : Bool) → leads_at s y ≡ b → (find (leads_at s) ys ≡ Some u → Found s ys u) → cond b (Some y) (find (leads_at s) ys) ≡ Some u → Found s (y ∷ ys) u
    go true z h f = record { at = 0; got = sym f; leads = ap lead_of (sym (some_same f)) ∙ at_is s (lead_of y) z }
    go false z h f = let k = h f in record { at = suc k.at; got = k.got; leads = k.leads }

not_found : (s : ℕ) (us : List (List Num)) → find (leads_at s) us ≡ None → (i : ℕ) → i < length us → lead_of (get_or us i []) ≡ Some s → ⊥
not_found s [] e i l f = absurd (omega (arith, l))
not_found s (y ∷ ys) e i l f = go (leads_at s y) refl (not_found s ys) e i l f
  where
    go : (b : Bool) → leads_at s y ≡ b → (find (leads_at s) ys ≡ None → (i : ℕ) → i < length ys → lead_of (get_or ys i []) ≡ Some s → ⊥) →
        cond b (Some y) (find (leads_at s) ys) ≡ None → (i : ℕ) → i < length (y ∷ ys) → lead_of (get_or (y ∷ ys) i []) ≡ Some s → ⊥
    go true z h e i l f = none_some (sym e)
    go false z h e zero l f = (let k : is_at s (lead_of y) ≡ true = ap (is_at s) f ∙ is_at_same s in let m : ⊥ = cc (sym z ∙ k) in m)
    go false z h e (suc i) l f = h e i (omega (arith, l)) f

got_at : {X : Type 0} (xs : List X) (i : ℕ) (d : X) → i < length xs → Some (get_or xs i d) ≡ slice_get xs i
got_at [] i d l = absurd (omega (arith, l))
got_at (x ∷ xs) zero d l = refl
got_at (x ∷ xs) (suc i) d l = got_at xs i d (omega (arith, l))

-- a row whose lead v does not have is passed over
passed_over : (kind : Kind) (u v : List Num) → ((t : ℕ) → lead_of u ≡ Some t → is_nought (get_or v (t - 1) (residue 0)) ≡ true) → take_row kind u v ≡ Ok v
passed_over kind u v none = go (lead_of u) refl
  where
    go : (o : Option ℕ) → lead_of u ≡ o → take_at kind u o v ≡ Ok v
    go None e = refl
    go (Some t) e = let z = none t e in rw z refl

taken_off : (kind : Kind) (u v : List Num) (s : ℕ) → lead_of u ≡ Some s → is_nought (get_or v (s - 1) (residue 0)) ≡ false →
    take_row kind u v ≡ axpy_of kind v (negative_of kind (get_or v (s - 1) (residue 0))) u
taken_off kind u v s e z = ap (λ o. take_at kind u o v) e ∙ (rw z refl)

-- what is left of a row when the closed rows whose leads are above `most`, those from place `count` on, are taken off
pub record Walked (kind : Kind) (rows : List (List Num)) (row left : List Num) (most : ℕ) : Type 0 where
  pub count : ℕ
  pub within : count ≤ length rows
  pub below : (i t : ℕ) → i < count → lead_of (get_or rows i []) ≡ Some t → t ≤ most
  pub above : (i t : ℕ) → count ≤ i → i < length rows → lead_of (get_or rows i []) ≡ Some t → most < t
  pub done : sweep_rows kind (drop count rows) row ≡ Ok left

module _ (kind : Kind) (n : ℕ) (rows : List (List Num)) (closed : IsClosedList kind n rows) where
  ascends : (i k s : ℕ) → i < k → k < length rows → lead_of (get_or rows i []) ≡ Some s → s < unwrap_or (lead_of (get_or rows k [])) 1
  ascends i k s l m e =
      let a = closed.closed.ascend i k l m in
      let p : pivot_of (get_or rows i []) ≡ s - 1 = ap (λ o. unwrap_or o 1 - 1) e in
      let one : 1 ≤ s = (lead_place (get_or rows i []) s (sym e)).0 in
      omega (arith, a, p, one)

  lead_order : (i k s t : ℕ) → i < k → k < length rows → lead_of (get_or rows i []) ≡ Some s → lead_of (get_or rows k []) ≡ Some t → s < t
  lead_order i k s t l m e f = let a = ascends i k s l m e in let p : unwrap_or (lead_of (get_or rows k [])) 1 ≡ t = ap (λ o. unwrap_or o 1) f in
      omega (arith, a, p)

  no_rows : (us : List (List Num)) (row : List Num) → sweep_rows kind (drop (length us) us) row ≡ Ok row
  no_rows [] row = refl
  no_rows (u ∷ us) row = no_rows us row

  pub swept_start : (row : List Num) (most : ℕ) → n ≤ most → Walked kind rows row row most
  swept_start row most l = record {
    count = length rows;
    within = omega arith;
    below = λ i t m e. let p = (lead_place (get_or rows i []) t (sym e)).1 in let q = (closed.are_rows i [] m).length_is in omega (arith, p, q, l);
    above = λ i t m k e. absurd (omega (arith, m, k));
    done = no_rows rows row;
  }

  next_row : (row left next : List Num) (i : ℕ) → i < length rows → sweep_rows kind (drop (suc i) rows) row ≡ Ok left →
      take_row kind (get_or rows i []) left ≡ Ok next → sweep_rows kind (drop i rows) row ≡ Ok next
  next_row row left next i l e f = sweep_next kind rows row left next (get_or rows i []) (suc i) i refl (got_at rows i [] l) e f

  -- where the row is 0 from position s on, the leads above s are passed over
  module _ (row left : List Num) (most s : ℕ) (zeros : (t : ℕ) → s ≤ t → t < most → is_nought (get_or left t (residue 0)) ≡ true) where
    abbrev Passes : ℕ → Type 0
    Passes count =
        count ≤ length rows → ((i t : ℕ) → i < count → lead_of (get_or rows i []) ≡ Some t → t ≤ most) →
        ((i t : ℕ) → count ≤ i → i < length rows → lead_of (get_or rows i []) ≡ Some t → s < t) →
        sweep_rows kind (drop count rows) row ≡ Ok left → Walked kind rows row left s

    pass : (count : ℕ) → Passes count
    pass zero within below above done = record { count = 0; within = within; below = λ i t l e. absurd (omega (arith, l)); above = above; done = done }
    pass (suc c) within below above done = go (pass c) (lead_of (get_or rows c [])) refl
      where
        on : Passes c → ((t : ℕ) → lead_of (get_or rows c []) ≡ Some t → s < t) → Walked kind rows row left s
        on earlier more =
            earlier (omega (arith, within)) (λ i t l e. below i t (omega (arith, l)) e)
            (λ i t l m e. elim (ℕ_discrete i c) [
              | yes d ↦ more t (subst (λ j. lead_of (get_or rows j []) ≡ Some t) d e)
              | no d ↦ above i t
                  (omega (arith, l, d)) m e
            ])
            (next_row row left left c (omega (arith, within)) done
            (passed_over kind (get_or rows c []) left (λ t e. let a = more t e in let b = below c t (omega arith) e in
            zeros (t - 1) (omega (arith, a)) (omega (arith, a, b)))))

        stop : (t : ℕ) → lead_of (get_or rows c []) ≡ Some t → t ≤ s → Walked kind rows row left s
        stop t e l = record {
          count = suc c;
          within = within;
          below = λ i r m f. elim (ℕ_discrete i c) [
            | yes d ↦ (let g : r ≡ t = some_same (sym (subst (λ j. lead_of (get_or rows j []) ≡ Some r) d f) ∙ e) in omega (arith, g, l))
            | no d ↦ (let o = lead_order i c r t (omega (arith, m, d)) (omega (arith, within)) f e in omega (arith, o, l))
          ];
          above = above;
          done = done;
        }

        go : Passes c → (o : Option ℕ) → lead_of (get_or rows c []) ≡ o → Walked kind rows row left s
        go earlier None e = on earlier (λ t f. absurd (none_some (sym e ∙ f)))
        go earlier (Some t) e = elim (dec_lt s t) [
          | yes l ↦ on earlier (λ r f. let g : t ≡ r = some_same (sym e ∙ f) in omega (arith, g, l))
          | no l ↦ stop t e (omega (arith, l))
        ]

    pass_over : s ≤ most → Walked kind rows row left most → Walked kind rows row left s
    pass_over l h = pass h.count h.within h.below (λ i t a b e. let k = h.above i t a b e in omega (arith, k, l)) h.done

  -- the greatest position that is left
  pub swept_lead : (row left : List Num) (most s : ℕ) → lead_below left most ≡ Some s → Walked kind rows row left most → Walked kind rows row left s
  swept_lead row left most s e h = let k = lead_is left most s e in pass_over row left most s k.above k.to_end h

  -- where nothing is left, all closed rows have been taken off
  pub swept_whole : (row left : List Num) (most : ℕ) → lead_below left most ≡ None → Walked kind rows row left most → sweep_rows kind rows row ≡ Ok left
  swept_whole row left most e h = ends h.count h.within h.below h.done
    where
      ends : (count : ℕ) → count ≤ length rows → ((i t : ℕ) → i < count → lead_of (get_or rows i []) ≡ Some t → t ≤ most) →
          sweep_rows kind (drop count rows) row ≡ Ok left → sweep_rows kind rows row ≡ Ok left
      ends zero within below done = done
      ends (suc c) within below done =
          ends c (omega (arith, within)) (λ i t l f. below i t (omega (arith, l)) f)
          (next_row row left left c (omega (arith, within)) done
          (passed_over kind (get_or rows c []) left (λ t f. let a = below c t (omega arith) f in let b =
          (lead_place (get_or rows c []) t (sym f)).0 in
          lead_none left most e (t - 1) (omega (arith, a, b)))))

  -- the closed row that leads at s is the next one
  module _ (row left : List Num) (s : ℕ) (h : Walked kind rows row left s) where
    last_is : (u : List Num) (k : Found s rows u) → (h.count ≡ suc k.at) × (get_or rows k.at [] ≡ u)
    last_is u k =
        let g = got_row rows k.at u [] k.got in
        let leads : lead_of (get_or rows k.at []) ≡ Some s = ap lead_of g.1 ∙ k.leads in
        (only leads g.0 (dec_lt k.at h.count), g.1)
      where
        only : lead_of (get_or rows k.at []) ≡ Some s → k.at < length rows → Dec (k.at < h.count) → h.count ≡ suc k.at
        only e l (no m) = let a = h.above k.at s (omega (arith, m)) l e in absurd (omega (arith, a))
        only e l (yes m) = elim (ℕ_discrete h.count (suc k.at)) [
          | yes d ↦ d
          | no d ↦
              let c = h.count - 1 in
              let less : k.at < h.count - 1 = omega (arith, m, d) in
              let w = h.within in
              let inside : h.count - 1 < length rows = omega (arith, w, m) in
              let a = ascends k.at (h.count - 1) s less inside e in
              let one : 1 ≤ s = (lead_place (get_or rows k.at []) s (sym e)).0 in
              absurd (apart (h.count - 1) (omega (arith, m)) (lead_of (get_or rows (h.count - 1) [])) refl a one)
        ]
          where
            apart : (c : ℕ) → c < h.count → (o : Option ℕ) → lead_of (get_or rows c []) ≡ o → s < unwrap_or o 1 → 1 ≤ s → ⊥
            apart c l None f a one = omega (arith, a, one)
            apart c l (Some t) f a one = let b = h.below c t l f in omega (arith, a, b)

    by_row : (u next : List Num) → 1 ≤ s → is_nought (get_or left (s - 1) (residue 0)) ≡ false → Found s rows u →
        axpy_of kind left (negative_of kind (get_or left (s - 1) (residue 0))) u ≡ Ok next → Walked kind rows row next (s - 1)
    by_row u next one z k e =
        let i = last_is u k in
        let w = h.within in
        let inside : k.at < length rows = omega (arith, w, i.0) in
        let leads : lead_of (get_or rows k.at []) ≡ Some s = ap lead_of i.1 ∙ k.leads in
        record {
          count = k.at;
          within = omega (arith, inside);
          below = λ j t l f. let o = lead_order j k.at t s l inside f leads in omega (arith, o);
          above = λ j t l m f. elim (ℕ_discrete j k.at) [
            | yes d ↦ (let g : t ≡ s = some_same (sym (subst (λ v. lead_of (get_or rows v []) ≡ Some t) d f) ∙ leads) in omega (arith, g, one))
            | no d ↦ (let a = h.above j t (let c = i.0 in omega (arith, c, l, d)) m f in omega (arith, a))
          ];
          done = next_row row left next k.at inside (subst (λ c. sweep_rows kind (drop c rows) row ≡ Ok left) i.0 h.done)
              (ap (λ v. take_row kind v left) i.1 ∙ taken_off kind u left s k.leads z ∙ e);
        }

    by_none : find (leads_at s) rows ≡ None → Walked kind rows row left (s - 1)
    by_none e = record {
      count = h.count;
      within = h.within;
      below = λ i t l f. elim (ℕ_discrete t s) [
        | yes d ↦ (let w = h.within in absurd (not_found s rows e i (omega (arith, l, w)) (subst (λ v. lead_of (get_or rows i []) ≡ Some v) d f)))
        | no d ↦ (let a = h.below i t l f in omega (arith, a, d))
      ];
      above = λ i t l m f. let a = h.above i t l m f in omega (arith, a);
      done = h.done;
    }

    pub swept_next : (o : Option (List Num)) (next : List Num) → o ≡ find (leads_at s) rows → 1 ≤ s →
        is_nought (get_or left (s - 1) (residue 0)) ≡ false → take_if kind o s left ≡ Ok next → Walked kind rows row next (s - 1)
    swept_next None next e one z f = subst (λ v. Walked kind rows row v (s - 1)) (same f) (by_none (sym e))
      where
        same : ◌≡◌ {A = Result (List Num) Unfit} (Ok left) (Ok next) → left ≡ next
        same g = cc
    swept_next (Some u) next e one z f = by_row u next one z (found s rows u (sym e)) f

    pub swept_stops : (o : Option (List Num)) (fault : Fault) → o ≡ find (leads_at s) rows → is_nought (get_or left (s - 1) (residue 0)) ≡ false →
        IsFault fault (take_if kind o s left) → IsFault fault (sweep_rows kind rows row)
    swept_stops None fault e z f = no_fault fault f
      where
        no_fault : (fault : Fault) → IsFault fault (take_if kind None s left) → IsFault fault (sweep_rows kind rows row)
        no_fault (Unfits u) g = absurd (let k : ⊥ = cc in k)
        no_fault NoMemory g = tt
    swept_stops (Some u) fault e z f =
        let k = found s rows u (sym e) in
        let i = last_is u k in
        sweep_stops kind rows row left u (suc k.at) k.at fault refl k.got (subst (λ c. sweep_rows kind (drop c rows) row ≡ Ok left) i.0 h.done)
        (subst (λ r. IsFault fault r) (sym (taken_off kind u left s k.leads z)) f)

    pub swept_refused : (o : Option (List Num)) (u : Unfit) → o ≡ find (leads_at s) rows → is_nought (get_or left (s - 1) (residue 0)) ≡ false →
        take_if kind o s left ≡ Err u → sweep_rows kind rows row ≡ Err u
    swept_refused o u e z f = swept_stops o (Unfits u) e z f

-- the row that is found is one of the rows
pub found_is : (kind : Kind) (n s : ℕ) (rows : List (List Num)) (o : Option (List Num)) → AreRows kind n rows → o ≡ find (leads_at s) rows →
    IfSome o (IsRowOf kind n)
found_is kind n s rows None all e = tt
found_is kind n s rows (Some u) all e = let k = found s rows u (sym e) in got_is kind n k.at rows u all k.got
