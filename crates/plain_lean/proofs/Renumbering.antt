-- Recording the steps of pivots alone gives what is left of the full record without the steps of dependent rows.
use Rattle.std.proofs.Common.{◌≡◌, ℕ, zero, suc, ◌+◌, ◌-◌, true, false, List, [], ◌∷◌, ◌++◌, length, map, get_or, refl, sym, ap, ap₂, ◌∙◌, subst, arith}
use Rattle.std.specs.Prelude.{Option, Some, None, option_map, unwrap_or, Result, Ok, Err, All}
use Rattle.std.specs.List.{find}
use Rattle.std.proofs.Math.Seq.{get_or-append_seam}
use Rattle.std.proofs.lemmas.List.{map-append}
use Rattle.fpl_numbers.specs.declared.number.Num.{Num}
use Rattle.fpl_numbers.specs.declared.number.Kind.{Kind}
use Rattle.fpl_numbers.specs.declared.number.Unfit.{Unfit}
use Rattle.fpl_numbers.specs.Numbers.{is_nought, residue, inverse_of}
use Rattle.fpl_numbers.specs.Results.{and_then, map_ok}
use Rattle.fpl_scalar.specs.Vectors.{scale_of}
use Rattle.fpl_rows.specs.Positions.{lead_of}
use Rattle.fpl_rows.proofs.Fits.{all_more}
use Rattle.fpl_log.specs.declared.step.Origin.{Origin}
use Rattle.fpl_log.specs.declared.step.Step.{Step}
use Rattle.fpl_log.specs.declared.step.Step.TheVariants.{Insert, Close}
use Rattle.fpl_log.specs.Slim.{is_left_out, new_number, next_number, slim_terms, slim_step, kept_if, slim_steps, numbers_after}
use Rattle.plain_elimination.specs.Plain.{PivotRow, Swept, Held, stands_at, sweep_of, kept, keep_of, inserted_as, insert_of, closed_with, close_by, close_at, close_to, close_of, rows_of}
use Rattle.plain_lean.specs.Lean.{keep_lean, insert_lean, Stays, renumbered, numbers_of, IsLean, IsInsertedLean, Agree}
use Rattle.plain_lean.proofs.RenumberedSteps.{renamed, found, sweep_same, steps_more, numbers_more, long_after, all_on, rows_on}

-- a step that is left out
pub left_out : (full lean : Held) (s : Step) → IsLean full lean → is_left_out s ≡ true → IsLean
    (record { pivots = full.pivots; steps = full.steps ++ s ∷ [] }) lean
left_out full lean s h e =
    let more : numbers_after [] 0 (full.steps ++ s ∷ []) ≡ numbers_of full ++ None ∷ [] = numbers_more [] 0 full.steps s ∙
    ap (λ b. numbers_of full ++ (next_number b (0 + length (slim_steps [] 0 full.steps))) ∷ []) e in
    record {
      stay = subst (λ ns. All (λ p. Stays ns p.step) full.pivots) (sym more) (all_on (numbers_of full) None full.pivots h.stay);
      pivots = h.pivots ∙ sym (ap (λ ns. map (renumbered ns) full.pivots) more ∙ rows_on (numbers_of full) None full.pivots h.stay);
      steps = h.steps ∙ sym (steps_more [] 0 full.steps s ∙ ap (λ b. slim_steps [] 0 full.steps ++ kept_if b (slim_step (numbers_of full) s) []) e ∙
          append_none (slim_steps [] 0 full.steps));
    }
  where
    append_none : {X : Type 0} (xs : List X) → xs ++ [] ≡ xs
    append_none [] = refl
    append_none (x ∷ xs) = ap (λ w. x ∷ w) (append_none xs)

-- a step that stays, and its pivot
pub pushed : (full lean : Held) (s : Step) (lead : ℕ) (row : List Num) → IsLean full lean → is_left_out s ≡ false →
    IsLean (record { pivots = full.pivots ++ (record { lead = lead; step = length full.steps + 1; row = row }) ∷ []; steps = full.steps ++ s ∷ [] })
    (record {
      pivots = lean.pivots ++ (record { lead = lead; step = length lean.steps + 1; row = row }) ∷ [];
      steps =
          lean.steps ++ (slim_step (numbers_of full) s) ∷ [];
    })
pushed full lean s lead row h e = record {
  stay = subst (λ ns. All (λ p. Stays ns p.step) (full.pivots ++ p ∷ [])) (sym more) (all_more
      (λ p. Stays (numbers_of full ++ o ∷ []) p.step) full.pivots p (all_on (numbers_of full) o full.pivots h.stay)
      (length (slim_steps [] 0 full.steps) + 1, new_is));
  pivots =
      ap₂ (λ ps n. ps ++ (record { lead = lead; step = n; row = row }) ∷ []) h.pivots (ap (λ ss. length ss + 1) h.steps ∙ sym (ap (λ k. unwrap_or k 0) new_is))
      ∙ ap (λ ps. ps ++ (renumbered (numbers_of full ++ o ∷ []) p) ∷ []) (sym (rows_on (numbers_of full) o full.pivots h.stay))
      ∙ sym (ap (λ ns. map (renumbered ns) (full.pivots ++ p ∷ [])) more ∙ map-append (renumbered (numbers_of full ++ o ∷ [])) full.pivots (p ∷ []));
  steps = ap (λ ss. ss ++ (slim_step (numbers_of full) s) ∷ []) h.steps ∙ sym (steps_more [] 0 full.steps s ∙
      ap (λ b. slim_steps [] 0 full.steps ++ kept_if b (slim_step (numbers_of full) s) []) e);
}
  where
    p : PivotRow
    p = record { lead = lead; step = length full.steps + 1; row = row }

    o : Option ℕ
    o = Some (length (slim_steps [] 0 full.steps) + 1)

    more : numbers_after [] 0 (full.steps ++ s ∷ []) ≡ numbers_of full ++ (Some (length (slim_steps [] 0 full.steps) + 1)) ∷ []
    more = numbers_more [] 0 full.steps s ∙ ap (λ b. numbers_of full ++ (next_number b (0 + length (slim_steps [] 0 full.steps))) ∷ []) e
        ∙ ap (λ n. numbers_of full ++ (Some n) ∷ []) (let q : 0 + length (slim_steps [] 0 full.steps) + 1 ≡ length (slim_steps [] 0 full.steps) + 1 =
        omega arith in q)

    new_is : new_number (numbers_of full ++ (Some (length (slim_steps [] 0 full.steps) + 1)) ∷ []) (length full.steps + 1) ≡
        Some (length (slim_steps [] 0 full.steps) + 1)
    new_is =
        let long = long_after [] 0 full.steps in
        ap (λ k. get_or (numbers_of full ++ (Some (length (slim_steps [] 0 full.steps) + 1)) ∷ []) k None)
        (let q : length full.steps + 1 - 1 ≡ length (numbers_of full) = omega (arith, long) in q)
        ∙ get_or-append_seam (numbers_of full) (Some (length (slim_steps [] 0 full.steps) + 1)) [] None

-- a row is kept
pub keep_same : (kind : Kind) (full lean : Held) (origin : Origin) (x : Swept) (lead : Option ℕ) → IsLean full lean →
    ((s : ℕ) → lead ≡ Some s → is_nought (inverse_of kind (get_or x.row (s - 1) (residue 0))) ≡ false) →
    Agree IsLean (keep_of kind full origin x lead) (keep_lean kind lean origin (renamed (numbers_of full) x) lead)
keep_same kind full lean origin x None h invertible = left_out full lean (Insert origin x.terms (residue 0)) h refl
keep_same kind full lean origin x (Some s) h invertible = go (scale_of kind (inverse_of kind (get_or x.row (s - 1) (residue 0))) x.row)
  where
    k : Num
    k = inverse_of kind (get_or x.row (s - 1) (residue 0))

    go : (r : Result (List Num) Unfit) → Agree IsLean
        (map_ok (λ row. kept full origin x.terms s (inverse_of kind (get_or x.row (s - 1) (residue 0))) row) r)
        (map_ok (λ row. kept lean origin (slim_terms (numbers_of full) x.terms) s (inverse_of kind (get_or x.row (s - 1) (residue 0))) row) r)
    go (Ok row) = pushed full lean (Insert origin x.terms (inverse_of kind (get_or x.row (s - 1) (residue 0)))) s row h (invertible s refl)
    go (Err u) = refl

agree_then : {T U V W : Type 0} (P : T → U → Type 0) (Q : V → W → Type 0) (f : T → Result V Unfit) (g : U → Result W Unfit) (r : Result T Unfit)
    (s : Result U Unfit) → Agree P r s → ((x : T) (y : U) → P x y → Agree Q (f x) (g y)) → Agree Q (and_then f r) (and_then g s)
agree_then P Q f g (Ok x) (Ok y) h k = k x y h
agree_then P Q f g (Ok x) (Err v) h k = absurd h
agree_then P Q f g (Err u) (Ok y) h k = absurd h
agree_then P Q f g (Err u) (Err v) h k = h

swept_lean : (kind : Kind) (full lean : Held) (n : ℕ) (row : List Num) → IsLean full lean →
    sweep_of kind lean.pivots n (record { row = row; terms = [] }) ≡ map_ok (renamed (numbers_of full))
    (sweep_of kind full.pivots n (record { row = row; terms = [] }))
swept_lean kind full lean n row h = ap (λ ps. sweep_of kind ps n (record { row = row; terms = [] })) h.pivots ∙
    sweep_same kind (numbers_of full) full.pivots n (record { row = row; terms = [] }) h.stay

-- the inverse of what is left at the lead is not 0
abbrev pub InvertsLeads : Kind → ℕ → Held → List Num → Type 0
InvertsLeads kind size h row =
    (x : Swept) → sweep_of kind h.pivots size (record { row = row; terms = [] }) ≡ Ok x → (s : ℕ) → lead_of x.row ≡ Some s →
    is_nought (inverse_of kind (get_or x.row (s - 1) (residue 0))) ≡ false

-- a row is inserted
pub insert_same : (kind : Kind) (size : ℕ) (full lean : Held) (row : List Num) (origin : Origin) → IsLean full lean → InvertsLeads kind size full row →
    Agree IsInsertedLean (insert_of (record { kind = kind; size = size; held = full }) row origin)
    (insert_lean (record { kind = kind; size = size; held = lean }) row origin)
insert_same kind size full lean row origin h invertible =
    subst (λ r. Agree IsInsertedLean (insert_of (record { kind = kind; size = size; held = full }) row origin)
    (and_then (λ x. map_ok (λ g. inserted_as (lead_of x.row) g) (keep_lean kind lean origin x (lead_of x.row))) r))
    (sym (swept_lean kind full lean size row h)) (go (sweep_of kind full.pivots size (record { row = row; terms = [] })) refl)
  where
    lead_too : (l : Option ℕ) (r s : Result Held Unfit) → Agree IsLean r s → Agree IsInsertedLean (map_ok (λ g. inserted_as l g) r)
        (map_ok (λ g. inserted_as l g) s)
    lead_too l (Ok x) (Ok y) k = record { lead = refl; held = k }
    lead_too l (Ok x) (Err v) k = absurd k
    lead_too l (Err u) (Ok y) k = absurd k
    lead_too l (Err u) (Err v) k = k

    go : (r : Result Swept Unfit) → sweep_of kind full.pivots size (record { row = row; terms = [] }) ≡ r →
        Agree IsInsertedLean (and_then (λ x. map_ok (λ g. inserted_as (lead_of x.row) g) (keep_of kind full origin x (lead_of x.row))) r)
        (and_then (λ x. map_ok (λ g. inserted_as (lead_of x.row) g) (keep_lean kind lean origin x (lead_of x.row))) (map_ok (renamed (numbers_of full)) r))
    go (Ok y) e = lead_too (lead_of y.row) (keep_of kind full origin y (lead_of y.row)) (keep_lean kind lean origin (renamed (numbers_of full) y)
        (lead_of y.row)) (keep_same kind full lean origin y (lead_of y.row) h (λ s f. invertible y e s f))
    go (Err u) e = refl

-- the pivots that are closed, while their numbers go on
record Closing (ps qs : List PivotRow) (full lean : Held) : Type 0 where
  held : IsLean full lean
  stay : All (λ p. Stays (numbers_of full) p.step) ps
  same : qs ≡ map (renumbered (numbers_of full)) ps

close_one : (kind : Kind) (ps qs : List PivotRow) (s : ℕ) (full lean : Held) → Closing ps qs full lean →
    Agree (Closing ps qs) (close_at kind ps s full) (close_at kind qs s lean)
close_one kind ps qs s full lean h =
    subst (λ o. Agree (Closing ps qs) (close_at kind ps s full) (close_by kind o s lean)) (sym
    (ap (find (stands_at (s + 1))) h.same ∙ found (numbers_of full) (s + 1) ps)) (go (find (stands_at (s + 1)) ps) refl)
  where
    -- one step more, which stays
    on : (x : Swept) (p : PivotRow) → Closing ps qs (closed_with full s p x) (closed_with lean s (renumbered (numbers_of full) p) (renamed (numbers_of full) x))
    on x p =
        let o : Option ℕ = Some (0 + length (slim_steps [] 0 full.steps) + 1) in
        let more : numbers_after [] 0 (full.steps ++ (Close p.step x.terms) ∷ []) ≡ numbers_of full ++ o ∷ [] =
        numbers_more [] 0 full.steps (Close p.step x.terms) in
        record {
          held = pushed full lean (Close p.step x.terms) (s + 1) x.row h.held refl;
          stay = subst (λ ns. All (λ p. Stays ns p.step) ps) (sym more) (all_on (numbers_of full) o ps h.stay);
          same = h.same ∙ sym (ap (λ ns. map (renumbered ns) ps) more ∙ rows_on (numbers_of full) o ps h.stay);
        }

    swept : (p : PivotRow) (r : Result Swept Unfit) → Agree (Closing ps qs) (map_ok (λ x. closed_with full s p x) r)
        (map_ok (λ x. closed_with lean s (renumbered (numbers_of full) p) x) (map_ok (renamed (numbers_of full)) r))
    swept p (Ok x) = on x p
    swept p (Err u) = refl

    go : (o : Option PivotRow) → find (stands_at (s + 1)) ps ≡ o → Agree (Closing ps qs) (close_by kind o s full)
        (close_by kind (option_map (renumbered (numbers_of full)) o) s lean)
    go None e = h
    go (Some p) e =
        subst (λ r. Agree (Closing ps qs) (close_by kind (Some p) s full) (map_ok (λ x. closed_with lean s (renumbered (numbers_of full) p) x) r))
        (sym (swept_lean kind full lean s p.row h.held))
        (swept p (sweep_of kind full.pivots s (record { row = p.row; terms = [] })))

closing : (kind : Kind) (ps qs : List PivotRow) (s : ℕ) (full lean : Held) → Closing ps qs full lean →
    Agree (Closing ps qs) (close_to kind ps s full) (close_to kind qs s lean)
closing kind ps qs zero full lean h = h
closing kind ps qs (suc s) full lean h =
    agree_then (Closing ps qs) (Closing ps qs) (λ g. close_at kind ps s g) (λ g. close_at kind qs s g) (close_to kind ps s full)
    (close_to kind qs s lean) (closing kind ps qs s full lean h) (λ x y k. close_one kind ps qs s x y k)

-- closing the pivots of both
pub close_same : (kind : Kind) (size : ℕ) (full lean : Held) → IsLean full lean → Agree IsLean
    (close_of (record { kind = kind; size = size; held = full })) (close_of (record { kind = kind; size = size; held = lean }))
close_same kind size full lean h =
    ends (close_to kind full.pivots size (record { pivots = []; steps = full.steps })) (close_to kind lean.pivots size
    (record { pivots = []; steps = lean.steps }))
    (closing kind full.pivots lean.pivots size (record { pivots = []; steps = full.steps }) (record { pivots = []; steps = lean.steps })
    (record { held = record { stay = λ k d l. absurd (omega arith); pivots = refl; steps = h.steps }; stay = h.stay; same = h.pivots }))
  where
    ends : (r s : Result Held Unfit) → Agree (Closing full.pivots lean.pivots) r s → Agree IsLean r s
    ends (Ok x) (Ok y) k = k.held
    ends (Ok x) (Err v) k = absurd k
    ends (Err u) (Ok y) k = absurd k
    ends (Err u) (Err v) k = k

-- the rows are the same
pub rows_same : (full lean : Held) → IsLean full lean → rows_of lean.pivots ≡ rows_of full.pivots
rows_same full lean h = ap rows_of h.pivots ∙ go (numbers_of full) full.pivots
  where
    go : (ns : List (Option ℕ)) (ps : List PivotRow) → rows_of (map (renumbered ns) ps) ≡ rows_of ps
    go ns [] = refl
    go ns (p ∷ ps) = ap (λ w. p.row ∷ w) (go ns ps)

-- nothing is held, and nothing is recorded
pub start_same : IsLean (record { pivots = []; steps = [] }) (record { pivots = []; steps = [] })
start_same = record { stay = λ k d l. absurd (omega arith); pivots = refl; steps = refl }
