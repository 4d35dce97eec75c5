-- The steps that inserting and closing record are in order, and counted.
use Rattle.std.specs.Prelude.{ℕ, zero, suc, ◌+◌, ◌-◌, ◌≡◌, ◌≢◌, List, [], ◌∷◌, ◌++◌, length, get_or, Option, Some, None, Ok, Bool, true, false, cond, All}
use Rattle.std.specs.List.{find}
use mathlib.Core.Path.{refl, sym, ap, ◌∙◌, subst}
use native.Mathlib.Omega.{arith}
use Rattle.std.proofs.lemmas.List.{length-append, get_or_append_left, get_or_push}
use Rattle.math_linear.specs.Vector.{vzero}
use Rattle.fpl_numbers.specs.declared.number.Num.{Num}
use Rattle.fpl_numbers.specs.declared.number.Kind.{Kind}
use Rattle.fpl_numbers.specs.Numbers.{IsField, is_nought, residue, negative_of, inverse_of}
use Rattle.fpl_numbers.specs.Kinds.{field_of, number_of}
use Rattle.fpl_numbers.specs.Results.{map_ok}
use Rattle.fpl_numbers.specs.Reads.{Reads}
use Rattle.fpl_numbers.proofs.KindReads.{kind_reads}
use Rattle.fpl_scalar.specs.Vectors.{AreElements, axpy_of, scale_of}
use Rattle.fpl_rows.specs.Positions.{lead_of}
use Rattle.fpl_rows.proofs.Fits.{ok_same, first_fits, part_fits, all_more, all_found}
use Rattle.fpl_rows.proofs.Leads.{lead_is}
use Rattle.fpl_log.specs.declared.terms.Term.{Term}
use Rattle.fpl_log.specs.declared.step.Origin.{Origin}
use Rattle.fpl_log.specs.declared.step.Step.{Step}
use Rattle.fpl_log.specs.declared.step.Step.TheVariants.{Insert, Close}
use Rattle.fpl_log.specs.Slim.{is_left_out, new_number, next_number, next_count, numbers_after, IsEarlier, CitesEarlier, AreInOrder}
use Rattle.plain_elimination.proofs.Inverses.{inverse_stays}
use Rattle.plain_elimination.specs.Plain.{PivotRow, IsPivotRow, stands_at, Swept, taken_off, sweep_by, sweep_at, sweep_of, Held, Inserted, keep_of, insert_of, close_by, close_to}
use Rattle.plain_elimination.proofs.Sweeping.{sweep_reads}
use Rattle.plain_lean.proofs.RenumberedSteps.{long_after}

-- the new numbers, after one step more
numbers_more : (numbers : List (Option ℕ)) (count : ℕ) (ss : List Step) (s : Step) → (c : ℕ) ×
    (numbers_after numbers count (ss ++ s ∷ []) ≡ numbers_after numbers count ss ++ (next_number (is_left_out s) c) ∷ [])
numbers_more numbers count [] s = (count, refl)
numbers_more numbers count (r ∷ ss) s = numbers_more (numbers ++ (next_number (is_left_out r) count) ∷ []) (next_count (is_left_out r) count) ss s

order_more : (numbers : List (Option ℕ)) (count : ℕ) (ss : List Step) (s : Step) → AreInOrder numbers count ss →
    CitesEarlier (numbers_after numbers count ss) s → AreInOrder numbers count (ss ++ s ∷ [])
order_more numbers count [] s h c = (c, tt)
order_more numbers count (r ∷ ss) s h c = (h.0, order_more (numbers ++ (next_number (is_left_out r) count) ∷ []) (next_count (is_left_out r) count) ss s h.1 c)

-- the numbers after steps from the first one on
abbrev pub numbered : List Step → List (Option ℕ)
numbered ss = numbers_after [] 0 ss

-- i names one of the steps, and one that is not left out
pub record Stays (ss : List Step) (i : ℕ) : Type 0 where
  pub earlier : IsEarlier (length (numbered ss)) i
  pub stays : new_number (numbered ss) i ≢ None

-- the steps are in order, and each pivot row's step stays
pub record Recorded (pivots : List PivotRow) (ss : List Step) : Type 0 where
  pub order : AreInOrder [] 0 ss
  pub steps : All (λ q. Stays ss q.step) pivots

some_stays : {n : ℕ} (o : Option ℕ) → o ≡ Some n → o ≢ None
some_stays o e f = let k : ⊥ = cc in k

stays_more : (ss : List Step) (s : Step) (i : ℕ) → Stays ss i → Stays (ss ++ s ∷ []) i
stays_more ss s i h =
    let m = numbers_more [] 0 ss s in
    let l = length-append (numbered ss) ((next_number (is_left_out s) m.0) ∷ []) in
    let a = h.earlier.from_one in
    let b = h.earlier.to_end in
    let same = get_or_append_left (numbered ss) ((next_number (is_left_out s) m.0) ∷ []) None (i - 1) (omega arith) in
    record {
      earlier = record { from_one = a; to_end = (let e = ap length m.1 in omega arith) };
      stays = subst (λ ns. new_number ns i ≢ None) (sym m.1) (subst (λ o. o ≢ None) (sym same) h.stays);
    }

stays_last : (ss : List Step) (s : Step) → is_left_out s ≡ false → Stays (ss ++ s ∷ []) (length ss + 1)
stays_last ss s kept =
    let m = numbers_more [] 0 ss s in
    let l = length-append (numbered ss) ((next_number (is_left_out s) m.0) ∷ []) in
    let long = long_after [] 0 ss in
    let here = get_or_push (numbered ss) (next_number (is_left_out s) m.0) None (length ss + 1 - 1) (omega arith) ∙ ap (λ b. next_number b m.0) kept in
    record {
      earlier = record { from_one = omega arith; to_end = (let e = ap length m.1 in omega arith) };
      stays = subst (λ ns. new_number ns (length ss + 1) ≢ None) (sym m.1) (some_stays _ here);
    }

recorded_on : (pivots : List PivotRow) (ss : List Step) (s : Step) → All (λ q. Stays ss q.step) pivots → All (λ q. Stays (ss ++ s ∷ []) q.step) pivots
recorded_on pivots ss s h i d l = stays_more ss s (get_or pivots i d).step (h i d l)

-- the terms of a sweep cite the steps of pivot rows
module _ (kind : Kind) (P : ℕ → Type 0) where
  abbrev Terms : Swept → Type 0
  Terms x = All (λ t. P t.step) x.terms

  by_terms : (o : Option PivotRow) (c : Num) (x y : Swept) → ((q : PivotRow) → o ≡ Some q → P q.step) → Terms x → sweep_by kind o c x ≡ Ok y → Terms y
  by_terms None c x y h a e = subst Terms (ok_same e) a
  by_terms (Some q) c x y h a e = go (is_nought c) e
    where
      go : (b : Bool) → cond b (Ok x) (map_ok (λ row. taken_off x q c row) (axpy_of kind x.row (negative_of kind c) q.row)) ≡ Ok y → Terms y
      go true e = subst Terms (ok_same e) a
      go false e =
          let r = part_fits (λ row. taken_off x q c row) (axpy_of kind x.row (negative_of kind c) q.row) y e in
          subst Terms (sym r.1.1) (all_more (λ t. P t.step) x.terms (record { step = q.step; factor = c }) a (h q refl))

  sweep_terms : (pivots : List PivotRow) (n : ℕ) (x y : Swept) → All (λ q. P q.step) pivots → Terms x → sweep_of kind pivots n x ≡ Ok y → Terms y
  sweep_terms pivots zero x y h a e = subst Terms (ok_same e) a
  sweep_terms pivots (suc s) x y h a e =
      let f = first_fits (λ y. sweep_of kind pivots s y) (sweep_at kind pivots s x) y e in
      sweep_terms pivots s f.0 y h
      (by_terms (find (stands_at (s + 1)) pivots) (get_or x.row s (residue 0)) x f.0
      (λ q e. all_found (λ q. P q.step) (stands_at (s + 1)) pivots q h (sym e)) a f.1.0) f.1.1

none_cited : (P : ℕ → Type 0) → All (λ (t : Term). P t.step) []
none_cited P i d l = absurd (omega (arith, l))

earlier_steps : (pivots : List PivotRow) (ss : List Step) → All (λ q. Stays ss q.step) pivots → All (λ q. IsEarlier (length (numbered ss)) q.step) pivots
earlier_steps pivots ss h i d l = (h i d l).earlier

module _ (kind : Kind) (listed : IsField kind) (n : ℕ) where
  reads : Reads kind (field_of kind) (number_of kind)
  reads = kind_reads kind listed

  keep_recorded : (h g : Held) (origin : Origin) (x : Swept) (o : Option ℕ) → AreElements kind x.row → lead_of x.row ≡ o →
      All (λ t. IsEarlier (length (numbered h.steps)) t.step) x.terms → Recorded h.pivots h.steps →
      keep_of kind h origin x o ≡ Ok g → Recorded g.pivots g.steps
  keep_recorded h g origin x None a l terms r e =
      subst (λ g. Recorded g.pivots g.steps) (ok_same e)
      (record {
        order = order_more [] 0 h.steps (Insert origin x.terms (residue 0)) r.order terms;
        steps = recorded_on h.pivots h.steps (Insert origin x.terms (residue 0)) r.steps;
      })
  keep_recorded h g origin x (Some s) a l terms r e =
      let c = inverse_of kind (get_or x.row (s - 1) (residue 0)) in
      let f = part_fits _ (scale_of kind c x.row) g e in
      let t = lead_is x.row (length x.row) s l in
      let kept = inverse_stays kind listed (get_or x.row (s - 1) (residue 0))
      (a (s - 1) (residue 0) (let u = t.from_one in let v = t.to_end in omega arith)) t.leads in
      subst (λ g. Recorded g.pivots g.steps) (sym f.1.1)
      (record {
        order = order_more [] 0 h.steps (Insert origin x.terms c) r.order terms;
        steps = all_more (λ q. Stays (h.steps ++ (Insert origin x.terms c) ∷ []) q.step) h.pivots (record { lead = s; step = length h.steps + 1; row = f.0 })
            (recorded_on h.pivots h.steps (Insert origin x.terms c) r.steps) (stays_last h.steps (Insert origin x.terms c) kept);
      })

  pub insert_recorded : (h : Held) (row : List Num) (origin : Origin) (r : Inserted) → All (IsPivotRow kind n) h.pivots → AreElements kind row →
      length row ≡ n → Recorded h.pivots h.steps →
      insert_of (record { kind = kind; size = n; held = h }) row origin ≡ Ok r → Recorded r.held.pivots r.held.steps
  insert_recorded h row origin r all a len rec e =
      let f = first_fits _ (sweep_of kind h.pivots n (record { row = row; terms = [] })) r e in
      let q = sweep_reads kind (field_of kind) (number_of kind) reads h.pivots n n (λ i. vzero (field_of kind))
      (record { row = row; terms = [] }) f.0 all (omega arith) a len f.1.0 in
      let g = part_fits _ (keep_of kind h origin f.0 (lead_of f.0.row)) r f.1.1 in
      let terms = sweep_terms kind (IsEarlier (length (numbered h.steps))) h.pivots n (record { row = row; terms = [] }) f.0
      (earlier_steps h.pivots h.steps rec.steps) (none_cited (IsEarlier (length (numbered h.steps)))) f.1.0 in
      subst (λ r. Recorded r.held.pivots r.held.steps) (sym g.1.1) (keep_recorded h g.0 origin f.0 (lead_of f.0.row) q.left.elements refl terms rec g.1.0)

-- in closing, the steps of the pivot rows and of the closed rows stay
record BothRecorded (pivots : List PivotRow) (g : Held) : Type 0 where
  open_rows : All (λ q. Stays g.steps q.step) pivots
  closed_rows : Recorded g.pivots g.steps

step_recorded : (kind : Kind) (pivots : List PivotRow) (s : ℕ) (f g : Held) (o : Option PivotRow) → find (stands_at (s + 1)) pivots ≡ o →
    BothRecorded pivots f → close_by kind o s f ≡ Ok g → BothRecorded pivots g
step_recorded kind pivots s f g None is b e = subst (BothRecorded pivots) (ok_same e) b
step_recorded kind pivots s f g (Some p) is b e =
    let r = part_fits _ (sweep_of kind f.pivots s (record { row = p.row; terms = [] })) g e in
    let of = all_found (λ q. Stays f.steps q.step) (stands_at (s + 1)) pivots p b.open_rows (sym is) in
    let terms = sweep_terms kind (IsEarlier (length (numbered f.steps))) f.pivots s (record { row = p.row; terms = [] }) r.0
    (earlier_steps f.pivots f.steps b.closed_rows.steps) (none_cited (IsEarlier (length (numbered f.steps)))) r.1.0 in
    subst (BothRecorded pivots) (sym r.1.1)
    (record {
      open_rows = recorded_on pivots f.steps (Close p.step r.0.terms) b.open_rows;
      closed_rows = record {
        order = order_more [] 0 f.steps (Close p.step r.0.terms) b.closed_rows.order (of.earlier, of.stays, terms);
        steps = all_more (λ q. Stays (f.steps ++ (Close p.step r.0.terms) ∷ []) q.step) f.pivots
            (record { lead = s + 1; step = length f.steps + 1; row = r.0.row })
            (recorded_on f.pivots f.steps (Close p.step r.0.terms) b.closed_rows.steps) (stays_last f.steps (Close p.step r.0.terms) refl);
      };
    })

close_recorded : (kind : Kind) (pivots : List PivotRow) (m : ℕ) (h g : Held) → h.pivots ≡ [] → Recorded pivots h.steps →
    close_to kind pivots m h ≡ Ok g → BothRecorded pivots g
close_recorded kind pivots zero h g none r e =
    subst (BothRecorded pivots) (ok_same e)
    (record {
      open_rows = r.steps;
      closed_rows = record {
        order = r.order;
        steps = subst (All (λ q. Stays h.steps q.step)) (sym none) (λ i d l. absurd (omega (arith, l)));
      };
    })
close_recorded kind pivots (suc s) h g none r e =
    let f = first_fits _ (close_to kind pivots s h) g e in
    step_recorded kind pivots s f.0 g (find (stands_at (s + 1)) pivots) refl (close_recorded kind pivots s h f.0 none r f.1.0) f.1.1

pub close_order : (kind : Kind) (pivots : List PivotRow) (m : ℕ) (h g : Held) → h.pivots ≡ [] → Recorded pivots h.steps →
    close_to kind pivots m h ≡ Ok g → AreInOrder [] 0 g.steps
close_order kind pivots m h g none r e = (close_recorded kind pivots m h g none r e).closed_rows.order

-- inserting records one step, and closing one for each closed row
keep_counts : (kind : Kind) (h g : Held) (origin : Origin) (x : Swept) (o : Option ℕ) → keep_of kind h origin x o ≡ Ok g → length g.steps ≡ length h.steps + 1
keep_counts kind h g origin x None e = ap (λ g. length g.steps) (sym (ok_same e)) ∙ length-append h.steps (_ ∷ [])
keep_counts kind h g origin x (Some s) e = let f = part_fits _ (scale_of kind (inverse_of kind (get_or x.row (s - 1) (residue 0))) x.row) g e in ap
    (λ g. length g.steps) f.1.1 ∙ length-append h.steps (_ ∷ [])

pub insert_counts : (kind : Kind) (n : ℕ) (h : Held) (row : List Num) (origin : Origin) (r : Inserted) →
    insert_of (record { kind = kind; size = n; held = h }) row origin ≡ Ok r → length r.held.steps ≡ length h.steps + 1
insert_counts kind n h row origin r e =
    let f = first_fits _ (sweep_of kind h.pivots n (record { row = row; terms = [] })) r e in
    let g = part_fits _ (keep_of kind h origin f.0 (lead_of f.0.row)) r f.1.1 in
    ap (λ r. length r.held.steps) g.1.1 ∙ keep_counts kind h g.0 origin f.0 (lead_of f.0.row) g.1.0

step_counts : (kind : Kind) (s : ℕ) (f g : Held) (o : Option PivotRow) → close_by kind o s f ≡ Ok g →
    length g.steps + length f.pivots ≡ length f.steps + length g.pivots
step_counts kind s f g None e = subst (λ g. length g.steps + length f.pivots ≡ length f.steps + length g.pivots) (ok_same e) refl
step_counts kind s f g (Some p) e =
    let r = part_fits _ (sweep_of kind f.pivots s (record { row = p.row; terms = [] })) g e in
    let a = length-append f.steps ((Close p.step r.0.terms) ∷ []) in
    let b = length-append f.pivots ((record { lead = s + 1; step = length f.steps + 1; row = r.0.row }) ∷ []) in
    subst (λ g. length g.steps + length f.pivots ≡ length f.steps + length g.pivots) (sym r.1.1) (omega arith)

pub close_counts : (kind : Kind) (pivots : List PivotRow) (m : ℕ) (h g : Held) → close_to kind pivots m h ≡ Ok g →
    length g.steps + length h.pivots ≡ length h.steps + length g.pivots
close_counts kind pivots zero h g e = subst (λ g. length g.steps + length h.pivots ≡ length h.steps + length g.pivots) (ok_same e) refl
close_counts kind pivots (suc s) h g e =
    let f = first_fits _ (close_to kind pivots s h) g e in
    let a = close_counts kind pivots s h f.0 f.1.0 in
    let b = step_counts kind s f.0 g (find (stands_at (s + 1)) pivots) f.1.1 in omega arith
