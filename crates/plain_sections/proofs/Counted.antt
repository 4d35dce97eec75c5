-- The steps that stay of a run of a weight: one Insert step for each pivot row, and so for each closed row.
use Rattle.std.specs.Prelude.{◌≡◌, ◌≢◌, ℕ, zero, suc, ◌+◌, ◌-◌, ◌<◌, ◌≤◌, List, [], ◌∷◌, ◌++◌, length, get_or, Option, Some, None, option_map, Ok, Bool, true, false, nat_eq, All, Contains, if◌then◌else◌}
use Rattle.std.specs.Option.{option_or}
use Rattle.std.specs.List.{find}
use mathlib.Core.Path.{refl, sym, ap, ap₂, ◌∙◌, subst}
use native.Mathlib.Omega.{arith}
use native.Mathlib.Decide.{ℕ_discrete}
use Rattle.std.proofs.lemmas.List.{length-append}
use Rattle.std.proofs.lemmas.List.Folds.{find-append}
use Rattle.math_fields.specs.Field.{Field}
use Rattle.math_linear.specs.Vector.{vzero}
use Rattle.math_linear.specs.Echelon.{reduce}
use Rattle.math_linear.proofs.Echelon.{reduce_clears}
use Rattle.fpl_numbers.specs.declared.number.Num.{Num}
use Rattle.fpl_numbers.specs.declared.number.Kind.{Kind}
use Rattle.fpl_numbers.specs.Numbers.{IsField, is_nought, residue, inverse_of}
use Rattle.fpl_numbers.specs.Reads.{Reads}
use Rattle.fpl_numbers.specs.Kinds.{field_of, number_of}
use Rattle.fpl_numbers.proofs.KindReads.{kind_reads}
use Rattle.fpl_scalar.specs.Vectors.{scale_of}
use Rattle.fpl_rows.specs.Positions.{lead_of}
use Rattle.fpl_rows.specs.Meaning.{vector_in, IsRowOf}
use Rattle.fpl_rows.proofs.Fits.{ok_same, first_fits, part_fits}
use Rattle.fpl_rows.proofs.Leads.{lead_is}
use Rattle.fpl_rows.proofs.Readings.{IsFor, at_place, is_nought_from}
use Rattle.fpl_model.specs.declared.presentation.Presentation.{Presentation}
use Rattle.fpl_log.specs.declared.step.Origin.{Origin}
use Rattle.fpl_log.specs.declared.step.Step.{Step}
use Rattle.fpl_log.specs.declared.step.Step.TheVariants.{Insert, Close}
use Rattle.fpl_log.specs.Slim.{next_number, next_count, slim_step, kept_if, slim_steps}
use Rattle.plain_elimination.specs.Plain.{PivotRow, IsPivotRow, stands_at, Swept, sweep_of, Held, Elimination, Inserted, keep_of, insert_of, close_by, close_to}
use Rattle.plain_elimination.specs.Spans.{table_of}
use Rattle.plain_elimination.proofs.Sweeping.{sweep_reads}
use Rattle.plain_elimination.proofs.PivotRows.{pivots_echelon}
use Rattle.plain_elimination.proofs.Found.{insert_pivots}
use Rattle.fpl_table.specs.Plain.{PlainTable, symbols_in}
use Rattle.fpl_rewrite.specs.Origins.{origins_of}
use Rattle.plain_weights.specs.Weight.{put_of, gather, close_weight}
use Rattle.plain_elimination.proofs.Inverses.{inverse_stays}
use Rattle.plain_weights.proofs.Recorded.{put_parts, run_parts}
use Rattle.fpl_check.proofs.ListedOrigins.{contains_rest}
use Rattle.plain_sections.specs.Valid.{insert_count}
use Rattle.fpl_check.proofs.Conclusions.{HaveRows}

-- the Insert steps that stay
keeps : Step → ℕ
keeps (Insert o ts c) = if is_nought c then 0 else 1
keeps (Close of ts) = 0

kept_count : List Step → ℕ
kept_count [] = 0
kept_count (s ∷ ss) = keeps s + kept_count ss

kept_more : (ss : List Step) (s : Step) → kept_count (ss ++ s ∷ []) ≡ kept_count ss + keeps s
unfolding kept_count
kept_more [] s = omega arith
kept_more (r ∷ ss) s = let k = kept_more ss s in omega (arith, k)

slim_kept : (numbers : List (Option ℕ)) (count : ℕ) (ss : List Step) → insert_count (slim_steps numbers count ss) ≡ kept_count ss
unfolding keeps kept_count
slim_kept numbers count [] = refl
slim_kept numbers count ((Insert o ts c) ∷ ss) = go (is_nought c)
    (slim_kept (numbers ++ (next_number (is_nought c) count) ∷ []) (next_count (is_nought c) count) ss)
  where
    go : (b : Bool) → insert_count (slim_steps (numbers ++ (next_number (is_nought c) count) ∷ []) (next_count (is_nought c) count) ss) ≡ kept_count ss →
        insert_count (kept_if b (slim_step numbers (Insert o ts c)) (slim_steps (numbers ++ (next_number (is_nought c) count) ∷ [])
        (next_count (is_nought c) count) ss)) ≡ (if b then 0 else 1) + kept_count ss
    go true h = omega (arith, h)
    go false h = omega (arith, h)
slim_kept numbers count ((Close of ts) ∷ ss) = let k = slim_kept (numbers ++ (Some (count + 1)) ∷ []) (count + 1) ss in omega (arith, k)

-- the places below m at which a pivot row has its lead
found : Option PivotRow → ℕ
found None = 0
found (Some q) = 1

places : List PivotRow → ℕ → ℕ
places ps zero = 0
places ps (suc s) = places ps s + found (find (stands_at (s + 1)) ps)

no_places : (m : ℕ) → places [] m ≡ 0
unfolding places found
no_places zero = refl
no_places (suc s) = let k = no_places s in omega (arith, k)

or_none : (o r : Option PivotRow) → r ≡ None → option_or o r ≡ o
or_none None r e = e
or_none (Some x) r e = refl

found_other : (ps : List PivotRow) (q : PivotRow) (t : ℕ) → q.lead ≢ t → find (stands_at t) (ps ++ q ∷ []) ≡ find (stands_at t) ps
found_other ps q t d = find-append (stands_at t) ps (q ∷ [])
    ∙ or_none (find (stands_at t) ps) (find (stands_at t) (q ∷ [])) (let k : nat_eq q.lead t ≡ false = grind arith in rw k refl)

found_here : (ps : List PivotRow) (q : PivotRow) (t : ℕ) → q.lead ≡ t → find (stands_at t) ps ≡ None → find (stands_at t) (ps ++ q ∷ []) ≡ Some q
found_here ps q t e none = find-append (stands_at t) ps (q ∷ []) ∙ ap (λ o. option_or o (find (stands_at t) (q ∷ []))) none
    ∙ (let k : nat_eq q.lead t ≡ true = grind arith in rw k refl)

places_below : (ps : List PivotRow) (q : PivotRow) (m : ℕ) → m < q.lead → places (ps ++ q ∷ []) m ≡ places ps m
unfolding places
places_below ps q zero l = refl
places_below ps q (suc s) l = ap₂ (λ a o. a + found o) (places_below ps q s (omega (arith, l))) (found_other ps q (s + 1) (omega (arith, l)))

places_more : (ps : List PivotRow) (q : PivotRow) (m : ℕ) → find (stands_at q.lead) ps ≡ None → 1 ≤ q.lead → q.lead ≤ m →
    places (ps ++ q ∷ []) m ≡ places ps m + 1
unfolding places found
places_more ps q zero none one l = absurd (omega (arith, one, l))
places_more ps q (suc s) none one l = go (ℕ_discrete q.lead (s + 1)) (λ m. places_more ps q s none one m)
  where
    go : Dec (q.lead ≡ s + 1) → (q.lead ≤ s → places (ps ++ q ∷ []) s ≡ places ps s + 1) →
        places (ps ++ q ∷ []) s + found (find (stands_at (s + 1)) (ps ++ q ∷ [])) ≡ places ps s + found (find (stands_at (s + 1)) ps) + 1
    go (yes e) more =
        let before : find (stands_at (s + 1)) ps ≡ None = subst (λ t. find (stands_at t) ps ≡ None) e none in
        let a = places_below ps q s (omega (arith, e)) in
        let b = ap found (found_here ps q (s + 1) e before) in
        let c = ap found before in
        omega (arith, a, b, c)
    go (no d) more =
        let a = more (omega (arith, l, d)) in
        let b = ap found (found_other ps q (s + 1) d) in
        omega (arith, a, b)

-- closing makes a row at each of these places, and no Insert step
step_closes : (kind : Kind) (s : ℕ) (f g : Held) (o : Option PivotRow) → close_by kind o s f ≡ Ok g → (length g.pivots ≡ length f.pivots + found o) ×
    (kept_count g.steps ≡ kept_count f.steps)
unfolding found keeps
step_closes kind s f g None e = subst (λ g. (length g.pivots ≡ length f.pivots + 0) × (kept_count g.steps ≡ kept_count f.steps)) (ok_same e) (omega arith, refl)
step_closes kind s f g (Some q) e =
    let r = part_fits _ (sweep_of kind f.pivots s (record { row = q.row; terms = [] })) g e in
    let k = kept_more f.steps (Close q.step r.0.terms) in
    subst (λ g. (length g.pivots ≡ length f.pivots + 1) × (kept_count g.steps ≡ kept_count f.steps)) (sym r.1.1) (length-append f.pivots _, omega (arith, k))

closes_all : (kind : Kind) (pivots : List PivotRow) (m : ℕ) (h g : Held) → close_to kind pivots m h ≡ Ok g →
    (length g.pivots ≡ length h.pivots + places pivots m) × (kept_count g.steps ≡ kept_count h.steps)
unfolding places
closes_all kind pivots zero h g e = subst (λ g. (length g.pivots ≡ length h.pivots + 0) × (kept_count g.steps ≡ kept_count h.steps)) (ok_same e)
    (omega arith, refl)
closes_all kind pivots (suc s) h g e =
    let f = first_fits _ (close_to kind pivots s h) g e in
    let a = closes_all kind pivots s h f.0 f.1.0 in
    let b = step_closes kind s f.0 g (find (stands_at (s + 1)) pivots) f.1.1 in
    (let c = a.0 in let d = b.0 in omega (arith, c, d), b.1 ∙ a.1)

module _ (kind : Kind) (listed : IsField kind) (n : ℕ) where
  abbrev K : Field
  K = field_of kind

  reads : Reads kind K (number_of kind)
  reads = kind_reads kind listed

  -- each pivot row has a place of its own, and its step stays
  record Counted (h : Held) : Type 0 where
    places_are : places h.pivots n ≡ length h.pivots
    steps_are : kept_count h.steps ≡ length h.pivots

  -- what is left of a row has its lead where no pivot row has
  lead_free : (pivots : List PivotRow) (v left : List Num) (s : ℕ) → All (IsPivotRow kind n) pivots →
      IsFor kind K (number_of kind) reads n (reduce K (table_of K (number_of kind) pivots) n (vector_in kind v)) left → lead_of left ≡ Some s →
      find (stands_at s) pivots ≡ None
  lead_free pivots v left s all h e = go (find (stands_at s) pivots) refl
    where
      go : (o : Option PivotRow) → find (stands_at s) pivots ≡ o → o ≡ None
      go None f = refl
      go (Some q) f =
          let k = lead_is left (length left) s e in
          let inside : s - 1 < length left = (let a = k.from_one in let b = k.to_end in omega (arith, a, b)) in
          let at : table_of K (number_of kind) pivots (s - 1) ≡ Some (vector_in kind q.row) =
          ap (λ t. option_map (λ p. vector_in kind p.row) (find (stands_at t) pivots))
          (let a = k.from_one in let b : s - 1 + 1 ≡ s = omega (arith, a) in b) ∙ ap (option_map (λ p. vector_in kind p.row)) f in
          let zero = reduce_clears K n (table_of K (number_of kind) pivots)
          (pivots_echelon kind K (number_of kind) reads listed n pivots all).has_lead n (s - 1) (vector_in kind q.row) (vector_in kind v)
          (let l = h.length_is in omega (arith, inside, l)) at in
          let nought = is_nought_from kind K (number_of kind) reads (get_or left (s - 1) (residue 0)) (h.elements (s - 1) (residue 0) inside)
          (sym (at_place kind K (number_of kind) reads left (s - 1) (residue 0) inside) ∙ ap (λ w. w (s - 1)) h.vector ∙ zero) in
          absurd (differ nought k.leads)
        where
          differ : {b : Bool} → b ≡ true → b ≡ false → ⊥
          differ e f = cc

  keep_counts : (h g : Held) (o : Origin) (x : Swept) (lead : Option ℕ) → Counted h → IsRowOf kind n x.row → lead_of x.row ≡ lead →
      ((s : ℕ) → lead ≡ Some s → find (stands_at s) h.pivots ≡ None) → keep_of kind h o x lead ≡ Ok g → Counted g
  unfolding keeps
  keep_counts h g o x None c is l free e =
      subst Counted (ok_same e)
      (record {
        places_are = c.places_are;
        steps_are = (let k = kept_more h.steps (Insert o x.terms (residue 0)) in let a = c.steps_are in omega
            (arith, k, a));
      })
  keep_counts h g o x (Some s) c is l free e =
      let a = get_or x.row (s - 1) (residue 0) in
      let f = part_fits _ (scale_of kind (inverse_of kind a) x.row) g e in
      let t = lead_is x.row (length x.row) s l in
      let stays = inverse_stays kind listed a (is.elements (s - 1) (residue 0) (let u = t.from_one in let v = t.to_end in omega arith)) t.leads in
      let one : keeps (Insert o x.terms (inverse_of kind a)) ≡ 1 = ap (λ b. if b then 0 else 1) stays in
      let q : PivotRow = record { lead = s; step = length h.steps + 1; row = f.0 } in
      let longer = length-append h.pivots (q ∷ []) in
      subst Counted (sym f.1.1) (record {
        places_are = (let m = places_more h.pivots q n (free s refl) t.from_one
            (let v = t.to_end in let w = is.length_is in omega (arith, v, w)) in let b = c.places_are in omega (arith, m, b, longer));
        steps_are = (let k = kept_more h.steps (Insert o x.terms (inverse_of kind a)) in let b = c.steps_are in omega (arith, k, b, one, longer));
      })

  insert_counts : (h : Held) (o : Origin) (row : List Num) (r : Inserted) → All (IsPivotRow kind n) h.pivots → IsRowOf kind n row → Counted h →
      insert_of (record { kind = kind; size = n; held = h }) row o ≡ Ok r → Counted r.held
  insert_counts h o row r all is c e =
      let f = first_fits _ (sweep_of kind h.pivots n (record { row = row; terms = [] })) r e in
      let q = sweep_reads kind K (number_of kind) reads h.pivots n n (λ i. vzero K) (record { row = row; terms = [] }) f.0 all
      (omega arith) is.elements is.length_is f.1.0 in
      let k = part_fits _ (keep_of kind h o f.0 (lead_of f.0.row)) r f.1.1 in
      subst (λ r. Counted r.held) (sym k.1.1)
      (keep_counts h k.0 o f.0 (lead_of f.0.row) c (record { elements = q.left.elements; length_is = q.left.length_is }) refl
      (λ s l. lead_free h.pivots row f.0.row s all q.left l) k.1.0)

module _ (T : PlainTable) (p : Presentation) (listed : IsField T.kind) (sources : HaveRows T p (length (symbols_in T))) where
  abbrev size : ℕ
  size = length (symbols_in T)

  record Gathers (e : Elimination) : Type 0 where
    same_size : e.size ≡ size
    counted : Counted T.kind listed size e.held

  gathers : (os : List Origin) (h : Held) (e : Elimination) → ((o : Origin) → Contains os o → Contains (origins_of T p) o) →
      All (IsPivotRow T.kind size) h.pivots → Counted T.kind listed size h →
      gather T p os (record { kind = T.kind; size = size; held = h }) ≡ Ok e → Gathers e
  gathers [] h e within all c eq = subst Gathers (ok_same eq) (record { same_size = refl; counted = c })
  gathers (o ∷ os) h e within all c eq =
      let q = first_fits {T = Elimination} (λ f. gather T p os f) (put_of T p o (record { kind = T.kind; size = size; held = h })) e eq in
      let put = put_parts T p size o h q.0 q.1.0 in
      let is = sources o (within o (0, omega arith, refl)) put.row put.reads in
      gathers os put.inserted.held e (λ x c. within x (contains_rest (o ∷ os) os o x refl c))
      (insert_pivots (record { kind = T.kind; size = size; held = h }) put.row o put.inserted listed all is.length_is is.elements put.inserts)
      (insert_counts T.kind listed size h o put.row put.inserted all is c put.inserts) (subst (λ w. gather T p os w ≡ Ok e) put.is q.1.1)

  pub inserts_counted : (h : Held) → close_weight T p ≡ Ok h → insert_count (slim_steps [] 0 h.steps) ≡ length h.pivots
  unfolding kept_count
  inserts_counted h run =
      let r = run_parts T p h run in
      let g = gathers (origins_of T p) (record { pivots = []; steps = [] }) r.gathered (λ o c. c) (λ i d l. absurd (omega (arith, l)))
      (record { places_are = no_places size; steps_are = refl }) r.gathers in
      let c = closes_all r.gathered.kind r.gathered.held.pivots r.gathered.size (record { pivots = []; steps = r.gathered.held.steps }) h r.closes in
      let a = slim_kept [] 0 h.steps in
      let d = g.counted.places_are in
      let e = g.counted.steps_are in
      let s = ap (places r.gathered.held.pivots) g.same_size in
      let x = c.0 in
      let y = c.1 in
      omega (arith, a, d, e, s, x, y)
