-- What a weight's run records has bytes: numbers are elements, counts are small, and no kept step has scale 0.
use Rattle.std.specs.Prelude.{ℕ, zero, suc, ◌+◌, ◌-◌, ◌^◌, ◌≡◌, ◌≤◌, ◌<◌, List, [], ◌∷◌, ◌++◌, length, get_or, All, Option, Some, None, Ok, Bool, true, false, cond}
use Rattle.std.specs.List.{find}
use mathlib.Core.Path.{refl, sym, subst}
use native.Mathlib.Omega.{arith}
use Rattle.std.proofs.lemmas.List.{length-append}
use Rattle.math_linear.specs.Vector.{Vector, vzero}
use Rattle.fpl_numbers.specs.declared.number.Num.{Num}
use Rattle.fpl_numbers.specs.declared.number.Kind.{Kind}
use Rattle.fpl_numbers.specs.Numbers.{IsField, IsElement, is_nought, residue, negative_of, inverse_of}
use Rattle.fpl_numbers.specs.Kinds.{field_of, number_of}
use Rattle.fpl_numbers.specs.Results.{map_ok}
use Rattle.fpl_numbers.specs.Reads.{Reads}
use Rattle.fpl_numbers.proofs.KindReads.{kind_reads}
use Rattle.fpl_scalar.specs.Vectors.{AreElements, axpy_of, scale_of}
use Rattle.fpl_rows.specs.Positions.{lead_of}
use Rattle.fpl_rows.proofs.Fits.{ok_same, first_fits, part_fits, all_cons, all_head, all_tail, all_more}
use Rattle.fpl_rows.proofs.Leads.{lead_is}
use Rattle.fpl_log.specs.declared.closed.Coefficient.{Coefficient}
use Rattle.fpl_log.specs.declared.terms.Term.{Term}
use Rattle.fpl_log.specs.declared.step.Origin.{Origin}
use Rattle.fpl_log.specs.declared.step.Origin.TheVariants.{Relation, Jacobi, Cube}
use Rattle.fpl_log.specs.declared.step.Step.{Step}
use Rattle.fpl_log.specs.declared.step.Step.TheVariants.{Insert, Close}
use Rattle.fpl_log.specs.Slim.{is_left_out, new_number, next_number, next_count, slim_term, slim_terms, slim_step, slim_steps, kept_if}
use Rattle.plain_elimination.specs.Plain.{PivotRow, IsPivotRow, stands_at, Swept, taken_off, sweep_by, sweep_at, sweep_of, Held, Inserted, Elimination, keep_of, insert_of, close_by, close_to, close_of}
use Rattle.plain_elimination.proofs.Sweeping.{sweep_reads, at_reads}
use Rattle.plain_elimination.proofs.Found.{found_elements, found_length, close_pivots, insert_pivots}
use Rattle.plain_elimination.proofs.Ascending.{AscendsFrom, close_ascends}
use Rattle.fpl_model.specs.declared.presentation.Equation.{Equation}
use Rattle.fpl_model.specs.declared.presentation.Presentation.{Presentation}
use Rattle.fpl_table.specs.Plain.{PlainTable, symbols_in}
use Rattle.math_linear.specs.Lists.{joined}
use Rattle.fpl_model.specs.Degrees.{is_exactly}
use Rattle.fpl_rewrite.specs.Origins.{relation_weight, relations_from, relations_of, is_triple, triples_of, is_cube, is_three, cubes_of, origins_of}
use Rattle.plain_weights.specs.Weight.{put_of, gather, close_weight}
use Rattle.plain_weights.specs.Section.{coefficients_from}
use Rattle.plain_weights.proofs.Gathered.{ReadsRows, first_of, rest}
use Rattle.plain_weights.proofs.Recorded.{put_parts, run_parts}
use Rattle.std.proofs.lemmas.List.Elements.{All-nil, All-append}
use Rattle.fpl_section_bytes.specs.Stored.{IsWritableOrigin, AreWritableTerms, IsWritableStep, IsWritableRow}
use Rattle.fpl_complete.specs.State.{IsStorableStep}
use Rattle.fpl_table.proofs.NewNumbers.{nought_element}

module _ (kind : Kind) where
  abbrev AreFactors : List Term → Type 0
  AreFactors ts = All (λ t. IsElement kind t.factor) ts

  -- slimming
  slim_one : (o : Option ℕ) (t : Term) (ts : List Term) → IsElement kind t.factor → AreFactors ts → (length (slim_term o t ts) ≤ suc (length ts)) ×
      AreFactors (slim_term o t ts)
  slim_one None t ts a h = (omega arith, h)
  slim_one (Some n) t ts a h = (omega arith, all_cons (λ t. IsElement kind t.factor) (record { step = n; factor = t.factor }) ts a h)

  slim_few : (numbers : List (Option ℕ)) (ts : List Term) → AreFactors ts → (length (slim_terms numbers ts) ≤ length ts) × AreFactors (slim_terms numbers ts)
  slim_few numbers [] h = (omega arith, h)
  slim_few numbers (t ∷ ts) h =
      let r = slim_few numbers ts (all_tail (λ t. IsElement kind t.factor) t ts h) in
      let o = slim_one (new_number numbers t.step) t (slim_terms numbers ts) (all_head (λ t. IsElement kind t.factor) t ts h) r.1 in
      ((let a = r.0 in let b = o.0 in omega arith), o.1)

  slim_writable : (numbers : List (Option ℕ)) (ts : List Term) → AreWritableTerms kind ts → AreWritableTerms kind (slim_terms numbers ts)
  slim_writable numbers ts h = let r = slim_few numbers ts h.1 in ((let a = r.0 in let b = h.0 in omega arith), r.1)

  step_writable : (numbers : List (Option ℕ)) (s : Step) → is_left_out s ≡ false → (IsStorableStep kind) s → IsWritableStep kind (slim_step numbers s)
  step_writable numbers (Insert origin terms scale) e h = (h.0, h.1, e, slim_writable numbers terms h.2)
  step_writable numbers (Close of terms) e h = slim_writable numbers terms h

  kept_writable : (numbers : List (Option ℕ)) (s : Step) (ss : List Step) (b : Bool) → is_left_out s ≡ b → (IsStorableStep kind) s →
      All (IsWritableStep kind) ss → All (IsWritableStep kind) (kept_if b (slim_step numbers s) ss)
  kept_writable numbers s ss true e h all = all
  kept_writable numbers s ss false e h all = all_cons (IsWritableStep kind) (slim_step numbers s) ss (step_writable numbers s e h) all

  pub slim_steps_writable : (numbers : List (Option ℕ)) (count : ℕ) (ss : List Step) → All (IsStorableStep kind) ss →
      All (IsWritableStep kind) (slim_steps numbers count ss)
  slim_steps_writable numbers count [] h = All-nil (IsWritableStep kind)
  slim_steps_writable numbers count (s ∷ ss) h =
      kept_writable numbers s (slim_steps (numbers ++ (next_number (is_left_out s) count) ∷ []) (next_count (is_left_out s) count) ss)
      (is_left_out s) refl (all_head (IsStorableStep kind) s ss h)
      (slim_steps_writable (numbers ++ (next_number (is_left_out s) count) ∷ []) (next_count (is_left_out s) count) ss (all_tail (IsStorableStep kind) s ss h))

  -- coefficients
  front_few : (b : Bool) (s : ℕ) (c : Num) (cs : List Coefficient) → IsElement kind c → All (λ c. IsElement kind c.number) cs →
      (length (cond b cs ((record { symbol = s; number = c }) ∷ cs)) ≤ suc (length cs)) ×
      All (λ c. IsElement kind c.number) (cond b cs ((record { symbol = s; number = c }) ∷ cs))
  front_few true s c cs a h = (omega arith, h)
  front_few false s c cs a h = (omega arith, all_cons (λ c. IsElement kind c.number) (record { symbol = s; number = c }) cs a h)

  coefficients_few : (s : ℕ) (row : List Num) → AreElements kind row → (length (coefficients_from s row) ≤ length row) ×
      All (λ c. IsElement kind c.number) (coefficients_from s row)
  coefficients_few s [] h = (omega arith, All-nil (λ c. IsElement kind c.number))
  coefficients_few s (c ∷ cs) h =
      let r = coefficients_few (s + 1) cs (all_tail (IsElement kind) c cs h) in
      let f = front_few (is_nought c) s c (coefficients_from (s + 1) cs) (all_head (IsElement kind) c cs h) r.1 in
      ((let a = r.0 in let b = f.0 in omega arith), f.1)

  pub row_writable : (row : List Num) → AreElements kind row → length row < 2 ^ 32 → IsWritableRow kind (coefficients_from 1 row)
  row_writable row h few = let r = coefficients_few 1 row h in ((let a = r.0 in omega arith), r.1)

module _ (kind : Kind) (listed : IsField kind) (n : ℕ) where
  reads : Reads kind (field_of kind) (number_of kind)
  reads = kind_reads kind listed

  -- a sweep takes at most one term off at each place
  record IsFew (before added : ℕ) (ts : List Term) : Type 0 where
    count : length ts ≤ before + added
    factors : AreFactors kind ts

  by_few : (o : Option PivotRow) (c : Num) (x y : Swept) → IsElement kind c → AreFactors kind x.terms → sweep_by kind o c x ≡ Ok y →
      IsFew (length x.terms) 1 y.terms
  by_few None c x y a h e = subst (λ y. IsFew (length x.terms) 1 y.terms) (ok_same e) (record { count = omega arith; factors = h })
  by_few (Some q) c x y a h e = go (is_nought c) e
    where
      go : (b : Bool) → cond b (Ok x) (map_ok (λ row. taken_off x q c row) (axpy_of kind x.row (negative_of kind c) q.row)) ≡ Ok y →
          IsFew (length x.terms) 1 y.terms
      go true e = subst (λ y. IsFew (length x.terms) 1 y.terms) (ok_same e) (record { count = omega arith; factors = h })
      go false e =
          let r = part_fits (λ row. taken_off x q c row) (axpy_of kind x.row (negative_of kind c) q.row) y e in
          let long = length-append x.terms ((record { step = q.step; factor = c }) ∷ []) in
          subst (λ y. IsFew (length x.terms) 1 y.terms) (sym r.1.1)
          (record { count = omega arith; factors = all_more (λ t. IsElement kind t.factor) x.terms (record { step = q.step; factor = c }) h a })

  sweep_few : (pivots : List PivotRow) (s : ℕ) (x y : Swept) → All (IsPivotRow kind n) pivots → s ≤ n → AreElements kind x.row → length x.row ≡ n →
      AreFactors kind x.terms → sweep_of kind pivots s x ≡ Ok y → IsFew (length x.terms) s y.terms
  sweep_few pivots zero x y all l a len h e = subst (λ y. IsFew (length x.terms) 0 y.terms) (ok_same e) (record { count = omega arith; factors = h })
  sweep_few pivots (suc s) x y all l a len h e =
      let f = first_fits (λ y. sweep_of kind pivots s y) (sweep_at kind pivots s x) y e in
      let t = at_reads kind (field_of kind) (number_of kind) reads pivots n s (λ i. vzero (field_of kind)) x f.0 all (omega arith) a len f.1.0 in
      let one = by_few (find (stands_at (s + 1)) pivots) (get_or x.row s (residue 0)) x f.0 (a s (residue 0) (omega arith)) h f.1.0 in
      let r = sweep_few pivots s f.0 y all (omega arith) t.left.elements t.left.length_is one.factors f.1.1 in
      record { count = (let p = one.count in let q = r.count in omega arith); factors = r.factors }

  module _ (small : n < 2 ^ 32) where
    swept_writable : (pivots : List PivotRow) (s : ℕ) (row : List Num) (y : Swept) → All (IsPivotRow kind n) pivots → s ≤ n → AreElements kind row →
        length row ≡ n → sweep_of kind pivots s (record { row = row; terms = [] }) ≡ Ok y → AreWritableTerms kind y.terms
    swept_writable pivots s row y all l a len e =
        let r = sweep_few pivots s (record { row = row; terms = [] }) y all l a len (All-nil (λ t. IsElement kind t.factor)) e in
        ((let c = r.count in omega arith), r.factors)

    keep_writable : (h g : Held) (origin : Origin) (x : Swept) (o : Option ℕ) → AreElements kind x.row → lead_of x.row ≡ o →
        AreWritableTerms kind x.terms → IsWritableOrigin origin → All (IsStorableStep kind) h.steps → keep_of kind h origin x o ≡ Ok g →
        All (IsStorableStep kind) g.steps
    keep_writable h g origin x None a l terms from all e =
        subst (λ g. All (IsStorableStep kind) g.steps) (ok_same e)
        (all_more (IsStorableStep kind) h.steps (Insert origin x.terms (residue 0)) all (from, nought_element kind listed, terms))
    keep_writable h g origin x (Some s) a l terms from all e =
        let c = inverse_of kind (get_or x.row (s - 1) (residue 0)) in
        let f = part_fits _ (scale_of kind c x.row) g e in
        let t = lead_is x.row (length x.row) s l in
        let i = reads.inverse (get_or x.row (s - 1) (residue 0)) (a (s - 1) (residue 0) (let u = t.from_one in let v = t.to_end in omega arith)) t.leads in
        subst (λ g. All (IsStorableStep kind) g.steps) (sym f.1.1) (all_more (IsStorableStep kind) h.steps (Insert origin x.terms c) all (from, i.0, terms))

    pub insert_writable : (h : Held) (row : List Num) (origin : Origin) (r : Inserted) → All (IsPivotRow kind n) h.pivots → AreElements kind row →
        length row ≡ n → IsWritableOrigin origin → All (IsStorableStep kind) h.steps →
        insert_of (record { kind = kind; size = n; held = h }) row origin ≡ Ok r → All (IsStorableStep kind) r.held.steps
    insert_writable h row origin r pivots a len from all e =
        let f = first_fits _ (sweep_of kind h.pivots n (record { row = row; terms = [] })) r e in
        let q = sweep_reads kind (field_of kind) (number_of kind) reads h.pivots n n (λ i. vzero (field_of kind))
        (record { row = row; terms = [] }) f.0 pivots (omega arith) a len f.1.0 in
        let g = part_fits _ (keep_of kind h origin f.0 (lead_of f.0.row)) r f.1.1 in
        subst (λ r. All (IsStorableStep kind) r.held.steps) (sym g.1.1)
        (keep_writable h g.0 origin f.0 (lead_of f.0.row) q.left.elements refl
        (swept_writable h.pivots n row f.0 pivots (omega arith) a len f.1.0) from all g.1.0)

    close_step : (pivots : List PivotRow) (s : ℕ) (f g : Held) (o : Option PivotRow) → find (stands_at (s + 1)) pivots ≡ o → s ≤ n →
        All (IsPivotRow kind n) pivots → All (IsPivotRow kind n) f.pivots → All (IsStorableStep kind) f.steps → close_by kind o s f ≡ Ok g →
        All (IsStorableStep kind) g.steps
    close_step pivots s f g None is l open_rows closed all e = subst (λ g. All (IsStorableStep kind) g.steps) (ok_same e) all
    close_step pivots s f g (Some p) is l open_rows closed all e =
        let r = part_fits _ (sweep_of kind f.pivots s (record { row = p.row; terms = [] })) g e in
        let a = found_elements kind n (s + 1) pivots p open_rows (sym is) in
        let len = found_length kind n (s + 1) pivots p open_rows (sym is) in
        subst (λ g. All (IsStorableStep kind) g.steps) (sym r.1.1)
        (all_more (IsStorableStep kind) f.steps (Close p.step r.0.terms) all (swept_writable f.pivots s p.row r.0 closed l a (sym len) r.1.0))

    pub close_writable : (pivots : List PivotRow) (m : ℕ) (h g : Held) → All (IsPivotRow kind n) pivots → m ≤ n → h.pivots ≡ [] →
        All (IsStorableStep kind) h.steps → close_to kind pivots m h ≡ Ok g → All (IsStorableStep kind) g.steps
    close_writable pivots zero h g rows l none all e = subst (λ g. All (IsStorableStep kind) g.steps) (ok_same e) all
    close_writable pivots (suc s) h g rows l none all e =
        let f = first_fits _ (close_to kind pivots s h) g e in
        close_step pivots s f.0 g (find (stands_at (s + 1)) pivots) refl (omega arith) rows
        (close_pivots kind n s pivots h f.0 listed rows (omega arith) none f.1.0) (close_writable pivots s h f.0 rows (omega arith) none all f.1.0) f.1.1

ascends_few : (m n : ℕ) (ps : List PivotRow) → AscendsFrom m n ps → m + length ps ≤ n
ascends_few m n [] h = omega arith
ascends_few m n (p ∷ ps) h = let a = h.0 in let b = ascends_few p.lead n ps h.1 in omega arith

-- origins of a weight are rows of no other list
all_cond : (b : Bool) (x : Origin) → IsWritableOrigin x → All IsWritableOrigin (cond b (x ∷ []) [])
all_cond true x h = all_cons IsWritableOrigin x [] h (All-nil IsWritableOrigin)
all_cond false x h = All-nil IsWritableOrigin

all_joined : (n : ℕ) (f : ℕ → List Origin) → ((i : ℕ) → All IsWritableOrigin (f i)) → All IsWritableOrigin (joined n f)
unfolding joined
all_joined zero f h = All-nil IsWritableOrigin
all_joined (suc n) f h = All-append IsWritableOrigin (joined n f) (f n) (all_joined n f h) (h n)

relations_writable : (T : PlainTable) (r : ℕ) (qs : List Equation) → All IsWritableOrigin (relations_from T r qs)
relations_writable T r [] = All-nil IsWritableOrigin
relations_writable T r (q ∷ qs) =
    All-append IsWritableOrigin (cond (is_exactly (suc T.weight) (relation_weight T q)) (Relation r ∷ []) []) (relations_from T (r + 1) qs)
    (all_cond (is_exactly (suc T.weight) (relation_weight T q)) (Relation r) tt) (relations_writable T (r + 1) qs)

cubes_writable : (T : PlainTable) (b : Bool) → All IsWritableOrigin (cond b (joined (length T.basis) (λ i. cond (is_cube T i) (Cube (i + 1) ∷ []) [])) [])
cubes_writable T true = all_joined (length T.basis) (λ i. cond (is_cube T i) (Cube (i + 1) ∷ []) []) (λ i. all_cond (is_cube T i) (Cube (i + 1)) tt)
cubes_writable T false = All-nil IsWritableOrigin

triples_writable : (T : PlainTable) → All IsWritableOrigin (triples_of T)
triples_writable T =
    all_joined (length T.basis)
    (λ i. joined (length T.basis) (λ j. joined (length T.basis) (λ k. cond (is_triple T i j k) (Jacobi (i + 1) (j + 1) (k + 1) ∷ []) [])))
    (λ i. all_joined (length T.basis) (λ j. joined (length T.basis) (λ k. cond (is_triple T i j k) (Jacobi (i + 1) (j + 1) (k + 1) ∷ []) []))
    (λ j. all_joined (length T.basis) (λ k. cond (is_triple T i j k) (Jacobi (i + 1) (j + 1) (k + 1) ∷ []) [])
    (λ k. all_cond (is_triple T i j k) (Jacobi (i + 1) (j + 1) (k + 1)) tt)))

origins_writable : (T : PlainTable) (p : Presentation) → All IsWritableOrigin (origins_of T p)
origins_writable T p =
    All-append IsWritableOrigin (relations_of T p ++ triples_of T) (cubes_of T)
    (All-append IsWritableOrigin (relations_of T p) (triples_of T) (relations_writable T 1 p.relations) (triples_writable T))
    (cubes_writable T (is_three T.kind))

module _ (T : PlainTable) (p : Presentation) (n : ℕ) (small : n < 2 ^ 32) (is_field : IsField T.kind) (vector : Origin → Vector (field_of T.kind)) where
  -- what gathering gives
  record Gathered (e : Elimination) : Type 0 where
    kind : e.kind ≡ T.kind
    size : e.size ≡ n
    rows : All (IsPivotRow T.kind n) e.held.pivots
    steps : All (IsStorableStep T.kind) e.held.steps

  gather_writable : (os : List Origin) (h : Held) (e : Elimination) → ReadsRows T is_field p n vector os → All IsWritableOrigin os →
      All (IsPivotRow T.kind n) h.pivots → All (IsStorableStep T.kind) h.steps →
      gather T p os (record { kind = T.kind; size = n; held = h }) ≡ Ok e → Gathered e
  gather_writable [] h e r from rows steps eq = subst Gathered (ok_same eq) (record { kind = refl; size = refl; rows = rows; steps = steps })
  gather_writable (o ∷ os) h e r from rows steps eq =
      let q = first_fits {T = Elimination} (λ f. gather T p os f) (put_of T p o (record { kind = T.kind; size = n; held = h })) e eq in
      let g = put_parts T p n o h q.0 q.1.0 in
      let here = first_of T is_field p n vector o os in
      let elements = r.elements o here g.row g.reads in
      let long = r.long o here g.row g.reads in
      gather_writable os g.inserted.held e (rest T is_field p n vector o os r) (all_tail IsWritableOrigin o os from)
      (insert_pivots (record { kind = T.kind; size = n; held = h }) g.row o g.inserted is_field rows long elements g.inserts)
      (insert_writable T.kind is_field n small h g.row o g.inserted rows elements long (all_head IsWritableOrigin o os from) steps g.inserts)
      (subst (λ w. gather T p os w ≡ Ok e) g.is q.1.1)

  pub steps_writable : ReadsRows T is_field p n vector (origins_of T p) → n ≡ length (symbols_in T) → (h : Held) → close_weight T p ≡ Ok h →
      All (IsStorableStep T.kind) h.steps × (length h.pivots ≤ n)
  steps_writable reads size h eq =
      let r = run_parts T p h eq in
      let begin = subst (λ w. gather T p (origins_of T p) (record {
        kind = T.kind;
        size = w;
        held = record { pivots = []; steps = [] };
      }) ≡ Ok r.gathered) (sym size) r.gathers in
      let g = gather_writable (origins_of T p) (record { pivots = []; steps = [] }) r.gathered reads (origins_writable T p)
      (All-nil (IsPivotRow T.kind n)) (All-nil (IsStorableStep T.kind)) begin in
      closing r.gathered g r.closes
    where
      closing : (e : Elimination) → Gathered e → close_of e ≡ Ok h → All (IsStorableStep T.kind) h.steps × (length h.pivots ≤ n)
      closing e g eq =
          let start : Held = record { pivots = []; steps = e.held.steps } in
          let here = subst (λ w. close_to T.kind e.held.pivots w start ≡ Ok h) g.size (subst (λ k. close_to k e.held.pivots e.size start ≡ Ok h) g.kind eq) in (
            close_writable T.kind is_field n small e.held.pivots n start h g.rows (omega arith) refl g.steps here,
            (let few = ascends_few 0 n h.pivots (close_ascends T.kind e.held.pivots n start h refl here) in omega arith),
          )
