-- The steps that a run of a weight records pass the check: each concludes the row that the run had.
use Rattle.std.specs.Prelude.{◌≡◌, ℕ, zero, suc, ◌+◌, ◌-◌, List, [], ◌∷◌, ◌++◌, length, get_or, Option, Some, None, Ok, Bool, true, false, cond, All, Contains, if◌then◌else◌}
use Rattle.std.specs.List.{find}
use mathlib.Core.Path.{refl, sym, ap, ◌∙◌, subst}
use native.Mathlib.Omega.{arith}
use Rattle.std.proofs.lemmas.List.{append_assoc, append-nil, map-append}
use Rattle.math_linear.specs.Vector.{vzero}
use Rattle.fpl_numbers.specs.declared.number.Num.{Num}
use Rattle.fpl_numbers.specs.declared.number.Kind.{Kind}
use Rattle.fpl_numbers.specs.Numbers.{IsField, is_nought, residue, negative_of, inverse_of}
use Rattle.fpl_numbers.specs.Kinds.{field_of, number_of}
use Rattle.fpl_numbers.specs.Results.{and_then, map_ok}
use Rattle.fpl_numbers.proofs.KindReads.{kind_reads}
use Rattle.fpl_scalar.specs.Vectors.{AreElements, axpy_of, scale_of}
use Rattle.fpl_rows.specs.Positions.{lead_of}
use Rattle.fpl_rows.proofs.Fits.{ok_same, first_fits, part_fits, all_found, all_more, all_cons, all_head, all_tail}
use Rattle.fpl_rows.proofs.Leads.{lead_is}
use Rattle.fpl_model.specs.declared.presentation.Presentation.{Presentation}
use Rattle.fpl_log.specs.declared.terms.Term.{Term}
use Rattle.fpl_log.specs.declared.step.Origin.{Origin}
use Rattle.fpl_log.specs.declared.step.Step.{Step}
use Rattle.fpl_log.specs.declared.step.Step.TheVariants.{Insert, Close}
use Rattle.fpl_log.specs.Plain.{terms_off, scaled_by, conclude_of}
use Rattle.plain_elimination.specs.Plain.{PivotRow, IsPivotRow, stands_at, Swept, taken_off, sweep_by, sweep_at, sweep_of, Held, Elimination, Inserted, keep_of, insert_of, close_by, close_to, rows_of}
use Rattle.plain_elimination.proofs.Sweeping.{sweep_reads}
use Rattle.plain_elimination.proofs.Found.{insert_pivots}
use Rattle.fpl_table.specs.Plain.{PlainTable, symbols_in}
use Rattle.fpl_rewrite.specs.Origins.{origins_of}
use Rattle.fpl_rewrite.specs.Rows.{row_of_origin}
use Rattle.plain_weights.specs.Weight.{begun, put_of, gather, close_weight}
use Rattle.plain_elimination.proofs.Inverses.{inverse_stays}
use Rattle.plain_weights.proofs.Recorded.{put_parts, run_parts}
use Rattle.fpl_check.specs.declared.cites.Cited.{Cited}
use Rattle.fpl_check.specs.declared.cites.Cited.TheVariants.{Inserts, Closes}
use Rattle.fpl_check.specs.declared.fault.Spot.TheVariants.{Step as AtStep}
use Rattle.fpl_check.specs.Cited.{named}
use Rattle.fpl_check.specs.Steps.{is_origin, names_insert, names_close, remainder_at, scale_if, test_zero, test_dependent}
use Rattle.fpl_check.specs.ClosedRows.{close_rows}
use Rattle.fpl_check.proofs.ListedOrigins.{contains_rest}
use Rattle.fpl_check.proofs.StepParts.{InsertParts, CloseParts}
use Rattle.fpl_check.proofs.Conclusions.{HaveRows}
use Rattle.plain_sections.proofs.StepsMore.{step_named, cites_all, close_rows_more, Told, told_more, IsStepOf, all_steps_more, step_last}

-- the terms of a sweep, taken off once more
module _ (kind : Kind) (rest : List (List Num)) where
  pub off_append : (v w : List Num) (ts us : List Term) → terms_off kind rest v ts ≡ Ok w → terms_off kind rest v (ts ++ us) ≡ terms_off kind rest w us
  off_append v w [] us e = ap (λ x. terms_off kind rest x us) (ok_same e)
  off_append v w (t ∷ ts) us e =
      let f = first_fits (λ x. terms_off kind rest x ts) (axpy_of kind v (negative_of kind t.factor) (get_or rest (t.step - 1) [])) w e in
      ap (and_then (λ x. terms_off kind rest x (ts ++ us))) f.1.0 ∙ off_append f.0 w ts us f.1.1

  all_both : (P : ℕ → Type 0) (ts us : List Term) → All (λ t. P t.step) ts → All (λ t. P t.step) us → All (λ t. P t.step) (ts ++ us)
  all_both P [] us a b = b
  all_both P (t ∷ ts) us a b = all_cons (λ t. P t.step) t (ts ++ us) (all_head (λ t. P t.step) t ts a) (all_both P ts us (all_tail (λ t. P t.step) t ts a) b)

  -- the terms that lead from x to y
  pub record Tells (P : ℕ → Type 0) (x y : Swept) : Type 0 where
    pub terms : List Term
    pub is : y.terms ≡ x.terms ++ terms
    pub off : terms_off kind rest x.row terms ≡ Ok y.row
    pub cited : All (λ t. P t.step) terms

  tells_on : (P : ℕ → Type 0) (x y z : Swept) → Tells P x y → Tells P y z → Tells P x z
  tells_on P x y z a b = record {
    terms = a.terms ++ b.terms;
    is = b.is ∙ ap (λ w. w ++ b.terms) a.is ∙ append_assoc x.terms a.terms b.terms;
    off = off_append x.row y.row a.terms b.terms a.off ∙ b.off;
    cited = all_both P a.terms b.terms a.cited b.cited;
  }

  tells_none : (P : ℕ → Type 0) (x : Swept) → Tells P x x
  tells_none P x = record { terms = []; is = sym (append-nil x.terms); off = refl; cited = λ i d l. absurd (omega (arith, l)) }

  -- a pivot row is the conclusion of a step that may be cited
  abbrev pub Cites : (ℕ → Type 0) → PivotRow → Type 0
  Cites P q = P q.step × (get_or rest (q.step - 1) [] ≡ q.row)

  by_tells : (P : ℕ → Type 0) (o : Option PivotRow) (c : Num) (x y : Swept) → ((q : PivotRow) → o ≡ Some q → Cites P q) → sweep_by kind o c x ≡ Ok y →
      Tells P x y
  by_tells P None c x y h e = subst (Tells P x) (ok_same e) (tells_none P x)
  by_tells P (Some q) c x y h e = go (is_nought c) e
    where
      go : (b : Bool) → cond b (Ok x) (map_ok (λ row. taken_off x q c row) (axpy_of kind x.row (negative_of kind c) q.row)) ≡ Ok y → Tells P x y
      go true e = subst (Tells P x) (ok_same e) (tells_none P x)
      go false e =
          let r = part_fits (λ row. taken_off x q c row) (axpy_of kind x.row (negative_of kind c) q.row) y e in
          subst (Tells P x) (sym r.1.1)
          (record {
            terms = (record { step = q.step; factor = c }) ∷ [];
            is = refl;
            off = ap (λ u. and_then (λ w. terms_off kind rest w []) (axpy_of kind x.row (negative_of kind c) u)) (h q refl).1
                ∙ ap (and_then (λ w. terms_off kind rest w [])) r.1.0;
            cited = λ i d l. one i d l;
          })
        where
          one : All (λ (t : Term). P t.step) ((record { step = q.step; factor = c }) ∷ [])
          one zero d l = (h q refl).0
          one (suc i) d l = absurd (omega (arith, l))

  pub sweep_tells : (P : ℕ → Type 0) (pivots : List PivotRow) (n : ℕ) (x y : Swept) → All (Cites P) pivots → sweep_of kind pivots n x ≡ Ok y → Tells P x y
  sweep_tells P pivots zero x y h e = subst (Tells P x) (ok_same e) (tells_none P x)
  sweep_tells P pivots (suc s) x y h e =
      let f = first_fits (λ y. sweep_of kind pivots s y) (sweep_at kind pivots s x) y e in
      tells_on P x f.0 y
      (by_tells P (find (stands_at (s + 1)) pivots) (get_or x.row s (residue 0)) x f.0
      (λ q e. all_found (Cites P) (stands_at (s + 1)) pivots q h (sym e)) f.1.0)
      (sweep_tells P pivots s f.0 y h f.1.1)

all_cites : (sort : Cited) (kind : Kind) (steps more : List Step) (rest : List (List Num)) (qs : List PivotRow) → length rest ≡ length steps →
    All (IsStepOf sort steps rest) qs → All (Cites kind rest (λ m. named sort (steps ++ more) (length rest + 1) m ≡ true)) qs
all_cites sort kind steps more rest qs long h i d l = (step_named sort steps more rest (get_or qs i d) long (h i d l), (h i d l).row)

module _ (T : PlainTable) (p : Presentation) (listed : IsField T.kind) (n : ℕ) (sources : HaveRows T p n)
    (named_origin : (o : Origin) → Contains (origins_of T p) o → is_origin T p o ≡ true) where
  -- the steps that gathering has recorded
  pub record Gathering (h : Held) : Type 0 where
    pub rest : List (List Num)
    pub told : Told T p h.steps rest
    pub pivots : All (IsStepOf Inserts h.steps rest) h.pivots
    pub none : close_rows h.steps rest ≡ []

  gather_more : (h : Held) (o : Origin) (ts : List Term) (k : Num) (row : List Num) (qs : List PivotRow) (g : Gathering h) →
      InsertParts T p (h.steps ++ (Insert o ts k) ∷ []) g.rest o ts k row →
      All (IsStepOf Inserts (h.steps ++ (Insert o ts k) ∷ []) (g.rest ++ row ∷ [])) qs →
      Gathering (record { pivots = qs; steps = h.steps ++ (Insert o ts k) ∷ [] })
  gather_more h o ts k row qs g parts pivots = record {
    rest = g.rest ++ row ∷ [];
    told = told_more T p h.steps g.rest (Insert o ts k) row g.told parts;
    pivots = pivots;
    none = close_rows_more h.steps g.rest (Insert o ts k) row g.told.long ∙ append-nil (close_rows h.steps g.rest) ∙ g.none;
  }

  -- an Insert step, from what its sweep and its scale were
  insert_from : (h : Held) (g : Gathering h) (o : Origin) (source : List Num) (x : Swept) (k : Num) (row : List Num) → Contains (origins_of T p) o →
      row_of_origin T p o ≡ Ok source →
      sweep_of T.kind h.pivots n (record { row = source; terms = [] }) ≡ Ok x → scaled_by T.kind (scale_if k) x.row ≡ Ok row →
      test_dependent (length g.rest + 1) k row ≡ Ok tt →
      InsertParts T p (h.steps ++ (Insert o x.terms k) ∷ []) g.rest o x.terms k row
  insert_from h g o source x k row c reads sweeps scales rests =
      let steps = h.steps ++ (Insert o x.terms k) ∷ [] in
      let t = sweep_tells T.kind g.rest (λ m. named Inserts steps (length g.rest + 1) m ≡ true) h.pivots n (record { row = source; terms = [] }) x
      (all_cites Inserts T.kind h.steps ((Insert o x.terms k) ∷ []) g.rest h.pivots g.told.long g.pivots) sweeps in
      record {
        origin_is = named_origin o c;
        cites = cites_all (names_insert steps (length g.rest + 1)) (length g.rest + 1) x.terms
            (subst (All (λ t. named Inserts steps (length g.rest + 1) t.step ≡ true)) (sym t.is) t.cited);
        source = source;
        reads = reads;
        concludes = ap (and_then (λ v. scaled_by T.kind (scale_if k) v)) (ap (terms_off T.kind g.rest source) t.is ∙ t.off) ∙ scales;
        dependent = rests;
      }

  keep_gathers : (h r : Held) (o : Origin) (source : List Num) (x : Swept) (lead : Option ℕ) → Gathering h → AreElements T.kind x.row →
      lead_of x.row ≡ lead → Contains (origins_of T p) o → row_of_origin T p o ≡ Ok source →
      sweep_of T.kind h.pivots n (record { row = source; terms = [] }) ≡ Ok x → keep_of T.kind h o x lead ≡ Ok r → Gathering r
  keep_gathers h r o source x None g a l c reads sweeps e =
      let parts = insert_from h g o source x (residue 0) x.row c reads sweeps refl (ap (remainder_at (AtStep (length g.rest + 1)) x.row) l) in
      subst Gathering (ok_same e)
      (gather_more h o x.terms (residue 0) x.row h.pivots g parts (all_steps_more Inserts h.steps g.rest
      (Insert o x.terms (residue 0)) x.row h.pivots g.told.long g.pivots))
  keep_gathers h r o source x (Some s) g a l c reads sweeps e =
      let k = inverse_of T.kind (get_or x.row (s - 1) (residue 0)) in
      let f = part_fits _ (scale_of T.kind k x.row) r e in
      let t = lead_is x.row (length x.row) s l in
      let kept = inverse_stays T.kind listed (get_or x.row (s - 1) (residue 0))
      (a (s - 1) (residue 0) (let u = t.from_one in let v = t.to_end in omega arith)) t.leads in
      let parts = insert_from h g o source x k f.0 c reads sweeps (ap (λ b. scaled_by T.kind (if b then None else Some k) x.row) kept ∙ f.1.0)
      (ap (λ b. if b then test_zero (AtStep (length g.rest + 1)) f.0 else Ok tt) kept) in
      subst Gathering (sym f.1.1)
      (gather_more h o x.terms k f.0 (h.pivots ++ (record { lead = s; step = length h.steps + 1; row = f.0 }) ∷ []) g parts
      (all_more (IsStepOf Inserts (h.steps ++ (Insert o x.terms k) ∷ []) (g.rest ++ f.0 ∷ [])) h.pivots
      (record { lead = s; step = length h.steps + 1; row = f.0 })
      (all_steps_more Inserts h.steps g.rest (Insert o x.terms k) f.0 h.pivots g.told.long g.pivots)
      (step_last Inserts h.steps g.rest (Insert o x.terms k) f.0 s g.told.long refl)))

  insert_gathers : (h : Held) (o : Origin) (source : List Num) (r : Inserted) → All (IsPivotRow T.kind n) h.pivots → Contains (origins_of T p) o →
      row_of_origin T p o ≡ Ok source → Gathering h →
      insert_of (record { kind = T.kind; size = n; held = h }) source o ≡ Ok r → Gathering r.held
  insert_gathers h o source r all c reads g e =
      let is = sources o c source reads in
      let f = first_fits _ (sweep_of T.kind h.pivots n (record { row = source; terms = [] })) r e in
      let q = sweep_reads T.kind (field_of T.kind) (number_of T.kind) (kind_reads T.kind listed) h.pivots n n (λ i. vzero (field_of T.kind))
      (record { row = source; terms = [] }) f.0 all (omega arith) is.elements is.length_is f.1.0 in
      let k = part_fits _ (keep_of T.kind h o f.0 (lead_of f.0.row)) r f.1.1 in
      subst (λ r. Gathering r.held) (sym k.1.1) (keep_gathers h k.0 o source f.0 (lead_of f.0.row) g q.left.elements refl c reads f.1.0 k.1.0)

  -- what gathering leaves
  pub record Gathered (e : Elimination) : Type 0 where
    pub kind : e.kind ≡ T.kind
    pub size : e.size ≡ n
    pub rows : All (IsPivotRow T.kind n) e.held.pivots
    pub steps : Gathering e.held

  gathered : (os : List Origin) (h : Held) (e : Elimination) → ((o : Origin) → Contains os o → Contains (origins_of T p) o) →
      All (IsPivotRow T.kind n) h.pivots → Gathering h →
      gather T p os (record { kind = T.kind; size = n; held = h }) ≡ Ok e → Gathered e
  gathered [] h e within all g eq = subst Gathered (ok_same eq) (record { kind = refl; size = refl; rows = all; steps = g })
  gathered (o ∷ os) h e within all g eq =
      let q = first_fits {T = Elimination} (λ f. gather T p os f) (put_of T p o (record { kind = T.kind; size = n; held = h })) e eq in
      let put = put_parts T p n o h q.0 q.1.0 in
      let here = within o (0, omega arith, refl) in
      let is = sources o here put.row put.reads in
      let pivots = insert_pivots (record { kind = T.kind; size = n; held = h }) put.row o put.inserted listed all is.length_is is.elements put.inserts in
      gathered os put.inserted.held e (λ x c. within x (contains_rest (o ∷ os) os o x refl c)) pivots
      (insert_gathers h o put.row put.inserted all here put.reads g put.inserts) (subst (λ w. gather T p os w ≡ Ok e) put.is q.1.1)

  -- the steps that closing has recorded
  pub record Closing (pivots : List PivotRow) (g : Held) : Type 0 where
    pub rest : List (List Num)
    pub told : Told T p g.steps rest
    pub open_rows : All (IsStepOf Inserts g.steps rest) pivots
    pub closed_rows : All (IsStepOf Closes g.steps rest) g.pivots
    pub rows : close_rows g.steps rest ≡ rows_of g.pivots

  step_closes : (pivots : List PivotRow) (s : ℕ) (f g : Held) (o : Option PivotRow) → find (stands_at (s + 1)) pivots ≡ o → Closing pivots f →
      close_by T.kind o s f ≡ Ok g → Closing pivots g
  step_closes pivots s f g None is c e = subst (Closing pivots) (ok_same e) c
  step_closes pivots s f g (Some q) is c e =
      let r = part_fits _ (sweep_of T.kind f.pivots s (record { row = q.row; terms = [] })) g e in
      let x = r.0 in
      let new = Close q.step x.terms in
      let of = all_found (IsStepOf Inserts f.steps c.rest) (stands_at (s + 1)) pivots q c.open_rows (sym is) in
      let t = sweep_tells T.kind c.rest (λ m. named Closes (f.steps ++ new ∷ []) (length c.rest + 1) m ≡ true) f.pivots s (record { row = q.row; terms = [] }) x
      (all_cites Closes T.kind f.steps (new ∷ []) c.rest f.pivots c.told.long c.closed_rows) r.1.0 in
      let parts : CloseParts T p (f.steps ++ new ∷ []) c.rest q.step x.terms x.row = record {
        of_named = step_named Inserts f.steps (new ∷ []) c.rest q c.told.long of;
        cites = cites_all (names_close (f.steps ++ new ∷ []) (length c.rest + 1)) (length c.rest + 1) x.terms
            (subst (All (λ t. named Closes (f.steps ++ new ∷ []) (length c.rest + 1) t.step ≡ true)) (sym t.is) t.cited);
        concludes = ap (λ v. conclude_of T.kind c.rest v x.terms None) of.row
            ∙ ap (and_then (λ v. scaled_by T.kind None v)) (ap (terms_off T.kind c.rest q.row) t.is ∙ t.off);
      } in
      let p' : PivotRow = record { lead = s + 1; step = length f.steps + 1; row = x.row } in
      subst (Closing pivots) (sym r.1.1)
      (record {
        rest = c.rest ++ x.row ∷ [];
        told = told_more T p f.steps c.rest new x.row c.told parts;
        open_rows = all_steps_more Inserts f.steps c.rest new x.row pivots c.told.long c.open_rows;
        closed_rows = all_more (IsStepOf Closes (f.steps ++ new ∷ []) (c.rest ++ x.row ∷ [])) f.pivots p'
            (all_steps_more Closes f.steps c.rest new x.row f.pivots c.told.long c.closed_rows)
            (step_last Closes f.steps c.rest new x.row (s + 1) c.told.long refl);
        rows = close_rows_more f.steps c.rest new x.row c.told.long ∙ ap (λ w. w ++ x.row ∷ []) c.rows ∙ sym (map-append (λ q. q.row) f.pivots (p' ∷ []));
      })

  closes_to : (pivots : List PivotRow) (m : ℕ) (h g : Held) → h.pivots ≡ [] → (b : Gathering h) → All (IsStepOf Inserts h.steps b.rest) pivots →
      close_to T.kind pivots m h ≡ Ok g → Closing pivots g
  closes_to pivots zero h g none b rows e =
      subst (Closing pivots) (ok_same e) (record {
        rest = b.rest;
        told = b.told;
        open_rows = rows;
        closed_rows = subst (All (IsStepOf Closes h.steps b.rest)) (sym none) (λ i d l. absurd (omega (arith, l)));
        rows = b.none ∙ ap rows_of (sym none);
      })
  closes_to pivots (suc s) h g none b rows e =
      let f = first_fits _ (close_to T.kind pivots s h) g e in
      step_closes pivots s f.0 g (find (stands_at (s + 1)) pivots) refl (closes_to pivots s h f.0 none b rows f.1.0) f.1.1

  pub gathered_all : length (symbols_in T) ≡ n → (e : Elimination) → gather T p (origins_of T p) (begun T) ≡ Ok e → Gathered e
  gathered_all size e eq =
      gathered (origins_of T p) (record { pivots = []; steps = [] }) e (λ o c. c) (λ i d l. absurd (omega (arith, l)))
      (record { rest = []; told = record { long = refl; conclude = tt }; pivots = λ i d l. absurd (omega (arith, l)); none = refl })
      (ap (λ w. gather T p (origins_of T p) (record { kind = T.kind; size = w; held = record { pivots = []; steps = [] } })) (sym size) ∙ eq)

  -- what a run has recorded
  pub record IsRun (h : Held) : Type 0 where
    pub rest : List (List Num)
    pub told : Told T p h.steps rest
    pub rows : close_rows h.steps rest ≡ rows_of h.pivots

  pub run_is : length (symbols_in T) ≡ n → (h : Held) → close_weight T p ≡ Ok h → IsRun h
  run_is size h eq =
      let r = run_parts T p h eq in
      let g = gathered_all size r.gathered r.gathers in
      let start : Gathering (record { pivots = []; steps = r.gathered.held.steps }) =
      record { rest = g.steps.rest; told = g.steps.told; pivots = λ i d l. absurd (omega (arith, l)); none = g.steps.none } in
      let c = closes_to r.gathered.held.pivots r.gathered.size (record { pivots = []; steps = r.gathered.held.steps }) h refl start g.steps.pivots
      (ap (λ k. close_to k r.gathered.held.pivots r.gathered.size (record { pivots = []; steps = r.gathered.held.steps })) (sym g.kind) ∙ r.closes) in
      record { rest = c.rest; told = c.told; rows = c.rows }
