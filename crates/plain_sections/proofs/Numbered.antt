-- The steps that a run of a weight records are of numbers of the field.
use Rattle.std.specs.Prelude.{◌≡◌, ℕ, zero, suc, ◌+◌, ◌-◌, ◌≤◌, List, [], ◌∷◌, length, get_or, Option, Some, None, Ok, Bool, true, false, cond, All, Contains}
use Rattle.std.specs.List.{find}
use mathlib.Core.Path.{refl, sym, subst}
use native.Mathlib.Omega.{arith}
use Rattle.math_linear.specs.Vector.{vzero}
use Rattle.fpl_numbers.specs.declared.number.Num.{Num}
use Rattle.fpl_numbers.specs.declared.number.Kind.{Kind}
use Rattle.fpl_numbers.specs.Numbers.{IsField, IsElement, is_nought, residue, negative_of, inverse_of}
use Rattle.fpl_numbers.specs.Reads.{Reads}
use Rattle.fpl_numbers.specs.Kinds.{field_of, number_of}
use Rattle.fpl_numbers.specs.Results.{map_ok}
use Rattle.fpl_numbers.proofs.KindReads.{kind_reads}
use Rattle.fpl_scalar.specs.Vectors.{axpy_of, scale_of}
use Rattle.fpl_rows.specs.Positions.{lead_of}
use Rattle.fpl_rows.specs.Meaning.{IsRowOf}
use Rattle.fpl_rows.proofs.Fits.{ok_same, first_fits, part_fits, all_found, all_more}
use Rattle.fpl_rows.proofs.Leads.{lead_is}
use Rattle.fpl_model.specs.declared.presentation.Presentation.{Presentation}
use Rattle.fpl_log.specs.declared.step.Origin.{Origin}
use Rattle.fpl_log.specs.declared.step.Step.TheVariants.{Insert, Close}
use Rattle.plain_elimination.specs.Plain.{PivotRow, IsPivotRow, stands_at, Swept, taken_off, sweep_by, sweep_at, sweep_of, Held, Elimination, Inserted, keep_of, insert_of, close_by, close_to}
use Rattle.plain_elimination.proofs.Sweeping.{at_reads}
use Rattle.plain_elimination.proofs.Found.{insert_pivots, close_pivots}
use Rattle.fpl_table.specs.Plain.{PlainTable, symbols_in}
use Rattle.fpl_rewrite.specs.Origins.{origins_of}
use Rattle.plain_weights.specs.Weight.{put_of, gather, close_weight}
use Rattle.plain_weights.proofs.Recorded.{put_parts, run_parts}
use Rattle.fpl_check.specs.Premises.{AreFactorsOf, HasNumbersOf}
use Rattle.fpl_check.proofs.ListedOrigins.{contains_rest}
use Rattle.fpl_check.proofs.Conclusions.{HaveRows}
use Rattle.fpl_table.proofs.NewNumbers.{nought_element}

module _ (kind : Kind) (listed : IsField kind) (n : ℕ) where
  reads : Reads kind (field_of kind) (number_of kind)
  reads = kind_reads kind listed

  by_factors : (o : Option PivotRow) (c : Num) (x y : Swept) → IsElement kind c → AreFactorsOf kind x.terms → sweep_by kind o c x ≡ Ok y →
      AreFactorsOf kind y.terms
  by_factors None c x y is a e = subst (λ y. AreFactorsOf kind y.terms) (ok_same e) a
  by_factors (Some q) c x y is a e = go (is_nought c) e
    where
      go : (b : Bool) → cond b (Ok x) (map_ok (λ row. taken_off x q c row) (axpy_of kind x.row (negative_of kind c) q.row)) ≡ Ok y → AreFactorsOf kind y.terms
      go true e = subst (λ y. AreFactorsOf kind y.terms) (ok_same e) a
      go false e =
          let r = part_fits (λ row. taken_off x q c row) (axpy_of kind x.row (negative_of kind c) q.row) y e in
          subst (λ y. AreFactorsOf kind y.terms) (sym r.1.1) (all_more (λ t. IsElement kind t.factor) x.terms (record { step = q.step; factor = c }) a is)

  -- what is left of a row, and what was taken off
  record IsSweep (y : Swept) : Type 0 where
    row : IsRowOf kind n y.row
    factors : AreFactorsOf kind y.terms

  sweep_factors : (pivots : List PivotRow) (m : ℕ) (x y : Swept) → All (IsPivotRow kind n) pivots → m ≤ n → IsSweep x →
      sweep_of kind pivots m x ≡ Ok y → IsSweep y
  sweep_factors pivots zero x y all l h e = subst IsSweep (ok_same e) h
  sweep_factors pivots (suc s) x y all l h e =
      let f = first_fits (λ y. sweep_of kind pivots s y) (sweep_at kind pivots s x) y e in
      let r = at_reads kind (field_of kind) (number_of kind) reads pivots n s (λ i. vzero (field_of kind)) x f.0 all
      (omega (arith, l)) h.row.elements h.row.length_is f.1.0 in
      let c = h.row.elements s (residue 0) (let k = h.row.length_is in omega (arith, l, k)) in
      sweep_factors pivots s f.0 y all (omega (arith, l))
      (record {
        row = record { elements = r.left.elements; length_is = r.left.length_is };
        factors = by_factors (find (stands_at (s + 1)) pivots) (get_or x.row s (residue 0)) x f.0 c h.factors f.1.0;
      }) f.1.1

  start : (row : List Num) → IsRowOf kind n row → IsSweep (record { row = row; terms = [] })
  start row is = record { row = is; factors = λ i d l. absurd (omega (arith, l)) }

  keep_numbers : (h g : Held) (o : Origin) (x : Swept) (lead : Option ℕ) → IsSweep x → lead_of x.row ≡ lead → All (HasNumbersOf kind) h.steps →
      keep_of kind h o x lead ≡ Ok g → All (HasNumbersOf kind) g.steps
  keep_numbers h g o x None is l all e = subst (λ g. All (HasNumbersOf kind) g.steps) (ok_same e)
      (all_more (HasNumbersOf kind) h.steps (Insert o x.terms (residue 0)) all (is.factors, nought_element kind listed))
  keep_numbers h g o x (Some s) is l all e =
      let c = get_or x.row (s - 1) (residue 0) in
      let f = part_fits _ (scale_of kind (inverse_of kind c) x.row) g e in
      let t = lead_is x.row (length x.row) s l in
      let i = reads.inverse c (is.row.elements (s - 1) (residue 0) (let u = t.from_one in let v = t.to_end in omega arith)) t.leads in
      subst (λ g. All (HasNumbersOf kind) g.steps) (sym f.1.1)
      (all_more (HasNumbersOf kind) h.steps (Insert o x.terms (inverse_of kind c)) all (is.factors, i.0))

  insert_numbers : (h : Held) (o : Origin) (row : List Num) (r : Inserted) → All (IsPivotRow kind n) h.pivots → IsRowOf kind n row →
      All (HasNumbersOf kind) h.steps → insert_of (record { kind = kind; size = n; held = h }) row o ≡ Ok r →
      All (HasNumbersOf kind) r.held.steps
  insert_numbers h o row r pivots is all e =
      let f = first_fits _ (sweep_of kind h.pivots n (record { row = row; terms = [] })) r e in
      let k = part_fits _ (keep_of kind h o f.0 (lead_of f.0.row)) r f.1.1 in
      subst (λ r. All (HasNumbersOf kind) r.held.steps) (sym k.1.1)
      (keep_numbers h k.0 o f.0 (lead_of f.0.row) (sweep_factors h.pivots n (record { row = row; terms = [] }) f.0 pivots (omega arith)
      (start row is) f.1.0) refl all k.1.0)

  by_numbers : (pivots : List PivotRow) (s : ℕ) (f g : Held) (o : Option PivotRow) → find (stands_at (s + 1)) pivots ≡ o → s ≤ n →
      All (IsPivotRow kind n) pivots → All (IsPivotRow kind n) f.pivots → All (HasNumbersOf kind) f.steps → close_by kind o s f ≡ Ok g →
      All (HasNumbersOf kind) g.steps
  by_numbers pivots s f g None is l rows closed all e = subst (λ g. All (HasNumbersOf kind) g.steps) (ok_same e) all
  by_numbers pivots s f g (Some q) is l rows closed all e =
      let r = part_fits _ (sweep_of kind f.pivots s (record { row = q.row; terms = [] })) g e in
      let here = all_found (IsPivotRow kind n) (stands_at (s + 1)) pivots q rows (sym is) in
      let x = sweep_factors f.pivots s (record { row = q.row; terms = [] }) r.0 closed l
      (start q.row (record { elements = here.elements; length_is = here.length_is })) r.1.0 in
      subst (λ g. All (HasNumbersOf kind) g.steps) (sym r.1.1) (all_more (HasNumbersOf kind) f.steps (Close q.step r.0.terms) all x.factors)

  pub close_numbers : (pivots : List PivotRow) (m : ℕ) (h g : Held) → h.pivots ≡ [] → m ≤ n → All (IsPivotRow kind n) pivots →
      All (HasNumbersOf kind) h.steps → close_to kind pivots m h ≡ Ok g → All (HasNumbersOf kind) g.steps
  close_numbers pivots zero h g none l rows all e = subst (λ g. All (HasNumbersOf kind) g.steps) (ok_same e) all
  close_numbers pivots (suc s) h g none l rows all e =
      let f = first_fits _ (close_to kind pivots s h) g e in
      by_numbers pivots s f.0 g (find (stands_at (s + 1)) pivots) refl (omega (arith, l)) rows
      (close_pivots kind n s pivots h f.0 listed rows (omega (arith, l)) none f.1.0)
      (close_numbers pivots s h f.0 none (omega (arith, l)) rows all f.1.0) f.1.1

module _ (T : PlainTable) (p : Presentation) (listed : IsField T.kind) (sources : HaveRows T p (length (symbols_in T))) where
  abbrev n : ℕ
  n = length (symbols_in T)

  -- what gathering leaves
  record Gathers (e : Elimination) : Type 0 where
    kind : e.kind ≡ T.kind
    size : e.size ≡ n
    rows : All (IsPivotRow T.kind n) e.held.pivots
    steps : All (HasNumbersOf T.kind) e.held.steps

  gathers : (os : List Origin) (h : Held) (e : Elimination) → ((o : Origin) → Contains os o → Contains (origins_of T p) o) →
      All (IsPivotRow T.kind n) h.pivots → All (HasNumbersOf T.kind) h.steps →
      gather T p os (record { kind = T.kind; size = n; held = h }) ≡ Ok e → Gathers e
  gathers [] h e within all numbers eq = subst Gathers (ok_same eq) (record { kind = refl; size = refl; rows = all; steps = numbers })
  gathers (o ∷ os) h e within all numbers eq =
      let q = first_fits {T = Elimination} (λ f. gather T p os f) (put_of T p o (record { kind = T.kind; size = n; held = h })) e eq in
      let put = put_parts T p n o h q.0 q.1.0 in
      let is = sources o (within o (0, omega arith, refl)) put.row put.reads in
      gathers os put.inserted.held e (λ x c. within x (contains_rest (o ∷ os) os o x refl c))
      (insert_pivots (record { kind = T.kind; size = n; held = h }) put.row o put.inserted listed all is.length_is is.elements put.inserts)
      (insert_numbers T.kind listed n h o put.row put.inserted all is numbers put.inserts) (subst (λ w. gather T p os w ≡ Ok e) put.is q.1.1)

  pub run_numbers : (h : Held) → close_weight T p ≡ Ok h → All (HasNumbersOf T.kind) h.steps
  run_numbers h run =
      let r = run_parts T p h run in
      let g = gathers (origins_of T p) (record { pivots = []; steps = [] }) r.gathered (λ o c. c) (λ i d l. absurd (omega (arith, l)))
      (λ i d l. absurd (omega (arith, l))) r.gathers in
      let closes : close_to T.kind r.gathered.held.pivots n (record { pivots = []; steps = r.gathered.held.steps }) ≡ Ok h =
      subst (λ w. close_to T.kind r.gathered.held.pivots w (record { pivots = []; steps = r.gathered.held.steps }) ≡ Ok h) g.size
      (subst (λ k. close_to k r.gathered.held.pivots r.gathered.size (record { pivots = []; steps = r.gathered.held.steps }) ≡ Ok h) g.kind r.closes) in
      close_numbers T.kind listed n r.gathered.held.pivots n (record { pivots = []; steps = r.gathered.held.steps }) h refl (omega arith) g.rows g.steps closes
