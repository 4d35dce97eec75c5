-- Inserting and closing keep it that each pivot row is the conclusion of its step.
use Rattle.std.specs.Prelude.{◌≡◌, ℕ, zero, suc, ◌+◌, ◌-◌, ◌<◌, ◌≤◌, List, [], length, get_or, All, Ok, Option, Some, None}
use Rattle.std.specs.List.{find}
use mathlib.Core.Path.{sym, refl, ap, ◌∙◌, subst}
use native.Mathlib.Omega.{arith}
use Rattle.math_fields.specs.Field.{Field}
use Rattle.math_linear.specs.Vector.{Vector, scale}
use Rattle.fpl_numbers.specs.declared.number.Num.{Num}
use Rattle.fpl_numbers.specs.declared.number.Kind.{Kind}
use Rattle.fpl_numbers.specs.Numbers.{IsField, residue, inverse_of}
use Rattle.fpl_numbers.specs.Reads.{Reads}
use Rattle.fpl_numbers.specs.Kinds.{field_of, number_of}
use Rattle.fpl_numbers.proofs.KindReads.{kind_reads}
use Rattle.math_linear.specs.Lists.{vector_of}
use Rattle.fpl_log.specs.declared.step.Origin.{Origin}
use Rattle.fpl_log.specs.declared.step.Step.TheVariants.{Insert, Close}
use Rattle.fpl_scalar.specs.Vectors.{AreElements, scale_of}
use Rattle.fpl_rows.specs.Positions.{lead_of}
use Rattle.plain_elimination.specs.Plain.{PivotRow, IsPivotRow, stands_at, Swept, Held, Inserted, keep_of, insert_of, sweep_of, close_by, close_to, close_of}
use Rattle.plain_elimination.specs.Steps.{IsConcluded, InsertConcludes, CloseConcludes}
use Rattle.fpl_log.specs.Conclusion.{cited, less, concluded}
use Rattle.fpl_log.proofs.Unfoldings.{less_is}
use Rattle.fpl_rows.proofs.Fits.{all_found, first_fits, part_fits, ok_same}
use Rattle.fpl_rows.proofs.Leads.{lead_is}
use Rattle.fpl_rows.proofs.Readings.{scale_reads}
use Rattle.plain_elimination.proofs.Sweeping.{sweep_reads}
use Rattle.plain_elimination.proofs.Spans.{Stands, standing, close_reads}
use Rattle.plain_elimination.proofs.Concluded.{concluded_more, concluded_on}

module _ (kind : Kind) (K : Field) (value : Num → K.Carrier) (reads : Reads kind K value) (listed : IsField kind) (n : ℕ) (source : Origin → Vector K) where
  pub insert_concludes : (h : Held) (row : List Num) (origin : Origin) (r : Inserted) → Stands kind K value n h.pivots → AreElements kind row →
      length row ≡ n → source origin ≡ vector_of K value row →
      insert_of (record { kind = kind; size = n; held = h }) row origin ≡ Ok r → IsConcluded K value source h.pivots h.steps →
      IsConcluded K value source r.held.pivots r.held.steps
  insert_concludes h row origin r stands a len is e c =
      let f = first_fits _ (sweep_of kind h.pivots n (record { row = row; terms = [] })) r e in
      let q = sweep_reads kind K value reads h.pivots n n (cited K value (concluded K value source [] h.steps))
      (record { row = row; terms = [] }) f.0 stands.rows (omega arith) a len f.1.0 in
      let g = part_fits _ (keep_of kind h origin f.0 (lead_of f.0.row)) r f.1.1 in
      subst (λ r. IsConcluded K value source r.held.pivots r.held.steps) (sym g.1.1)
      (go f.0 g.0 q.left.elements (less_is K value source (concluded K value source [] h.steps) (vector_of K value row)
      (vector_of K value f.0.row) f.0.terms (q.conserved c.row)) (lead_of f.0.row) refl g.1.0)
    where
      go : (x : Swept) (g : Held) → AreElements kind x.row → less K value (concluded K value source [] h.steps) (vector_of K value row) x.terms ≡
          vector_of K value x.row → (o : Option ℕ) → lead_of x.row ≡ o →
          keep_of kind h origin x o ≡ Ok g → IsConcluded K value source g.pivots g.steps
      go x g b d None l k = subst (λ g. IsConcluded K value source g.pivots g.steps) (ok_same k)
          (concluded_on K value source h.pivots h.steps (Insert origin x.terms (residue 0)) c)
      go x g b d (Some s) l k =
          let f = part_fits _ (scale_of kind (inverse_of kind (get_or x.row (s - 1) (residue 0))) x.row) g k in
          let t = lead_is x.row (length x.row) s l in
          let i = reads.inverse (get_or x.row (s - 1) (residue 0)) (b (s - 1) (residue 0) (let u = t.from_one in let v = t.to_end in omega arith)) t.leads in
          let w = scale_reads kind K value reads x.row f.0 (inverse_of kind (get_or x.row (s - 1) (residue 0))) b i.0 f.1.0 in
          subst (λ g. IsConcluded K value source g.pivots g.steps) (sym f.1.1)
          (concluded_more K value source h.pivots h.steps (Insert origin x.terms (inverse_of kind (get_or x.row (s - 1) (residue 0))))
          (record { lead = s; step = length h.steps + 1; row = f.0 }) c refl
          (ap (scale K (value (inverse_of kind (get_or x.row (s - 1) (residue 0)))))
          (ap (λ v. less K value (concluded K value source [] h.steps) v x.terms) is ∙ d) ∙ sym w.vector))

  -- in closing, the pivot rows and the closed rows are both conclusions
  pub record BothConcluded (pivots : List PivotRow) (g : Held) : Type 0 where
    pub open_rows : IsConcluded K value source pivots g.steps
    pub closed_rows : IsConcluded K value source g.pivots g.steps

  step_concludes : (pivots : List PivotRow) (s : ℕ) (f g : Held) → Stands kind K value n pivots → s < n → All (IsPivotRow kind n) f.pivots →
      BothConcluded pivots f → (o : Option PivotRow) → find (stands_at (s + 1)) pivots ≡ o →
      close_by kind o s f ≡ Ok g → BothConcluded pivots g
  step_concludes pivots s f g h l rows c None is e = subst (BothConcluded pivots) (ok_same e) c
  step_concludes pivots s f g h l rows c (Some p) is e =
      let r = part_fits _ (sweep_of kind f.pivots s (record { row = p.row; terms = [] })) g e in
      let here = all_found (IsPivotRow kind n) (stands_at (s + 1)) pivots p h.rows (sym is) in
      let q = sweep_reads kind K value reads f.pivots n s (cited K value (concluded K value source [] f.steps))
      (record { row = p.row; terms = [] }) r.0 rows (omega arith) here.elements here.length_is r.1.0 in
      let of = all_found (λ p. cited K value (concluded K value source [] f.steps) p.step ≡ vector_of K value p.row)
      (stands_at (s + 1)) pivots p c.open_rows.row (sym is) in
      subst (BothConcluded pivots) (sym r.1.1)
      (record {
        open_rows = concluded_on K value source pivots f.steps (Close p.step r.0.terms) c.open_rows;
        closed_rows = concluded_more K value source f.pivots f.steps (Close p.step r.0.terms)
            (record { lead = s + 1; step = length f.steps + 1; row = r.0.row }) c.closed_rows refl
            (ap (λ v. less K value (concluded K value source [] f.steps) v r.0.terms) of ∙ less_is K value source
            (concluded K value source [] f.steps) (vector_of K value p.row) (vector_of K value r.0.row) r.0.terms (q.conserved c.closed_rows.row));
      })

  pub close_concludes : (pivots : List PivotRow) (m : ℕ) (h g : Held) → Stands kind K value n pivots → m ≤ n → h.pivots ≡ [] →
      IsConcluded K value source pivots h.steps → close_to kind pivots m h ≡ Ok g → BothConcluded pivots g
  close_concludes pivots zero h g stands l none c e =
      subst (BothConcluded pivots) (ok_same e)
      (record {
        open_rows = c;
        closed_rows = subst (λ ps. IsConcluded K value source ps h.steps) (sym none)
            (record { from_one = λ i d m. absurd (omega arith); to_end = λ i d m. absurd (omega arith); row = λ i d m. absurd (omega arith) });
      })
  close_concludes pivots (suc s) h g stands l none c e =
      let f = first_fits _ (close_to kind pivots s h) g e in
      step_concludes pivots s f.0 g stands (omega arith) (close_reads kind K value reads listed n pivots s h f.0 stands (omega arith) none f.1.0).rows
      (close_concludes pivots s h f.0 stands (omega arith) none c f.1.0) (find (stands_at (s + 1)) pivots) refl f.1.1

pub insert_is_concluded : (k : Kind) → InsertConcludes k
insert_is_concluded k listed source e row origin r is all len a from fits c =
    insert_concludes k (field_of k) (number_of k) (kind_reads k listed) listed e.size source e.held row origin r
    (standing k (field_of k) (number_of k) (kind_reads k listed) listed e.size e.held.pivots all) a len from
    (ap (λ w. insert_of (record { kind = w; size = e.size; held = e.held }) row origin) (sym is) ∙ fits) c

pub close_is_concluded : (k : Kind) → CloseConcludes k
close_is_concluded k listed source e g is all fits c =
    (close_concludes k (field_of k) (number_of k) (kind_reads k listed) listed e.size source e.held.pivots e.size
    (record { pivots = []; steps = e.held.steps }) g
    (standing k (field_of k) (number_of k) (kind_reads k listed) listed e.size e.held.pivots all) (omega arith) refl c
    (ap (λ w. close_of (record { kind = w; size = e.size; held = e.held })) (sym is) ∙ fits)).closed_rows
