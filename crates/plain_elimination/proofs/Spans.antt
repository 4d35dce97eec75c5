-- Putting a row in spans what the rows before and the row span; closing keeps the span and gives its reduced echelon.
use Rattle.std.specs.Prelude.{◌≡◌, ◌≢◌, ℕ, zero, suc, ◌+◌, ◌-◌, ◌<◌, ◌≤◌, ◌↔◌, ◌⊎◌, List, [], ◌∷◌, ◌++◌, length, get_or, Option, Some, None, option_map, Ok, false, All, nat_eq}
use Rattle.std.specs.Option.{option_or}
use Rattle.std.specs.List.{find}
use Rattle.std.proofs.lemmas.List.Folds.{find-append}
use mathlib.Core.Logic.{inl, inr}
use mathlib.Core.Path.{sym, refl, ap, ap₂, ◌∙◌, fun_ext, subst}
use native.Mathlib.Omega.{arith}
use native.Mathlib.Decide.{ℕ_discrete}
use Rattle.math_fields.specs.Field.{Field}
use Rattle.math_linear.specs.Vector.{Vector, vzero, scale}
use Rattle.math_linear.specs.Span.{Spanned}
use Rattle.math_linear.specs.Lists.{vector_of}
use Rattle.math_linear.specs.Echelon.{Pivots, IsRow, HasLead, IsEchelon, IsReduced, reduce, put, empty, close_at, close}
use Rattle.math_linear.proofs.Numbers.{times-nought}
use Rattle.math_linear.proofs.Span.{spanned_one, spanned_through}
use Rattle.math_linear.proofs.Echelon.{reduce_keeps, reduce_spanned, spanned_reduce}
use Rattle.math_linear.proofs.Reduced.{put_same, put_other, kept_leads, kept_place, kept_whole, kept_within, close_reduced, close_spans, reduced_same}
use Rattle.fpl_numbers.specs.declared.number.Num.{Num}
use Rattle.fpl_numbers.specs.declared.number.Kind.{Kind}
use Rattle.fpl_numbers.specs.Numbers.{IsElement, IsField, residue, inverse_of}
use Rattle.fpl_numbers.specs.Reads.{Reads}
use Rattle.fpl_log.specs.declared.step.Origin.{Origin}
use Rattle.fpl_scalar.specs.Vectors.{AreElements, scale_of}
use Rattle.fpl_rows.specs.Positions.{lead_of}
use Rattle.plain_elimination.specs.Plain.{PivotRow, IsPivotRow, stands_at, Swept, Held, Inserted, keep_of, insert_of, sweep_of, close_by, close_to, close_of}
use Rattle.plain_elimination.specs.Spans.{table_of, InSpanAt, IsInserted}
use Rattle.fpl_rows.proofs.Fits.{ok_same, none_some, first_fits, part_fits, all_found, all_more}
use Rattle.fpl_rows.proofs.Leads.{LeadIs, lead_is}
use Rattle.fpl_rows.proofs.Readings.{IsFor, scale_reads, at_place, all_nought, nought_past}
use Rattle.plain_elimination.proofs.PivotRows.{found_lead, pivot_leads, pivot_row, pivots_echelon}
use Rattle.plain_elimination.proofs.Sweeping.{sweep_reads}

map-or : {T U : Type 0} (f : T → U) (o r : Option T) → option_map f o ≡ None → option_map f (option_or o r) ≡ option_map f r
map-or f None r e = refl
map-or f (Some x) r e = absurd (none_some (sym e))

or-none : {T : Type 0} (o r : Option T) → r ≡ None → option_or o r ≡ o
or-none None r e = e
or-none (Some x) r e = refl

module _ (K : Field) (value : Num → K.Carrier) where
  -- the table with one row more
  pub table-more : (xs : List PivotRow) (p : PivotRow) (s : ℕ) → p.lead ≡ s + 1 → table_of K value xs s ≡ None →
      table_of K value (xs ++ p ∷ []) ≡ put K (table_of K value xs) s (vector_of K value p.row)
  table-more xs p s is none = fun_ext (λ t. go t (ℕ_discrete s t))
    where
      one : (t : ℕ) → s ≡ t → find (stands_at (t + 1)) (p ∷ []) ≡ Some p
      one t e = (let k : p.lead ≡ t + 1 = omega arith in rw k (grind arith))

      other : (t : ℕ) → s ≢ t → find (stands_at (t + 1)) (p ∷ []) ≡ None
      other t d = (let k : nat_eq p.lead (t + 1) ≡ false = grind arith in rw k refl)

      go : (t : ℕ) → Dec (s ≡ t) → table_of K value (xs ++ p ∷ []) t ≡ put K (table_of K value xs) s (vector_of K value p.row) t
      go t (yes e) =
          ap (option_map (λ p. vector_of K value p.row)) (find-append (stands_at (t + 1)) xs (p ∷ []))
          ∙ map-or (λ p. vector_of K value p.row) (find (stands_at (t + 1)) xs) (find (stands_at (t + 1)) (p ∷ []))
          (subst (λ w. table_of K value xs w ≡ None) e none)
          ∙ ap (option_map (λ p. vector_of K value p.row)) (one t e)
          ∙ sym (subst (λ w. put K (table_of K value xs) s (vector_of K value p.row) w ≡ Some (vector_of K value p.row)) e
          (put_same K (table_of K value xs) s (vector_of K value p.row)))
      go t (no d) =
          ap (option_map (λ p. vector_of K value p.row)) (find-append (stands_at (t + 1)) xs (p ∷ []) ∙
          or-none (find (stands_at (t + 1)) xs) (find (stands_at (t + 1)) (p ∷ [])) (other t d))
          ∙ sym (put_other K (table_of K value xs) s t (vector_of K value p.row) d)

-- pivot rows, which are an echelon
pub record Stands (kind : Kind) (K : Field) (value : Num → K.Carrier) (n : ℕ) (pivots : List PivotRow) : Type 0 where
  pub rows : All (IsPivotRow kind n) pivots
  pub echelon : IsEchelon K n (table_of K value pivots)

module _ (kind : Kind) (K : Field) (value : Num → K.Carrier) (reads : Reads kind K value) (listed : IsField kind) (n : ℕ) where
  pub standing : (pivots : List PivotRow) → All (IsPivotRow kind n) pivots → Stands kind K value n pivots
  standing pivots all = record { rows = all; echelon = pivots_echelon kind K value reads listed n pivots all }

  zero_at : (s : ℕ) → vzero K s ≡ K.nought
  zero_at s = unfold vzero in refl

  -- a row was put in: the rows are pivot rows again, and span what they should
  pub record IsPut (before after : List PivotRow) (lead : Option ℕ) (v : Vector K) : Type 0 where
    pub pivots : All (IsPivotRow kind n) after
    pub inserted : IsInserted K value before after lead v

  inserted_none : (pivots : List PivotRow) (v : Vector K) → Stands kind K value n pivots → reduce K (table_of K value pivots) n v ≡ vzero K →
      IsPut pivots pivots None v
  inserted_none pivots v h e = record {
    pivots = h.rows;
    inserted = record {
      whole = λ y. spanned_through K _ (IsRow K (table_of K value pivots))
          (λ x k. elim k [ inl f ↦ spanned_one K _ x f | inr f ↦ subst (InSpanAt K value pivots) (sym f) in_it ]) y;
      within = λ y. spanned_through K _ (λ x. IsRow K (table_of K value pivots) x ⊎ (x ≡ v)) (λ x k. spanned_one K _ x (inl k)) y;
      dependent = ((λ k. in_it), (λ k. refl));
    };
  }
    where
      in_it : InSpanAt K value pivots v
      in_it = spanned_reduce K n (table_of K value pivots) h.echelon v e

  inserted_some : (pivots : List PivotRow) (v : Vector K) (left row : List Num) (s step : ℕ) → Stands kind K value n pivots →
      IsFor kind K value reads n (reduce K (table_of K value pivots) n v) left → lead_of left ≡ Some s →
      scale_of kind (inverse_of kind (get_or left (s - 1) (residue 0))) left ≡ Ok row →
      IsPut pivots (pivots ++ (record { lead = s; step = step; row = row }) ∷ []) (Some s) v
  inserted_some pivots v left row s step h f e fits = record {
    pivots = all_more (IsPivotRow kind n) pivots p h.rows new_row;
    inserted = record {
      whole = λ y w. subst (λ a. Spanned K (IsRow K a) y) (sym more) (kept_whole K n at h.echelon v t c one past y w);
      within = λ y w. kept_within K n at h.echelon v t c one past y (subst (λ a. Spanned K (IsRow K a) y) more w);
      dependent = ((λ w. absurd (none_some (sym w))), (λ w. absurd (not_in w)));
    };
  }
    where
      at : Pivots K
      at = table_of K value pivots

      p : PivotRow
      p = record { lead = s; step = step; row = row }

      k : LeadIs left (length left) s
      k = lead_is left (length left) s e

      t : ℕ
      t = s - 1

      t_below : t < n
      t_below = (let a = k.from_one in let b = k.to_end in let m = f.length_is in omega arith)

      a : Num
      a = get_or left t (residue 0)

      a_in : IsElement kind a
      a_in = f.elements t (residue 0) (let m = f.length_is in omega (arith, t_below))

      c : K.Carrier
      c = value (inverse_of kind a)

      scaled : IsFor kind K value reads (length left) (scale K c (vector_of K value left)) row
      scaled = scale_reads kind K value reads left row (inverse_of kind a) f.elements (reads.inverse a a_in k.leads).0 fits

      one : K.times c (reduce K at n v t) ≡ K.unit
      one = ap (K.times c) (ap (λ w. w t) (sym f.vector) ∙ at_place kind K value reads left t (residue 0)
          (let m = f.length_is in omega (arith, t_below))) ∙ (reads.inverse a a_in k.leads).1

      past : (i : ℕ) → t < i → reduce K at n v i ≡ K.nought
      past i l = ap (λ w. w i) (sym f.vector) ∙ nought_past kind K value reads left s f.elements k i (let b = k.from_one in omega arith)

      more : table_of K value (pivots ++ p ∷ []) ≡ put K at t (scale K c (reduce K at n v))
      more =
          table-more K value pivots p t (let b = k.from_one in omega arith) (kept_place K n at h.echelon v t c one past)
          ∙ ap (put K at t) (scaled.vector ∙ ap (scale K c) f.vector)

      leads : HasLead K t (vector_of K value row)
      leads = subst (HasLead K t) (sym (scaled.vector ∙ ap (scale K c) f.vector)) (kept_leads K n at h.echelon v t c one past)

      new_row : IsPivotRow kind n p
      new_row = pivot_row kind K value reads listed n p scaled.elements (scaled.length_is ∙ f.length_is) k.from_one
          (let l = k.to_end in let m = f.length_is in omega arith) leads

      not_in : InSpanAt K value pivots v → ⊥
      not_in w = K.unit≢nought (sym one ∙ ap (K.times c) (ap (λ x. x t) (reduce_spanned K n at h.echelon v w) ∙ zero_at t) ∙ times-nought K c)

  -- a row is put in
  pub insert_reads : (h : Held) (row : List Num) (origin : Origin) (r : Inserted) → Stands kind K value n h.pivots → AreElements kind row → length row ≡ n →
      insert_of (record { kind = kind; size = n; held = h }) row origin ≡ Ok r → IsPut h.pivots r.held.pivots r.lead (vector_of K value row)
  insert_reads h row origin r stands a len e =
      let f = first_fits _ (sweep_of kind h.pivots n (record { row = row; terms = [] })) r e in
      let q = sweep_reads kind K value reads h.pivots n n (λ i. vzero K) (record { row = row; terms = [] }) f.0 stands.rows (omega arith) a len f.1.0 in
      let g = part_fits _ (keep_of kind h origin f.0 (lead_of f.0.row)) r f.1.1 in
      subst (λ r. IsPut h.pivots r.held.pivots r.lead (vector_of K value row)) (sym g.1.1) (go f.0 g.0 q.left (lead_of f.0.row) refl g.1.0)
    where
      go : (x : Swept) (g : Held) → IsFor kind K value reads n (reduce K (table_of K value h.pivots) n (vector_of K value row)) x.row →
          (o : Option ℕ) → lead_of x.row ≡ o → keep_of kind h origin x o ≡ Ok g →
          IsPut h.pivots g.pivots o (vector_of K value row)
      go x g q None l k =
          subst (λ g. IsPut h.pivots g.pivots None (vector_of K value row)) (ok_same k)
          (inserted_none h.pivots (vector_of K value row) stands (sym q.vector ∙ all_nought kind K value reads x.row q.elements l))
      go x g q (Some s) l k =
          let f = part_fits _ (scale_of kind (inverse_of kind (get_or x.row (s - 1) (residue 0))) x.row) g k in
          subst (λ g. IsPut h.pivots g.pivots (Some s) (vector_of K value row)) (sym f.1.1)
          (inserted_some h.pivots (vector_of K value row) x.row f.0 s (length h.steps + 1) stands q l f.1.0)

  -- the span of the rows put in grows by the row
  abbrev pub Spans : List PivotRow → (Vector K → Type 0) → Type 0
  Spans pivots S = (y : Vector K) → Spanned K S y ↔ InSpanAt K value pivots y

  pub spans_more : (before after : List PivotRow) (lead : Option ℕ) (v : Vector K) (S : Vector K → Type 0) → Spans before S →
      IsInserted K value before after lead v → Spans after (λ x. S x ⊎ (x ≡ v))
  spans_more before after lead v S h i y = (
    (λ k. i.whole y (spanned_through K _ (λ x. IsRow K (table_of K value before) x ⊎ (x ≡ v)) (λ x m. elim m [
      | inl f ↦ spanned_through K _ (λ x. IsRow K (table_of K value before) x ⊎ (x ≡ v)) (λ z f. spanned_one K _ z (inl f)) x ((h x).0 (spanned_one K _ x f))
      | inr f ↦ spanned_one K _ x (inr f)
    ]) y k)),
    (λ k. spanned_through K _ (λ x. S x ⊎ (x ≡ v)) (λ x m. elim m [
      | inl f ↦ spanned_through K _ (λ x. S x ⊎ (x ≡ v)) (λ z f. spanned_one K _ z (inl f)) x ((h x).1 (spanned_one K _ x f))
      | inr f ↦ spanned_one K _ x (inr f)
    ]) y (i.within y k)),
  )

  -- closing at the places below m
  pub record IsClosing (pivots : List PivotRow) (m : ℕ) (g : Held) : Type 0 where
    pub rows : All (IsPivotRow kind n) g.pivots
    pub table : table_of K value g.pivots ≡ close K (table_of K value pivots) m

  none_from : (m s : ℕ) (closed : Pivots K) → IsEchelon K m closed → m ≤ s → closed s ≡ None
  none_from m s closed h l = go (closed s) refl
    where
      go : (o : Option (Vector K)) → closed s ≡ o → o ≡ None
      go None e = refl
      go (Some u) e = let k = h.below s u e in absurd (omega arith)

  -- rows below a place leave what stands from there on
  lead_stays : (s : ℕ) (closed : Pivots K) (u : Vector K) → IsEchelon K s closed → HasLead K s u → HasLead K s (reduce K closed s u)
  lead_stays s closed u h k = record {
    leads = reduce_keeps K s closed h.has_lead s s u (omega arith) ∙ k.leads;
    above = λ t l. reduce_keeps K s closed h.has_lead s t u (omega arith) ∙ k.above t l;
  }

  close_step : (pivots : List PivotRow) (s : ℕ) (f g : Held) → Stands kind K value n pivots → s < n → IsClosing pivots s f → (o : Option PivotRow) →
      find (stands_at (s + 1)) pivots ≡ o → close_by kind o s f ≡ Ok g → IsClosing pivots (suc s) g
  unfolding close close_at
  close_step pivots s f g h l c None is e =
      subst (IsClosing pivots (suc s)) (ok_same e)
      (record {
        rows = c.rows;
        table = c.table ∙ sym (ap (λ o. close_at K (close K (table_of K value pivots) s) (option_map (λ p. vector_of K value p.row) o) s) is);
      })
  close_step pivots s f g h l c (Some p) is e =
      let r = part_fits _ (sweep_of kind f.pivots s (record { row = p.row; terms = [] })) g e in
      let here = all_found (IsPivotRow kind n) (stands_at (s + 1)) pivots p h.rows (sym is) in
      let q = sweep_reads kind K value reads f.pivots n s (λ i. vzero K) (record { row = p.row; terms = [] }) r.0 c.rows
      (omega arith) here.elements here.length_is r.1.0 in
      let echelon : IsEchelon K s (table_of K value f.pivots) = subst (IsEchelon K s) (sym c.table)
      (close_reduced K n (table_of K value pivots) h.echelon s).echelon in
      let lead : HasLead K s (vector_of K value p.row) = subst (λ w. HasLead K w (vector_of K value p.row))
      (let a = found_lead (s + 1) pivots p (sym is) in let b : p.lead - 1 ≡ s = omega arith in b) (pivot_leads kind K value reads listed n p here) in
      let new_lead : HasLead K (s + 1 - 1) (vector_of K value r.0.row) =
      subst (λ w. HasLead K w (vector_of K value r.0.row)) (let b : s ≡ s + 1 - 1 = omega arith in b)
      (subst (HasLead K s) (sym q.left.vector) (lead_stays s (table_of K value f.pivots) (vector_of K value p.row) echelon lead)) in
      subst (IsClosing pivots (suc s)) (sym r.1.1)
      (record {
        rows = all_more (IsPivotRow kind n) f.pivots _ c.rows (pivot_row kind K value reads listed n
            (record { lead = s + 1; step = length f.steps + 1; row = r.0.row }) q.left.elements q.left.length_is (omega arith) (omega arith) new_lead);
        table =
            table-more K value f.pivots (record { lead = s + 1; step = length f.steps + 1; row = r.0.row }) s refl
            (ap (λ t. t s) c.table ∙ none_from s s (close K (table_of K value pivots) s) (close_reduced K n
            (table_of K value pivots) h.echelon s).echelon (omega arith))
            ∙ ap₂ (λ t u. put K t s u) c.table (q.left.vector ∙ ap (λ t. reduce K t s (vector_of K value p.row)) c.table)
            ∙ sym (ap (λ o. close_at K (close K (table_of K value pivots) s) (option_map (λ p. vector_of K value p.row) o) s) is);
      })

  pub close_reads : (pivots : List PivotRow) (m : ℕ) (h g : Held) → Stands kind K value n pivots → m ≤ n → h.pivots ≡ [] →
      close_to kind pivots m h ≡ Ok g → IsClosing pivots m g
  unfolding close empty
  close_reads pivots zero h g stands l none e =
      subst (IsClosing pivots zero) (ok_same e)
      (record {
        rows = subst (All (IsPivotRow kind n)) (sym none) (λ i d m. absurd (omega arith));
        table =
            fun_ext (λ s. ap (λ ps. table_of K value ps s) none);
      })
  close_reads pivots (suc s) h g stands l none e =
      let f = first_fits _ (close_to kind pivots s h) g e in
      close_step pivots s f.0 g stands (omega arith) (close_reads pivots s h f.0 stands (omega arith) none f.1.0) (find (stands_at (s + 1)) pivots) refl f.1.1

  -- closed pivot rows are the reduced echelon of the span
  pub record IsClosedForm (pivots closed : List PivotRow) : Type 0 where
    pub rows : All (IsPivotRow kind n) closed
    pub reduced : IsReduced K n (table_of K value closed)
    pub span : (v : Vector K) → InSpanAt K value closed v ↔ InSpanAt K value pivots v

  pub close_form : (h g : Held) → Stands kind K value n h.pivots → close_of (record { kind = kind; size = n; held = h }) ≡ Ok g → IsClosedForm h.pivots g.pivots
  close_form h g stands e =
      let c = close_reads h.pivots n (record { pivots = []; steps = h.steps }) g stands (omega arith) refl e in
      record {
        rows = c.rows;
        reduced = subst (IsReduced K n) (sym c.table) (close_reduced K n (table_of K value h.pivots) stands.echelon n);
        span = λ v. subst (λ t. Spanned K (IsRow K t) v ↔ InSpanAt K value h.pivots v) (sym c.table)
            (close_spans K n (table_of K value h.pivots) stands.echelon v);
      }

  -- two closed forms of one span have one table
  pub closed_same : (closed closed' : List PivotRow) → IsReduced K n (table_of K value closed) → IsReduced K n (table_of K value closed') →
      ((v : Vector K) → InSpanAt K value closed v ↔ InSpanAt K value closed' v) → (s : ℕ) → table_of K value closed s ≡ table_of K value closed' s
  closed_same closed closed' r r' same =
      reduced_same K n (table_of K value closed) (table_of K value closed') r r' (λ u h. (same u).0 (spanned_one K _ u h))
      (λ u h. (same u).1 (spanned_one K _ u h))
