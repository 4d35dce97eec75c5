-- Closed rows taken off one after another leave what the row is less each of them as often as it has its pivot.
use Rattle.std.specs.Prelude.{◌≡◌, ℕ, zero, suc, ◌-◌, ◌<◌, ◌↔◌, List, [], ◌∷◌, length, get_or, Option, Some, None, Ok, true, false, Bool, unwrap_or, if◌then◌else◌}
use mathlib.Core.Path.{sym, refl, ap, ap₂, ◌∙◌, subst}
use native.Mathlib.Omega.{arith}
use Rattle.math_fields.specs.Field.{Field}
use Rattle.math_linear.specs.Vector.{Vector, vzero, vplus, scale, total}
use Rattle.math_linear.specs.Lists.{vector_of}
use Rattle.math_linear.specs.Span.{combination}
use Rattle.math_linear.specs.Closed.{IsClosed, swept}
use Rattle.math_linear.proofs.Numbers.{times-nought, minus-times, unit-times}
use Rattle.math_linear.proofs.Vectors.{vplus_assoc, vplus_comm, vplus-vzero, vzero-vplus, scale-vplus, scale_scale, scale-nought, scale-vzero}
use Rattle.math_linear.proofs.Closed.{swept_iff}
use Rattle.fpl_numbers.specs.declared.number.Num.{Num}
use Rattle.fpl_numbers.specs.declared.number.Kind.{Kind}
use Rattle.fpl_numbers.specs.Numbers.{IsElement, IsField, is_nought, residue, negative_of}
use Rattle.fpl_numbers.specs.Reads.{Reads}
use Rattle.fpl_numbers.specs.Kinds.{field_of, number_of}
use Rattle.fpl_numbers.proofs.KindReads.{kind_reads}
use Rattle.fpl_scalar.specs.Vectors.{AreElements, axpy_of}
use Rattle.fpl_rows.specs.Positions.{lead_of}
use Rattle.fpl_rows.specs.Meaning.{IsRowOf, AreRows, IsClosedList, pivot_of}
use Rattle.fpl_rows.proofs.Fits.{ok_same, first_fits, all_tail}
use Rattle.fpl_rows.proofs.Leads.{LeadIs, lead_is}
use Rattle.fpl_rows.proofs.Readings.{IsFor, axpy_reads, at_place, all_nought}
use Rattle.plain_elimination.specs.Plain.{take_at, sweep_rows}
use Rattle.plain_elimination.specs.Spans.{SweepsTo}

module _ (K : Field) where
  total_first : (n : ℕ) (f : ℕ → Vector K) → total K (suc n) f ≡ vplus K (f 0) (total K n (λ i. f (suc i)))
  unfolding total
  total_first zero f = vplus_comm K (vzero K) (f 0)
  total_first (suc n) f = ap (λ w. vplus K w (f (suc n))) (total_first n f) ∙ vplus_assoc K (f 0) _ (f (suc n))

  sum_at : (c : K.Carrier) (x y : Vector K) (s : ℕ) → x s ≡ K.nought → y s ≡ K.nought → vplus K (scale K c x) y s ≡ K.nought
  unfolding vplus scale
  sum_at c x y s e f = ap₂ K.plus (ap (K.times c) e ∙ times-nought K c) f ∙ K.plus-nought K.nought

  less_same : (v t : Vector K) (s : ℕ) → t s ≡ K.nought → vplus K v (scale K (K.minus K.unit) t) s ≡ v s
  unfolding vplus scale
  less_same v t s e = ap (K.plus (v s)) (ap (K.times (K.minus K.unit)) e ∙ times-nought K _) ∙ K.plus-nought (v s)

  zero_at : (s : ℕ) → vzero K s ≡ K.nought
  unfolding vzero
  zero_at s = refl

  minus_twice : (a : K.Carrier) (u : Vector K) → scale K (K.minus a) u ≡ scale K (K.minus K.unit) (scale K a u)
  minus_twice a u = sym (scale_scale K (K.minus K.unit) a u ∙ ap (λ w. scale K w u) (minus-times K K.unit a ∙ ap K.minus (unit-times K a)))

  one_more : (v t u : Vector K) (a : K.Carrier) → vplus K (vplus K v (scale K (K.minus K.unit) t)) (scale K (K.minus a) u) ≡
      vplus K v (scale K (K.minus K.unit) (vplus K (scale K a u) t))
  one_more v t u a =
      vplus_assoc K v _ _
      ∙ ap (vplus K v) (vplus_comm K _ _ ∙ ap (λ w. vplus K w (scale K (K.minus K.unit) t)) (minus_twice a u) ∙ sym (scale-vplus K _ _ _))

  none_more : (v t u : Vector K) (a : K.Carrier) → a ≡ K.nought → vplus K v (scale K (K.minus K.unit) t) ≡
      vplus K v (scale K (K.minus K.unit) (vplus K (scale K a u) t))
  none_more v t u a e = ap (λ w. vplus K v (scale K (K.minus K.unit) w))
      (sym (ap (λ w. vplus K w t) (ap (λ w. scale K w u) e ∙ scale-nought K u) ∙ vzero-vplus K t))

module _ (kind : Kind) (K : Field) (value : Num → K.Carrier) (reads : Reads kind K value) where
  -- what is taken off in all
  taken : List (List Num) → Vector K → Vector K
  taken [] v = vzero K
  taken (u ∷ us) v = vplus K (scale K (v (pivot_of u)) (vector_of K value u)) (taken us v)

  taken_at : (us : List (List Num)) (v : Vector K) (s : ℕ) → ((i : ℕ) → i < length us → vector_of K value (get_or us i []) s ≡ K.nought) →
      taken us v s ≡ K.nought
  unfolding taken
  taken_at [] v s h = zero_at K s
  taken_at (u ∷ us) v s h = sum_at K _ (vector_of K value u) (taken us v) s (h 0 (omega arith)) (taken_at us v s (λ i l. h (suc i) (omega arith)))

  taken_is : (us : List (List Num)) (v : Vector K) → taken us v ≡ combination K (length us) (λ i. vector_of K value (get_or us i []))
      (λ i. v (pivot_of (get_or us i [])))
  unfolding taken total
  taken_is [] v = refl
  taken_is (u ∷ us) v = ap (vplus K (scale K (v (pivot_of u)) (vector_of K value u))) (taken_is us v) ∙
      sym (total_first K (length us) (λ i. scale K (v (pivot_of (get_or (u ∷ us) i []))) (vector_of K value (get_or (u ∷ us) i []))))

  abbrev Closes : List (List Num) → Type 0
  Closes us = IsClosed K (length us) (λ i. vector_of K value (get_or us i [])) (λ i. pivot_of (get_or us i []))

  closes_tail : (u : List Num) (us : List (List Num)) → Closes (u ∷ us) → Closes us
  closes_tail u us c = record {
    leads = λ i l. c.leads (suc i) (omega arith);
    above = λ i s l m. c.above (suc i) s (omega arith) m;
    ascend = λ i j l m. c.ascend (suc i) (suc j) (omega arith) (omega arith);
    apart = λ i j l m d. c.apart (suc i) (suc j) (omega arith) (omega arith) (λ e. d (omega arith));
  }

  -- a row with 1 somewhere has a lead
  lead_some : (u : List Num) → AreElements kind u → vector_of K value u (pivot_of u) ≡ K.unit → (s : ℕ) × (lead_of u ≡ Some s)
  lead_some u a one = go (lead_of u) refl
    where
      go : (o : Option ℕ) → lead_of u ≡ o → (s : ℕ) × (lead_of u ≡ Some s)
      go None e = absurd (K.unit≢nought (sym one ∙ ap (λ w. w (pivot_of u)) (all_nought kind K value reads u a e) ∙ zero_at K (pivot_of u)))
      go (Some s) e = (s, e)

  take_reads : (n : ℕ) (u w z : List Num) (s : ℕ) (v t : Vector K) → IsRowOf kind n u → lead_of u ≡ Some s →
      IsFor kind K value reads n (vplus K v (scale K (K.minus K.unit) t)) w → t (s - 1) ≡ K.nought →
      take_at kind u (Some s) w ≡ Ok z → IsFor kind K value reads n
      (vplus K v (scale K (K.minus K.unit) (vplus K (scale K (v (s - 1)) (vector_of K value u)) t))) z
  take_reads n u w z s v t is lead f none e = go (is_nought c) refl e
    where
      k : LeadIs u (length u) s
      k = lead_is u (length u) s lead

      c : Num
      c = get_or w (s - 1) (residue 0)

      c_below : s - 1 < length w
      c_below = (let a = k.from_one in let b = k.to_end in let d = is.length_is in let g = f.length_is in omega arith)

      c_in : IsElement kind c
      c_in = f.elements (s - 1) (residue 0) c_below

      c_is : v (s - 1) ≡ value c
      c_is = sym (less_same K v t (s - 1) none) ∙ ap (λ x. x (s - 1)) (sym f.vector) ∙ at_place kind K value reads w (s - 1) (residue 0) c_below

      go : (b : Bool) → is_nought c ≡ b → (if b then Ok w else axpy_of kind w (negative_of kind c) u) ≡ Ok z →
          IsFor kind K value reads n (vplus K v (scale K (K.minus K.unit) (vplus K (scale K (v (s - 1)) (vector_of K value u)) t))) z
      go true y g =
          subst (IsFor kind K value reads n _) (ok_same g)
          (record {
            elements = f.elements;
            length_is = f.length_is;
            vector = f.vector ∙ none_more K v t (vector_of K value u) (v (s - 1))
                (c_is ∙ reads.zero_is c c_in y);
          })
      go false y g =
          let r = axpy_reads kind K value reads w u z (negative_of kind c) f.elements (reads.negative c c_in).0 is.elements
          (f.length_is ∙ sym is.length_is) g in
          record {
            elements = r.elements;
            length_is = r.length_is ∙ f.length_is;
            vector = r.vector ∙ ap₂ (λ x a. vplus K x (scale K a (vector_of K value u))) f.vector ((reads.negative c c_in).1 ∙ ap K.minus (sym c_is))
                ∙ one_more K v t (vector_of K value u) (v (s - 1));
          }

  rows_swept : (n : ℕ) (us : List (List Num)) (v w : List Num) → AreRows kind n us → Closes us → AreElements kind v → length v ≡ n →
      sweep_rows kind us v ≡ Ok w →
      IsFor kind K value reads n (vplus K (vector_of K value v) (scale K (K.minus K.unit) (taken us (vector_of K value v)))) w
  unfolding taken
  rows_swept n [] v w rows closed a len e =
      subst (IsFor kind K value reads n _) (ok_same e) (record {
        elements = a;
        length_is = len;
        vector =
            sym (ap (vplus K (vector_of K value v)) (scale-vzero K _) ∙ vplus-vzero K _);
      })
  rows_swept n (u ∷ us) v w rows closed a len e =
      let f = first_fits _ (sweep_rows kind us v) w e in
      let r = rows_swept n us v f.0 (all_tail (IsRowOf kind n) u us rows) (closes_tail u us closed) a len f.1.0 in
      let is = rows 0 u (omega arith) in
      let s = lead_some u is.elements (closed.leads 0 (omega arith)) in
      let p : pivot_of u ≡ s.0 - 1 = ap (λ o. unwrap_or o 1 - 1) s.1 in
      let none : taken us (vector_of K value v) (s.0 - 1) ≡ K.nought =
      subst (λ q. taken us (vector_of K value v) q ≡ K.nought) p (taken_at us (vector_of K value v) (pivot_of u)
      (λ i l. closed.apart (suc i) 0 (omega arith) (omega arith) (λ d. absurd (omega arith)))) in
      subst (λ q. IsFor kind K value reads n (vplus K (vector_of K value v) (scale K (K.minus K.unit)
      (vplus K (scale K (vector_of K value v q) (vector_of K value u)) (taken us (vector_of K value v))))) w) (sym p)
      (take_reads n u f.0 w s.0 (vector_of K value v) (taken us (vector_of K value v)) is s.1 r none (ap (λ o. take_at kind u o f.0) (sym s.1) ∙ f.1.1))

  -- a row has no lead exactly where its vector is 0
  lead_zero : (w : List Num) → AreElements kind w → (lead_of w ≡ None) ↔ (vector_of K value w ≡ vzero K)
  lead_zero w a = ((λ e. all_nought kind K value reads w a e), (λ e. go e (lead_of w) refl))
    where
      go : vector_of K value w ≡ vzero K → (o : Option ℕ) → lead_of w ≡ o → o ≡ None
      go e None f = refl
      go e (Some s) f =
          let k = lead_is w (length w) s f in
          let l : s - 1 < length w = (let x = k.from_one in let y = k.to_end in omega arith) in
          absurd (reads.nonzero _ (a (s - 1) (residue 0) l) k.leads (sym (at_place kind K value reads w (s - 1) (residue 0) l) ∙ ap (λ x. x (s - 1)) e
          ∙ zero_at K (s - 1)))

-- what sweeping by closed rows means
pub sweep_means : (kind : Kind) (rows : List (List Num)) (row left : List Num) → IsField kind → IsClosedList kind (length row) rows →
    AreElements kind row → sweep_rows kind rows row ≡ Ok left →
    IsRowOf kind (length row) left × SweepsTo kind rows row left
sweep_means kind rows row left listed closed a e =
    let K = field_of kind in
    let value = number_of kind in
    let reads = kind_reads kind listed in
    let f = rows_swept kind K value reads (length row) rows row left closed.are_rows closed.closed a refl e in
    let is : vector_of K value left ≡ swept K (length rows) (λ i. vector_of K value (get_or rows i [])) (λ i. pivot_of (get_or rows i []))
    (vector_of K value row) =
    f.vector ∙ ap (λ w. vplus K (vector_of K value row) (scale K (K.minus K.unit) w)) (taken_is kind K value reads rows (vector_of K value row)) in
    let z = lead_zero kind K value reads left f.elements in
    let i = swept_iff K (length rows) (λ i. vector_of K value (get_or rows i [])) (λ i. pivot_of (get_or rows i [])) closed.closed (vector_of K value row) in (
      record { elements = f.elements; length_is = f.length_is },
      record { is = is; zero = ((λ h. i.0 (sym is ∙ z.0 h)), (λ h. z.1 (is ∙ i.1 h))) },
    )
