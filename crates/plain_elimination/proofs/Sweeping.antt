-- Where a sweep fits, what is left of the row stands for the vector with the pivot rows taken off.
use Rattle.std.specs.Prelude.{◌≡◌, ℕ, zero, suc, ◌+◌, ◌<◌, ◌≤◌, List, [], ◌∷◌, ◌++◌, length, get_or, Option, Some, None, option_map, Ok, true, false, Bool, All, if◌then◌else◌}
use Rattle.std.specs.List.{find}
use mathlib.Core.Path.{sym, refl, ap, ap₂, ◌∙◌, subst}
use native.Mathlib.Omega.{arith}
use Rattle.math_fields.specs.Field.{Field}
use Rattle.math_linear.specs.Vector.{Vector, vplus, scale}
use Rattle.math_linear.specs.Echelon.{take_off, reduce}
use Rattle.math_linear.proofs.Vectors.{vplus_assoc, vplus_comm, vplus_left_comm, vplus-vzero, plus-scale, scale-nought}
use Rattle.math_linear.proofs.Echelon.{take_off_none}
use Rattle.fpl_numbers.specs.declared.number.Num.{Num}
use Rattle.fpl_numbers.specs.declared.number.Kind.{Kind}
use Rattle.fpl_numbers.specs.Numbers.{IsElement, is_nought, residue, negative_of}
use Rattle.fpl_numbers.specs.Results.{map_ok}
use Rattle.fpl_log.specs.declared.terms.Term.{Term}
use Rattle.fpl_scalar.specs.Vectors.{AreElements, axpy_of}
use Rattle.plain_elimination.specs.Plain.{PivotRow, IsPivotRow, stands_at, Swept, taken_off, sweep_by, sweep_at, sweep_of}
use Rattle.fpl_numbers.specs.Reads.{Reads}
use Rattle.fpl_log.specs.Conclusion.{terms_sum}
use Rattle.plain_elimination.specs.Spans.{table_of}
use Rattle.fpl_rows.proofs.Fits.{ok_same, first_fits, part_fits, all_found}
use Rattle.fpl_rows.proofs.Readings.{IsFor, axpy_reads, at_place}
use Rattle.math_linear.specs.Lists.{vector_of}

module _ (kind : Kind) (K : Field) (value : Num → K.Carrier) (reads : Reads kind K value) where
  -- each pivot row is the conclusion of its step
  abbrev pub Cites : (ℕ → Vector K) → List PivotRow → Type 0
  Cites conclusion pivots = All (λ p. conclusion p.step ≡ vector_of K value p.row) pivots

  pub terms-append : (conclusion : ℕ → Vector K) (ts : List Term) (t : Term) → terms_sum K value conclusion (ts ++ t ∷ []) ≡
      vplus K (terms_sum K value conclusion ts) (scale K (value t.factor) (conclusion t.step))
  unfolding terms_sum
  terms-append conclusion [] t = vplus_comm K _ _
  terms-append conclusion (r ∷ ts) t = ap (vplus K _) (terms-append conclusion ts t) ∙ sym (vplus_assoc K _ _ _)

  -- one place of a sweep: the row is the vector with the pivot row taken off
  pub record IsSwept (n : ℕ) (Cited : Type 0) (conclusion : ℕ → Vector K) (v : Vector K) (x y : Swept) : Type 0 where
    pub left : IsFor kind K value reads n v y.row
    pub conserved : Cited → vplus K (vector_of K value y.row) (terms_sum K value conclusion y.terms) ≡
        vplus K (vector_of K value x.row) (terms_sum K value conclusion x.terms)

  moved_over : (v u w : Vector K) (c : K.Carrier) → vplus K (vplus K v (scale K (K.minus c) u)) (vplus K w (scale K c u)) ≡ vplus K v w
  moved_over v u w c =
      vplus_assoc K v _ _
      ∙ ap (vplus K v) (vplus_left_comm K _ w _ ∙ ap (vplus K w) (sym (plus-scale K _ _ u) ∙ ap (λ a. scale K a u) (K.plus_comm _ _ ∙ K.plus-minus c)
      ∙ scale-nought K u) ∙ vplus-vzero K w)

  by_reads : (o : Option PivotRow) (n s : ℕ) (conclusion : ℕ → Vector K) (x y : Swept) → ((p : PivotRow) → Some p ≡ o → IsPivotRow kind n p) → s < n →
      AreElements kind x.row → length x.row ≡ n → sweep_by kind o (get_or x.row s (residue 0)) x ≡ Ok y →
      IsSwept n ((p : PivotRow) → Some p ≡ o → conclusion p.step ≡ vector_of K value p.row) conclusion
      (take_off K (option_map (λ p. vector_of K value p.row) o) s (vector_of K value x.row)) x y
  unfolding take_off
  by_reads None n s conclusion x y h l a len e =
      subst (IsSwept n ((p : PivotRow) → Some p ≡ None → conclusion p.step ≡ vector_of K value p.row) conclusion (vector_of K value x.row) x)
      (ok_same e) (record { left = record { elements = a; length_is = len; vector = refl }; conserved = λ k. refl })
  by_reads (Some p) n s conclusion x y h l a len e = go (is_nought c) refl e
    where
      c : Num
      c = get_or x.row s (residue 0)

      u : Vector K
      u = vector_of K value p.row

      c_in : IsElement kind c
      c_in = a s (residue 0) (omega arith)

      is_c : vector_of K value x.row s ≡ value c
      is_c = at_place kind K value reads x.row s (residue 0) (omega arith)

      go : (b : Bool) → is_nought c ≡ b → (if b then Ok x else map_ok (λ row. taken_off x p c row) (axpy_of kind x.row (negative_of kind c) p.row)) ≡ Ok y →
          IsSwept n ((q : PivotRow) → Some q ≡ Some p → conclusion q.step ≡ vector_of K value q.row) conclusion
          (vplus K (vector_of K value x.row) (scale K (K.minus (vector_of K value x.row s)) u)) x y
      go true z f = subst (IsSwept n ((q : PivotRow) → Some q ≡ Some p → conclusion q.step ≡ vector_of K value q.row) conclusion
          (vplus K (vector_of K value x.row) (scale K (K.minus (vector_of K value x.row s)) u)) x) (ok_same f)
          (record {
            left = record { elements = a; length_is = len; vector = sym (take_off_none K (Some u) s _ (is_c ∙ reads.zero_is c c_in z)) };
            conserved = λ k. refl;
          })
      go false z f =
          let r = part_fits _ (axpy_of kind x.row (negative_of kind c) p.row) y f in
          let k = axpy_reads kind K value reads x.row p.row r.0 (negative_of kind c) a (reads.negative c c_in).0 (h p refl).elements
          (len ∙ sym (h p refl).length_is) r.1.0 in
          let is_v : vector_of K value r.0 ≡ vplus K (vector_of K value x.row) (scale K (K.minus (value c)) u) =
          k.vector ∙ ap (λ w. vplus K (vector_of K value x.row) (scale K w u)) (reads.negative c c_in).1 in
          subst (IsSwept n ((q : PivotRow) → Some q ≡ Some p → conclusion q.step ≡ vector_of K value q.row) conclusion
          (vplus K (vector_of K value x.row) (scale K (K.minus (vector_of K value x.row s)) u)) x) (sym r.1.1)
          (record {
            left = record {
              elements = k.elements;
              length_is = k.length_is ∙ len;
              vector = is_v ∙
                  ap (λ w. vplus K (vector_of K value x.row) (scale K (K.minus w) u)) (sym is_c);
            };
            conserved = λ k'. ap₂ (vplus K) is_v (terms-append conclusion x.terms (record { step = p.step; factor = c }) ∙
                ap (λ w. vplus K (terms_sum K value conclusion x.terms) (scale K (value c) w)) (k' p refl)) ∙
                moved_over (vector_of K value x.row) u (terms_sum K value conclusion x.terms) (value c);
          })

  pub at_reads : (pivots : List PivotRow) (n s : ℕ) (conclusion : ℕ → Vector K) (x y : Swept) → All (IsPivotRow kind n) pivots → s < n →
      AreElements kind x.row → length x.row ≡ n → sweep_at kind pivots s x ≡ Ok y →
      IsSwept n (Cites conclusion pivots) conclusion (take_off K (table_of K value pivots s) s (vector_of K value x.row)) x y
  at_reads pivots n s conclusion x y h l a len e =
      let r = by_reads (find (stands_at (s + 1)) pivots) n s conclusion x y (λ p f. all_found (IsPivotRow kind n) (stands_at (s + 1)) pivots p h f) l a len e in
      record {
        left = r.left;
        conserved = λ k. r.conserved (λ p f. all_found (λ p. conclusion p.step ≡ vector_of K value p.row)
            (stands_at (s + 1)) pivots p k f);
      }

  -- a sweep: what is left is the vector reduced
  pub sweep_reads : (pivots : List PivotRow) (n m : ℕ) (conclusion : ℕ → Vector K) (x y : Swept) → All (IsPivotRow kind n) pivots → m ≤ n →
      AreElements kind x.row → length x.row ≡ n → sweep_of kind pivots m x ≡ Ok y →
      IsSwept n (Cites conclusion pivots) conclusion (reduce K (table_of K value pivots) m (vector_of K value x.row)) x y
  unfolding reduce
  sweep_reads pivots n zero conclusion x y h l a len e = subst (IsSwept n (Cites conclusion pivots) conclusion (vector_of K value x.row) x)
      (ok_same e) (record { left = record { elements = a; length_is = len; vector = refl }; conserved = λ k. refl })
  sweep_reads pivots n (suc s) conclusion x y h l a len e =
      let f = first_fits _ (sweep_at kind pivots s x) y e in
      let t = at_reads pivots n s conclusion x f.0 h (omega arith) a len f.1.0 in
      let r = sweep_reads pivots n s conclusion f.0 y h (omega arith) t.left.elements t.left.length_is f.1.1 in
      record {
        left = record {
          elements = r.left.elements;
          length_is = r.left.length_is;
          vector = r.left.vector ∙
              ap (reduce K (table_of K value pivots) s) t.left.vector;
        };
        conserved = λ k. r.conserved k ∙ t.conserved k;
      }
