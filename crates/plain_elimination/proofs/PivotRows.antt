-- Pivot rows are an echelon.
use Rattle.std.specs.Prelude.{◌≡◌, ℕ, ◌+◌, ◌-◌, ◌<◌, ◌≤◌, List, [], ◌∷◌, length, Option, Some, None, option_map, true, false, Bool, All, cond, nat_eq}
use Rattle.std.specs.List.{find}
use mathlib.Core.Path.{sym, refl, ap, ◌∙◌, subst}
use native.Mathlib.Omega.{arith}
use native.Mathlib.Decide.{dec_lt}
use Rattle.math_fields.specs.Field.{Field}
use Rattle.math_linear.specs.Vector.{Vector}
use Rattle.math_linear.specs.Lists.{vector_of}
use Rattle.math_linear.specs.Echelon.{HasLead, IsEchelon}
use Rattle.fpl_numbers.specs.declared.number.Num.{Num}
use Rattle.fpl_numbers.specs.declared.number.Kind.{Kind}
use Rattle.fpl_numbers.specs.Numbers.{IsField, residue}
use Rattle.fpl_numbers.specs.Reads.{Reads}
use Rattle.fpl_scalar.specs.Vectors.{AreElements}
use Rattle.fpl_rows.proofs.Fits.{some_same, none_some, all_found}
use Rattle.fpl_rows.proofs.Ones.{one_element, one_is}
use Rattle.fpl_rows.proofs.Readings.{at_place, nought_at, vector_past, is_nought_from}
use Rattle.plain_elimination.specs.Plain.{PivotRow, IsPivotRow, stands_at}
use Rattle.plain_elimination.specs.Spans.{table_of}

test_passes : {X : Type 0} (test : X → Bool) (xs : List X) (x : X) → Some x ≡ find test xs → test x ≡ true
test_passes test [] x e = absurd (none_some (sym e))
test_passes test (y ∷ xs) x e = go (test y) refl (test_passes test xs x) e
  where
    go : (b : Bool) → test y ≡ b → (Some x ≡ find test xs → test x ≡ true) → Some x ≡ cond b (Some y) (find test xs) → test x ≡ true
    go true t k f = ap test (some_same f) ∙ t
    go false t k f = k f

pub found_lead : (s : ℕ) (pivots : List PivotRow) (p : PivotRow) → Some p ≡ find (stands_at s) pivots → p.lead ≡ s
found_lead s pivots p e = (let t : nat_eq p.lead s ≡ true = test_passes (stands_at s) pivots p e in grind arith)

module _ (kind : Kind) (K : Field) (value : Num → K.Carrier) (reads : Reads kind K value) (listed : IsField kind) (n : ℕ) where
  pub pivot_leads : (p : PivotRow) → IsPivotRow kind n p → HasLead K (p.lead - 1) (vector_of K value p.row)
  pivot_leads p h = record {
    leads = at_place kind K value reads p.row (p.lead - 1) (residue 0) (let a = h.from_one in let b = h.to_end in let c = h.length_is in omega arith)
        ∙ ap value h.leads ∙ one_is kind K value reads listed;
    above = λ t l. go t (let a = h.from_one in omega arith) (dec_lt t n);
  }
    where
      go : (t : ℕ) → p.lead ≤ t → Dec (t < n) → vector_of K value p.row t ≡ K.nought
      go t l (yes m) = nought_at kind K value reads p.row t h.elements (let c = h.length_is in omega arith) (h.above t l m)
      go t l (no m) = vector_past K value p.row t (let c = h.length_is in omega arith)

  pub pivot_row : (p : PivotRow) → AreElements kind p.row → length p.row ≡ n → 1 ≤ p.lead → p.lead ≤ n →
      HasLead K (p.lead - 1) (vector_of K value p.row) → IsPivotRow kind n p
  pivot_row p a len one end h = record {
    elements = a;
    length_is = len;
    from_one = one;
    to_end = end;
    leads = reads.apart _ _ (a (p.lead - 1) (residue 0) (omega arith)) (one_element kind listed)
        (sym (at_place kind K value reads p.row (p.lead - 1) (residue 0) (omega arith)) ∙ h.leads ∙ sym (one_is kind K value reads listed));
    above = λ t l m. is_nought_from kind K value reads _ (a t (residue 0) (omega arith)) (sym
        (at_place kind K value reads p.row t (residue 0) (omega arith)) ∙ h.above t (omega arith));
  }

  pub pivots_echelon : (pivots : List PivotRow) → All (IsPivotRow kind n) pivots → IsEchelon K n (table_of K value pivots)
  pivots_echelon pivots all = record {
    has_lead = λ s u e. (found s u (find (stands_at (s + 1)) pivots) refl e).0;
    below = λ s u e. (found s u (find (stands_at (s + 1)) pivots) refl e).1;
  }
    where
      found : (s : ℕ) (u : Vector K) (o : Option PivotRow) → find (stands_at (s + 1)) pivots ≡ o →
          option_map (λ p. vector_of K value p.row) o ≡ Some u → HasLead K s u × (s < n)
      found s u None f e = absurd (none_some e)
      found s u (Some p) f e =
          let h = all_found (IsPivotRow kind n) (stands_at (s + 1)) pivots p all (sym f) in
          let l = found_lead (s + 1) pivots p (sym f) in (
            subst (λ w. HasLead K w u) (let a : p.lead - 1 ≡ s = omega arith in a) (subst (HasLead K (p.lead - 1)) (some_same e) (pivot_leads p h)),
            (let b = h.to_end in omega arith),
          )
