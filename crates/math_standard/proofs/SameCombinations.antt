-- Combinations of the new weight that are derivably equal are the same.
use Rattle.std.specs.Prelude.{ℕ, zero, suc, ◌≡◌, ◌≢◌, ◌⊎◌, ◌<◌, ◌≤◌, ◌+◌, ◌-◌, length}
use mathlib.Core.Path.{sym, ap, ◌∙◌, fun_ext, subst}
use mathlib.Core.Logic.{inl, inr}
use native.Mathlib.Omega.{arith}
use native.Mathlib.Decide.{ℕ_discrete, dec_lt}
use Rattle.math_fields.specs.Field.{Field}
use Rattle.math_linear.specs.Vector.{Vector, vzero, vplus, scale, place, total}
use Rattle.math_algebra.specs.Tree.{none, multiple, Presentation, IsOver, left, right}
use Rattle.math_algebra.proofs.Freely.{DerivesFreely}
use Rattle.math_algebra.specs.Derives.{Expression}
use Rattle.math_algebra.proofs.Freely.DerivesFreely.{back, then, in_multiple, multiple_unit, multiple_multiple}
use Rattle.math_algebra.specs.Table.{Table, Symbol, IsOf, weight_at}
use Rattle.math_algebra.proofs.Within.{derives_within, combined_over}
use Rattle.math_algebra.specs.Tree.IsOver.{over_gen, over_bracket}
use Rattle.math_algebra.specs.Standard.{combined, IsCombination, IsStandardNext}
use Rattle.math_algebra.specs.Symbols.{symbols, symbol_at, symbol_tree, IsSymbol}
use Rattle.math_algebra.specs.Symbols.IsSymbol.{is_generator, is_pair}
use Rattle.math_linear.proofs.Span.{apart_zero}
use Rattle.math_algebra.proofs.Derived.{of_path, both, both_same, combined_vzero, combined_vplus, combined_scale, combined_place, combined_below}
use Rattle.math_values.proofs.Sources.{less_none}
use Rattle.math_values.proofs.SymbolLists.{place_symbol}
use Rattle.math_linear.proofs.Places.{only_vplus, only_scale, zero_at}
use Rattle.math_standard.proofs.NewPlaces.{longer}
use Rattle.math_standard.proofs.BuiltFacts.{other_side, combined_suc}

-- combinations of new basis elements are combinations of the symbols that they stand for
module _ (K : Field) (P : Presentation K.Carrier) (symbol tree' : ℕ → Expression K) (n : ℕ) (slot : ℕ → ℕ) where
  spread : ℕ → Vector K → Vector K
  spread i v = total K i (λ j. scale K (v (n + j)) (place K (slot j)))

  new_combined : (i s : ℕ) (v : Vector K) → ((j : ℕ) → j < i → tree' (n + j) ≡ symbol (slot j)) → ((j : ℕ) → j < i → slot j < s) →
      ((k : ℕ) → k < n → v k ≡ K.nought) →
      DerivesFreely K P (combined K tree' (n + i) v) (combined K symbol s (spread i v))
  unfolding spread total
  new_combined zero s v t l z =
      let e : n + zero ≡ n = omega arith in
      then (of_path K P _ _ (ap (λ w. combined K tree' w v) e ∙ combined_below K P tree' n v (vzero K) (λ k h. z k h ∙ sym (zero_at K k))))
      (then (combined_vzero K P tree' n) (back (combined_vzero K P symbol s)))
  new_combined (suc i) s v t l z =
      let e : n + suc i ≡ suc (n + i) = omega arith in
      then (of_path K P _ _ (ap (λ w. combined K tree' w v) e ∙ combined_suc K P tree' (n + i) v))
      (then
      (both_same K P (new_combined i s v (λ j h. t j (omega arith)) (λ j h. l j (omega arith)) z)
      (then (in_multiple (v (n + i)) (then (of_path K P _ _ (t i (omega arith))) (back (combined_place K P symbol s (slot i) (l i (omega arith))))))
      (back (combined_scale K P symbol s (v (n + i)) (place K (slot i))))))
      (back (combined_vplus K P symbol s _ _)))

-- combinations of the new weight that are derivably equal are the same
pub symbol_over : (K : Field) (P : Presentation K.Carrier) (T : Table K) (tree : ℕ → Expression K) →
    ((i : ℕ) → i < length T.basis → IsOver P (tree i)) → (x : Symbol) → IsSymbol P T x → IsOver P (symbol_tree tree x)
symbol_over K P T tree over _ (is_generator g l w) = over_gen g l
symbol_over K P T tree over _ (is_pair i j l k w r) = over_bracket (over i l) (over j k)

module _ (K : Field) (P : Presentation K.Carrier) (rel_over : (k : ℕ) → k < length P.relations → IsOver P (left P k) × IsOver P (right P k))
    (T T' : Table K) (tree tree' : ℕ → Expression K) (trees_over : (i : ℕ) → i < length T.basis → IsOver P (tree i))
    (next : IsStandardNext K P T T' tree tree') where
  abbrev n : ℕ
  n = length T.basis

  abbrev symbol' : ℕ → Expression K
  symbol' s = symbol_tree tree (symbol_at P T s)

  symbols_over : (s : ℕ) → s < length (symbols P T) → IsOver P (symbol' s)
  symbols_over s l = symbol_over K P T tree trees_over (symbol_at P T s) (place_symbol K P T s l)

  old_zero : (v : Vector K) → IsOf K T' (suc T.weight) v → ((k : ℕ) → k < n → weight_at T k ≤ T.weight) → (k : ℕ) → k < n → v k ≡ K.nought
  old_zero v h within k l = go (h k)
    where
      go : (v k ≡ K.nought) ⊎ ((k < length T'.basis) × (weight_at T' k ≡ suc T.weight)) → v k ≡ K.nought
      go (inl e) = e
      go (inr f) = absurd (omega (arith, f.1, ap (λ b. b.weight) (next.basis.old k l), within k l))

  no_new : (v : Vector K) → ((k : ℕ) → k < n → v k ≡ K.nought) → (i : ℕ) → i < next.count → ((k : ℕ) → n + suc i ≤ k → v k ≡ K.nought) →
      DerivesFreely K P (combined K tree' (n + suc i) v) none → v (n + i) ≡ K.nought
  no_new v z i l past h = go (K.same (v (n + i)) K.nought)
    where
      c : K.Carrier
      c = v (n + i)

      rest : DerivesFreely K P (combined K tree' (n + i) v) (combined K symbol' (next.slot i) (spread K P symbol' tree' n next.slot i v))
      rest = new_combined K P symbol' tree' n next.slot i (next.slot i) v (λ j k. next.new_tree j (omega arith)) (λ j k. next.fresh.ascend j i k l) z

      two : DerivesFreely K P (both K P (combined K symbol' (next.slot i) (spread K P symbol' tree' n next.slot i v)) (multiple c (symbol' (next.slot i)))) none
      two =
          let e : n + suc i ≡ suc (n + i) = omega arith in
          then (both_same K P (back rest) (in_multiple c (of_path K P _ _ (sym (next.new_tree i l)))))
          (then (of_path K P _ _ (sym (ap (λ w. combined K tree' w v) e ∙ combined_suc K P tree' (n + i) v))) h)

      combination : (c ≢ K.nought) → IsCombination K P T tree (next.slot i)
      combination d = record {
        what = scale K (K.inverse c) (scale K (K.minus K.unit) (spread K P symbol' tree' n next.slot i v));
        equal =
            derives_within K P rel_over _ _ (symbols_over (next.slot i) (next.fresh.there i l).0)
            (combined_over K P symbol' (next.slot i) _ (λ s o. symbols_over s (let f = (next.fresh.there i l).0 in omega arith)))
            (then (back (multiple_unit (symbol' (next.slot i))))
            (then (of_path K P _ _ (ap (λ w. multiple w (symbol' (next.slot i))) (sym (K.times_comm _ _ ∙ K.times-inverse c d))))
            (then (back (multiple_multiple (K.inverse c) c (symbol' (next.slot i))))
            (then (in_multiple (K.inverse c) (then (other_side K P _ _ two) (back (combined_scale K P symbol' (next.slot i) _ _))))
            (back (combined_scale K P symbol' (next.slot i) _ _))))));
      }

      go : Dec (c ≡ K.nought) → c ≡ K.nought
      go (yes e) = e
      go (no d) = absurd ((next.fresh.there i l).1 (combination d))

  all_zero : (v : Vector K) → ((k : ℕ) → k < n → v k ≡ K.nought) → (i : ℕ) → i ≤ next.count → ((k : ℕ) → n + i ≤ k → v k ≡ K.nought) →
      DerivesFreely K P (combined K tree' (n + i) v) none → (k : ℕ) → v k ≡ K.nought
  all_zero v z zero l past h = λ k. elim (dec_lt k n) [ yes d ↦ z k d | no d ↦ past k (omega arith) ]
  all_zero v z (suc i) l past h =
      let e = no_new v z i (omega arith) past h in
      all_zero v z i (omega arith) (λ k d. elim (ℕ_discrete k (n + i)) [ yes f ↦ subst (λ k. v k ≡ K.nought) (sym f) e | no f ↦ past k (omega arith) ])
      (then (back (longer K P tree' (n + i) 1 v
      (λ k d. elim (ℕ_discrete k (n + i)) [ yes f ↦ subst (λ k. v k ≡ K.nought) (sym f) e | no f ↦ past k (omega arith) ])))
      (then (of_path K P _ _ (let f : n + i + 1 ≡ n + suc i = omega arith in ap (λ w. combined K tree' w v) f)) h))

  pub same_vector : (v w : Vector K) → ((k : ℕ) → k < n → weight_at T k ≤ T.weight) → IsOf K T' (suc T.weight) v → IsOf K T' (suc T.weight) w →
      DerivesFreely K P (combined K tree' (length T'.basis) v) (combined K tree' (length T'.basis) w) → v ≡ w
  same_vector v w within h k d =
      apart_zero K v w (fun_ext (λ s. all_zero x (λ s l. old_zero x of_x within s l) next.count (omega arith) (λ s l. short s l (of_x s)) none_x s ∙
      sym (zero_at K s)))
    where
      x : Vector K
      x = vplus K v (scale K (K.minus K.unit) w)

      of_x : IsOf K T' (suc T.weight) x
      of_x = only_vplus K (λ i. (i < length T'.basis) × (weight_at T' i ≡ suc T.weight)) _ _ h (only_scale K _ _ _ k)

      short : (s : ℕ) → n + next.count ≤ s → (x s ≡ K.nought) ⊎ ((s < length T'.basis) × (weight_at T' s ≡ suc T.weight)) → x s ≡ K.nought
      short s l (inl e) = e
      short s l (inr f) = absurd (omega (arith, f.0, next.basis.more))

      none_x : DerivesFreely K P (combined K tree' (n + next.count) x) none
      none_x =
          then (of_path K P _ _ (ap (λ w. combined K tree' w x) (sym next.basis.more)))
          (then (combined_vplus K P tree' _ _ _) (then (both_same K P d (combined_scale K P tree' _ _ _)) (less_none K P _)))
